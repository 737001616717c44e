-- One branch opened.
use Rattle.std.proofs.Common.{◌≡◌, ℕ, zero, suc, ◌+◌, ◌<◌, Bool, true, false, cond, is_some, Some, None, Option, sym, refl, ap, ◌∙◌, not-suc-le-zero}
use Rattle.std.proofs.lemmas.Bool.{cond-true, cond-false, true≢false}
use Rattle.passes.specs.Holding.{Entries}
use Rattle.passes.specs.Marks.{with_entry}
use Rattle.passes.specs.declared.holds.Entry.TheVariants.{On, Off}
use Rattle.search.specs.declared.found.Found.{Found}
use Rattle.search.specs.Select.{Branching, opened, counted, explored}
use Rattle.search.specs.Walk.{next_at, open_branch}

pub next_at_some : (k : ℕ) (o : Option ℕ) → 0 < k → next_at k o ≡ o
next_at_some zero o l = absurd (not-suc-le-zero l)
next_at_some (suc k) o l = refl

none_is_some : (v : ℕ) → ◌≡◌ {A = Option ℕ} None (Some v) → ⊥
none_is_some v e = true≢false (sym (ap is_some e))

-- the ways of a branch, over whether it is cut and the option to branch on: where it leads, and all that follows
abbrev way : {A : Type 0} → Bool → Option ℕ → A → A → Option ℕ × A
way cut o s leaf = cond cut (None, s) (elim o [ None ↦ (None, leaf) | Some v ↦ (Some v, s) ])

abbrev follows : {A : Type 0} → Bool → Option ℕ → A → A → (ℕ → A) → A
follows cut o s leaf both = cond cut s (elim o [ None ↦ leaf | Some v ↦ both v ])

leaf_way : {A : Type 0} (cut : Bool) (o : Option ℕ) (s leaf : A) (both : ℕ → A) → (way cut o s leaf).0 ≡ None → follows cut o s leaf both ≡ (way cut o s leaf).1
leaf_way true o s leaf both e = refl
leaf_way false None s leaf both e = refl
leaf_way false (Some v) s leaf both e = absurd (none_is_some v (sym e))

fork_way : {A : Type 0} (cut : Bool) (o : Option ℕ) (s leaf : A) (both : ℕ → A) (v : ℕ) → (way cut o s leaf).0 ≡ Some v
    → (follows cut o s leaf both ≡ both v) × (o ≡ Some v) × ((way cut o s leaf).1 ≡ s)
fork_way true o s leaf both v e = absurd (none_is_some v e)
fork_way false None s leaf both v e = absurd (none_is_some v e)
fork_way false (Some w) s leaf both v e = (ap both (same e), e, refl)
  where
    same : ◌≡◌ {A = Option ℕ} (Some w) (Some v) → w ≡ v
    same e = cc

module _ {F : Type 0} (plan : Branching F) where
  abbrev cut_at : Entries → Found F → Bool
  cut_at h s = plan.cuts h s.best

  abbrev leaf_at : Entries → Found F → Found F
  leaf_at h s = counted plan h (opened s)

  module _ (k : ℕ) (h : Entries) (s : Found F) where
    pub turn_cut : plan.cuts h s.best ≡ true → open_branch plan k h s ≡ (None, opened s)
    unfolding open_branch
    turn_cut t = cond-true (cut_at h s) _ (elim (next_at k (plan.next h)) [ None ↦ (None, leaf_at h s) | Some v ↦ (Some v, opened s) ]) t

    module _ (f : plan.cuts h s.best ≡ false) where
      turn_open : open_branch plan k h s ≡ way false (next_at k (plan.next h)) (opened s) (leaf_at h s)
      unfolding open_branch
      turn_open = cond-false (cut_at h s) (None, opened s) _ f

      pub turn_option : (open_branch plan k h s).0 ≡ next_at k (plan.next h)
      turn_option = ap (λ t. t.0) turn_open ∙ by (next_at k (plan.next h))
        where
          by : (o : Option ℕ) → (way false o (opened s) (leaf_at h s)).0 ≡ o
          by None = refl
          by (Some v) = refl

      pub turn_leaf : is_some (next_at k (plan.next h)) ≡ false → (open_branch plan k h s).1 ≡ counted plan h (opened s)
      turn_leaf none = ap (λ t. t.1) turn_open ∙ by (next_at k (plan.next h)) none
        where
          by : (o : Option ℕ) → is_some o ≡ false → (way false o (opened s) (leaf_at h s)).1 ≡ leaf_at h s
          by None e = refl
          by (Some v) e = absurd (true≢false e)

      pub turn_fork : is_some (next_at k (plan.next h)) ≡ true → (open_branch plan k h s).1 ≡ opened s
      turn_fork some = ap (λ t. t.1) turn_open ∙ by (next_at k (plan.next h)) some
        where
          by : (o : Option ℕ) → is_some o ≡ true → (way false o (opened s) (leaf_at h s)).1 ≡ opened s
          by None e = absurd (true≢false (sym e))
          by (Some v) e = refl

    -- one branch more is opened
    pub turn_openings : (open_branch plan k h s).1.openings ≡ s.openings + 1
    unfolding open_branch
    turn_openings = by (cut_at h s) (next_at k (plan.next h)) (plan.replaces (plan.figure_at h) s.best)
      where
        taken : Found F
        taken = record { best = Some (record { holds = record { entries = h }; figure = plan.figure_at h }); openings = s.openings + 1 }

        by : (cut : Bool) (o : Option ℕ) (high : Bool) → (way cut o (opened s) (cond high taken (opened s))).1.openings ≡ s.openings + 1
        by true o high = refl
        by false None true = refl
        by false None false = refl
        by false (Some v) high = refl

  -- a branch that nothing follows
  pub leaf_step : (k : ℕ) (h : Entries) (s : Found F) → (open_branch plan k h s).0 ≡ None → explored plan k h s ≡ (open_branch plan k h s).1
  unfolding open_branch explored
  leaf_step zero h s e = leaf_way (cut_at h s) None (opened s) (leaf_at h s) (λ _. s) e
  leaf_step (suc k) h s e = leaf_way (cut_at h s) (plan.next h) (opened s) (leaf_at h s) _ e

  -- a branch with an option v opened on and then off
  pub record Forks (k : ℕ) (h : Entries) (s : Found F) (v : ℕ) : Type 0 where
    pub below : ℕ
    pub deep : k ≡ suc below
    pub option : plan.next h ≡ Some v
    pub both : explored plan k h s ≡ explored plan below (with_entry h v Off) (explored plan below (with_entry h v On) (open_branch plan k h s).1)

  pub fork_step : (k : ℕ) (h : Entries) (s : Found F) (v : ℕ) → (open_branch plan k h s).0 ≡ Some v → Forks k h s v
  unfolding open_branch explored
  fork_step zero h s v e = absurd (none (cut_at h s) e)
    where
      none : (cut : Bool) → (way cut None (opened s) (leaf_at h s)).0 ≡ Some v → ⊥
      none true q = none_is_some v q
      none false q = none_is_some v q
  fork_step (suc k) h s v e =
      let w = fork_way (cut_at h s) (plan.next h) (opened s) (leaf_at h s) (λ v. explored plan k (with_entry h v Off) (explored plan k (with_entry h v On) (opened s))) v e in
      record {
        below = k;
        deep = refl;
        option = w.1;
        both = w.0 ∙ sym (ap (λ t. explored plan k (with_entry h v Off) (explored plan k (with_entry h v On) t)) w.2);
      }

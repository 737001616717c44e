-- What is left to explore, from the state of the loop.
use Rattle.std.proofs.Common.{◌≡◌, ℕ, zero, suc, ◌+◌, ◌-◌, ◌^◌, ◌<◌, ◌≤◌, Bool, true, false, cond, eqb, ◌⊎◌, List, Some, None, length, get_or, set, replicate, sym, refl, ap, ◌∙◌, subst, ap₂, subst₂, inl, inr, not-suc-le-zero, add-one, arith}
use mathlib.Core.Path.{subst₃}
use Rattle.std.proofs.lemmas.List.{set-set, set-get_or, get_or-set_same, get_or-set_other, length-set}
use Rattle.std.proofs.lemmas.Bool.{cond-true, cond-false, cond_both, cases_Bool}
use Rattle.passes.specs.Holding.{Entries, entry}
use Rattle.passes.specs.Marks.{with_entry}
use Rattle.passes.specs.declared.holds.Entry.{Entry}
use Rattle.passes.specs.declared.holds.Entry.TheVariants.{Free, On, Off}
use Rattle.search.specs.declared.found.Found.{Found}
use Rattle.search.specs.declared.trail.Branch.{Branch}
use Rattle.search.specs.Select.{Branching, explored}
use Rattle.search.specs.Walk.{open_branch, back, no_branch, off_side}
use Rattle.search.proofs.Openings.{nodes_few, explored_more, explored_few}
use Rattle.search.proofs.Retreats.{back_on, back_off}
use Rattle.search.proofs.Turns.{turn_openings, leaf_step, Forks, fork_step}

-- of two changes of one entry the later stays
entry_again : (h : Entries) (v : ℕ) (a b : Entry) → with_entry (with_entry h v a) v b ≡ with_entry h v b
entry_again h v a b = by (eqb v 0)
  where
    by : (none : Bool) → cond none (cond none h (set h (v - 1) a)) (set (cond none h (set h (v - 1) a)) (v - 1) b) ≡ cond none h (set h (v - 1) b)
    by true = refl
    by false = set-set h (v - 1) a b

-- a free option that is held and released again
released : (h : Entries) (v : ℕ) → entry h v ≡ Free → with_entry (with_entry h v On) v Free ≡ h
released h v is_free =
    entry_again h v On Free
    ∙ cond_both (eqb v 0) h (set h (v - 1) Free) (λ x. x ≡ h) (λ e. refl) (λ e. ap (set h (v - 1)) (sym is_free) ∙ set-get_or h (v - 1) Free)

below_other : (trail : List Branch) (i j : ℕ) (b : Branch) → i < j → get_or (set trail j b) i no_branch ≡ get_or trail i no_branch
below_other trail i j b l = get_or-set_other trail j i b no_branch (omega arith)

module _ {F : Type 0} (plan : Branching F) (n : ℕ) where
  -- what is found once the off sides that wait on the trail are explored too
  unfoldable pub resume : List Branch → ℕ → Entries → Found F → Found F
  resume trail zero h s = s
  resume trail (suc d) h s =
      resume trail d (with_entry h (get_or trail d no_branch).option Free)
      (cond (get_or trail d no_branch).on (explored plan (n - suc d) (with_entry h (get_or trail d no_branch).option Off) s) s)

  resume_more : (trail : List Branch) (d : ℕ) (h : Entries) (s : Found F) → s.openings ≤ (resume trail d h s).openings
  unfolding resume
  resume_more trail zero h s = omega arith
  resume_more trail (suc d) h s =
      let b : Branch = get_or trail d no_branch in
      let off : Found F = explored plan (n - suc d) (with_entry h b.option Off) s in
      let first : s.openings ≤ (cond b.on off s).openings =
      cond_both b.on off s (λ x. s.openings ≤ x.openings) (λ e. omega (arith, explored_more plan (n - suc d) (with_entry h b.option Off) s)) (λ e. omega arith) in
      let rest = resume_more trail d (with_entry h b.option Free) (cond b.on off s) in
      omega arith

  resume_set : (trail : List Branch) (d j : ℕ) (b : Branch) (h : Entries) (s : Found F) → d ≤ j → resume (set trail j b) d h s ≡ resume trail d h s
  unfolding resume
  resume_set trail zero j b h s l = refl
  resume_set trail (suc d) j b h s l =
      ap (λ x. resume (set trail j b) d (with_entry h x.option Free) (cond x.on (explored plan (n - suc d) (with_entry h x.option Off) s) s)) (below_other trail d j b l)
      ∙ resume_set trail d j b _ _ (omega arith)

  -- with one branch more on the trail, the holds h as that branch changes them
  resume_top : (trail : List Branch) (d : ℕ) (b : Branch) (h : Entries) (s : Found F) → d < length trail
      → resume (set trail d b) (suc d) h s ≡ resume trail d (with_entry h b.option Free) (cond b.on (explored plan (n - suc d) (with_entry h b.option Off) s) s)
  unfolding resume
  resume_top trail d b h s room =
      ap (λ x. resume (set trail d b) d (with_entry h x.option Free) (cond x.on (explored plan (n - suc d) (with_entry h x.option Off) s) s)) (get_or-set_same trail d b no_branch room)
      ∙ resume_set trail d d b _ _ (omega arith)

  module _ (trail : List Branch) where
    -- where a retreat ends: nothing is left, or an off side is next
    pub record Lands (d : ℕ) (h : Entries) (d' : ℕ) (trail' : List Branch) (h' : Entries) : Type 0 where
      pub less : d' ≤ d
      pub long : length trail' ≡ length trail
      pub ended : d' ≡ 0 → (s : Found F) → resume trail d h s ≡ s
      pub goes_on : 0 < d' → (s : Found F) → resume trail d h s ≡ resume trail' d' h' (explored plan (n - d') h' s)

    back_lands : (d : ℕ) (h : Entries) → d ≤ length trail → Lands d h (back trail d h).0 (back trail d h).1 (back trail d h).2
    unfolding back resume
    back_lands zero h l = record { less = omega arith; long = refl; ended = λ e s. refl; goes_on = λ q s. absurd (not-suc-le-zero q) }
    back_lands (suc d) h l =
        by (cases_Bool b.on) (back_lands d (with_entry h b.option Free) (omega arith))
      where
        b : Branch
        b = get_or trail d no_branch

        none : suc d ≡ 0 → ⊥
        none q = omega arith

        by : (b.on ≡ true) ⊎ (b.on ≡ false)
            → Lands d (with_entry h b.option Free) (back trail d (with_entry h b.option Free)).0 (back trail d (with_entry h b.option Free)).1 (back trail d (with_entry h b.option Free)).2
            → Lands (suc d) h (back trail (suc d) h).0 (back trail (suc d) h).1 (back trail (suc d) h).2
        by (inl t) rest = subst (λ r. Lands (suc d) h r.0 r.1 r.2) (sym (back_on trail (suc d) d h refl t)) (record {
          less = omega arith;
          long = length-set trail d (off_side b);
          ended = λ z s. absurd (none z);
          goes_on = λ q s.
              ap (resume trail d (with_entry h b.option Free)) (cond-true b.on (explored plan (n - suc d) (with_entry h b.option Off) s) s t)
              ∙ sym (resume_top trail d (off_side b) (with_entry h b.option Off) (explored plan (n - suc d) (with_entry h b.option Off) s) l
              ∙ ap (λ a. resume trail d a (explored plan (n - suc d) (with_entry h b.option Off) s)) (entry_again h b.option Off Free));
        })
        by (inr f) rest =
            let skips = λ (s : Found F). ap (resume trail d (with_entry h b.option Free)) (cond-false b.on (explored plan (n - suc d) (with_entry h b.option Off) s) s f) in
            let less' = rest.less in
            subst (λ r. Lands (suc d) h r.0 r.1 r.2) (sym (back_off trail (suc d) d h refl f)) (record {
              less = omega arith;
              long = rest.long;
              ended = λ z s. skips s ∙ rest.ended z s;
              goes_on = λ q s. skips s ∙ rest.goes_on q s;
            })

  module _ (h₀ : Entries) (s₀ : Found F) where
    -- what the loop keeps: what is found at the end is what the whole is to find
    pub record Walking (trail : List Branch) (d : ℕ) (h : Entries) (s : Found F) : Type 0 where
      pub deep : d ≤ n
      pub long : length trail ≡ 64
      pub whole : resume trail d h (explored plan (n - d) h s) ≡ explored plan n h₀ s₀

    pub walk_start : Walking (replicate 64 no_branch) 0 h₀ s₀
    unfolding resume
    walk_start = let z : n - 0 ≡ n = omega arith in record { deep = omega arith; long = refl; whole = ap (λ k. explored plan k h₀ s₀) z }

module _ {F : Type 0} {plan : Branching F} {n : ℕ} {h₀ : Entries} {s₀ : Found F} {trail : List Branch} {d : ℕ} {h : Entries} {s : Found F} (walking : Walking plan n h₀ s₀ trail d h s) where
  -- a branch is left to open
  walk_left : s.openings < (explored plan n h₀ s₀).openings
  walk_left =
      omega (arith, explored_more plan (n - d) h s, resume_more plan n trail d h (explored plan (n - d) h s), ap (λ x. x.openings) walking.whole)

  pub walk_few : n ≤ 20 → s₀.openings ≡ 0 → s.openings < 2 ^ 63
  walk_few few z = omega (arith, walk_left, explored_few plan n h₀ s₀, nodes_few n few)

  module _ {s' : Found F} (opens : s' ≡ (open_branch plan (n - d) h s).1) where
    pub walk_less : (explored plan n h₀ s₀).openings - s'.openings < (explored plan n h₀ s₀).openings - s.openings
    walk_less = omega (arith, walk_left, ap (λ x. x.openings) opens, turn_openings plan (n - d) h s)

    pub walk_fork : {v : ℕ} {h' : Entries} → n ≤ 20 → Some v ≡ (open_branch plan (n - d) h s).0 → ((u : ℕ) → plan.next h ≡ Some u → entry h u ≡ Free)
        → h' ≡ with_entry h v On → Walking plan n h₀ s₀ (set trail d (record { option = v; on = true })) (d + 1) h' s'
    walk_fork {v} few next law holds =
        let b : Branch = record { option = v; on = true } in
        let k : ℕ = n - suc d in
        let forks : Forks plan (n - d) h s v = fork_step plan (n - d) h s v (sym next) in
        let is_free : entry h v ≡ Free = law v forks.option in
        let deeper : d < n = omega (arith, forks.deep, walking.deep) in
        let room : d < length trail = omega (arith, walking.long) in
        let below : k ≡ forks.below = omega (arith, forks.deep) in
        let both : explored plan k (with_entry h v Off) (explored plan k (with_entry h v On) s') ≡ explored plan (n - d) h s =
        (λ i. explored plan (below i) (with_entry h v Off) (explored plan (below i) (with_entry h v On) (opens i))) ∙ sym forks.both in
        let here : Walking plan n h₀ s₀ (set trail d b) (suc d) (with_entry h v On) s' = record {
          deep = deeper;
          long = length-set trail d b ∙ walking.long;
          whole = resume_top plan n trail d b (with_entry h v On) (explored plan k (with_entry h v On) s') room
              ∙ ap₂ (λ x y. resume plan n trail d x (explored plan k y (explored plan k (with_entry h v On) s'))) (released h v is_free) (entry_again h v On Off)
              ∙ ap (resume plan n trail d h) both ∙ walking.whole;
        } in
        subst₂ (λ e x. Walking plan n h₀ s₀ (set trail d b) e x s') (sym (add-one d)) (sym holds) here

    module _ {d' : ℕ} {trail' : List Branch} {h' : Entries} (few : n ≤ 20) (leaf : None ≡ (open_branch plan (n - d) h s).0) (de : d' ≡ (back trail d h).0) (te : trail' ≡ (back trail d h).1) (he : h' ≡ (back trail d h).2) where
      lands : Lands plan n trail d h d' trail' h'
      lands = subst₃ (Lands plan n trail d h) (sym de) (sym te) (sym he) (back_lands plan n trail d h (omega (arith, walking.deep, walking.long)))

      done : resume plan n trail d h s' ≡ explored plan n h₀ s₀
      done = ap (resume plan n trail d h) (opens ∙ sym (leaf_step plan (n - d) h s (sym leaf))) ∙ walking.whole

      pub walk_back : 0 < d' → Walking plan n h₀ s₀ trail' d' h' s'
      walk_back some = record {
        deep = omega (arith, lands.less, walking.deep);
        long = lands.long ∙ walking.long;
        whole = sym (lands.goes_on some s') ∙ done;
      }

      pub walk_end : d' ≡ 0 → s' ≡ explored plan n h₀ s₀
      walk_end end = sym (lands.ended end s') ∙ done

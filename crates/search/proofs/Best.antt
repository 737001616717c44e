-- Select names a best selection, and none if no figure ranks above zero.
use Rattle.std.proofs.Common.{◌≡◌, ℕ, zero, suc, ◌≤◌, Bool, true, false, cond, ◌⊎◌, List, length, Some, None, Option, sym, refl, ap, ◌∙◌, subst, inl, inr, arith}
use mathlib.Core.Path.{fun_ext}
use Rattle.std.proofs.lemmas.Bool.{both_ways, cases_Bool, cond_both, not-true, not-false}
use Rattle.kinds.specs.Semiring.{Semiring, Laws}
use Rattle.kinds.proofs.Ranks.{upto_refl, upto_same, upto_other}
use Rattle.table.specs.Circuit.{Shape, World, same, root, upward, lit, all, fork, top, bottom}
use Rattle.table.specs.Sound.{is_option, options, sound, verdict}
use Rattle.passes.specs.Holding.{Entries, entry, is_free, free, selected, Keeps, Complete}
use Rattle.passes.specs.Marks.{with_entry, held}
use Rattle.passes.specs.Passes.{count}
use Rattle.passes.specs.declared.holds.Entry.{Entry}
use Rattle.passes.specs.declared.holds.Entry.TheVariants.{On, Off}
use Rattle.passes.proofs.Above.{covers}
use Rattle.passes.proofs.Figures.{counts_figure}
use Rattle.search.specs.declared.found.Found.{Found}
use Rattle.search.specs.declared.found.Selection.{Selection}
use Rattle.search.specs.Orders.{Order, Lawful}
use Rattle.search.specs.Select.{Branching, best_figure, opened, counted, explored, branching, start, select}
use Rattle.search.specs.Best.{Best, FoundBest}
use Rattle.search.proofs.Naming.{Names, next_names}
use Rattle.search.proofs.Holding.{entries_length, free_option, free_within, none_free, selected_keeps, keeps_complete, fewer_free, keeps_before, keeps_held}
-- two values that differ in the first case alone
use Rattle.passes.specs.Bounding.{NoHigher}
use Rattle.passes.specs.Problem.{Problem, under_holds, figure_of}

first_same : {A : Type 0} (o : Bool) (a b c : A) → (o ≡ true → a ≡ b) → cond o a c ≡ cond o b c
first_same true a b c h = h refl
first_same false a b c h = refl

module _ {F : Type 0} (R : Semiring F) (laws : Laws R) (p : Problem F) (accepted : verdict p.roles p.circuit ≡ sound) where
  -- two selections with the same options have the same figure
  pub figure_same : (w u : World) → ((v : ℕ) → is_option p.roles v ≡ true → w v ≡ u v) → figure_of R p w ≡ figure_of R p u
  figure_same w u alike =
      sym (counts_figure R laws p accepted w)
      ∙ ap (λ step. root R.zero (upward step p.circuit)) (fun_ext (λ done. fun_ext (λ s. count_same done s)))
      ∙ counts_figure R laws p accepted u
    where
      count_same : (done : List F) (s : Shape) → count R p w done s ≡ count R p u done s
      count_same done (lit v on) = first_same (is_option p.roles v) _ _ _ (λ o. ap (λ b. cond (same b on) R.one R.zero) (alike v o))
      count_same done (all cs) = refl
      count_same done (fork v a b) = refl
      count_same done top = refl
      count_same done bottom = refl

  -- complete holds leave one figure
  pub one_figure : (h : Entries) → Complete p.roles h → (w : World) → Keeps p.roles h w → figure_of R p w ≡ figure_of R p (selected h)
  one_figure h complete w keeps = figure_same w (selected h) (keeps_complete p.roles h complete w keeps)

module _ {F : Type 0} (R : Semiring F) (laws : Laws R) (pick : Order F) (lawful : Lawful pick)
    (p : Problem F) (accepted : verdict p.roles p.circuit ≡ sound) where
  abbrev its : Branching F
  its = branching R pick p

  -- a selection that keeps h, with its figure, which ranks above a floor
  record Above (h : Entries) (floor : F) (s : Selection F) : Type 0 where
    complete : Complete p.roles s.holds.entries
    keeps : Keeps p.roles h (selected s.holds.entries)
    its_figure : s.figure ≡ its.figure_at s.holds.entries
    above : R.upto s.figure floor ≡ false

  abbrev Risen : Entries → F → Option (Selection F) → Type 0
  Risen h floor None = ⊥
  Risen h floor (Some s) = Above h floor s

  -- what becomes of the best so far when the holds h are opened
  record Outcome (h : Entries) (before after : Option (Selection F)) : Type 0 where
    rises : R.upto (best_figure R before) (best_figure R after) ≡ true
    highest : NoHigher R p (Keeps p.roles h) (best_figure R after)
    either : (after ≡ before) ⊎ Risen h (best_figure R before) after

  cut : (h : Entries) (s : Option (Selection F)) → its.cuts h s ≡ true → Outcome h s s
  cut h s low = record {
    rises = upto_refl laws (best_figure R s);
    highest = λ w k. laws.trans _ _ _ (covers R laws (under_holds p h) accepted w k) low;
    either = inl refl;
  }

  leaf : (h : Entries) (s : Found F) → Complete p.roles h → Outcome h s.best (counted its h (opened s)).best
  leaf h s complete = cond_both (its.replaces (its.figure_at h) s.best) _ _ (λ (t : Found F). Outcome h s.best t.best)
      (λ high. record {
        rises = upto_other laws (not-true _ high);
        highest = λ w k. upto_same laws (one_figure R laws p accepted h complete w k);
        either = inr (record { complete = complete; keeps = selected_keeps p.roles h; its_figure = refl; above = not-true _ high });
      })
      (λ low. record {
        rises = upto_refl laws (best_figure R s.best);
        highest = λ w k. rw (one_figure R laws p accepted h complete w k) (not-false _ low);
        either = inl refl;
      })

  -- both branches of a free option v, one after the other
  module _ (h : Entries) (room : length p.roles ≤ length h) (v : ℕ) (option : is_option p.roles v ≡ true) (untaken : is_free (entry h v) ≡ true) where
    risen : (b : Bool) (low floor : F) → R.upto low floor ≡ true → (s : Option (Selection F)) → Risen (with_entry h v (held b)) floor s → Risen h low s
    risen b low floor l None c = c
    risen b low floor l (Some s) c = record {
      complete = c.complete;
      keeps = keeps_before p.roles h room v option untaken (held b) (selected s.holds.entries) c.keeps;
      its_figure = c.its_figure;
      above = elim (cases_Bool (R.upto s.figure low)) [ inl t ↦ absurd (both_ways _ c.above (laws.trans _ _ _ t l)) | inr f ↦ f ];
    }

    branches : (s t u : Option (Selection F)) → Outcome (with_entry h v On) s t → Outcome (with_entry h v Off) t u → Outcome h s u
    branches s t u on off = record {
      rises = laws.trans _ _ _ on.rises off.rises;
      highest = λ w k. elim (cases_Bool (w v)) [
        | inl is-on ↦ laws.trans _ _ _ (on.highest w (keeps_held p.roles h room v option untaken true w k is-on)) off.rises
        | inr is-off ↦ off.highest w (keeps_held p.roles h room v option untaken false w k is-off)
      ];
      either = elim off.either [
        | inr c ↦ inr (risen false _ _ on.rises u c)
        | inl e ↦ elim on.either [
          | inl d ↦ inl (e ∙ d)
          | inr c ↦ inr (subst (Risen h (best_figure R s)) (sym e) (risen true _ _ (upto_refl laws _) t c))
        ]
      ];
    }

  -- what is found where a branch is not cut, by the option to branch on
  abbrev followed : ℕ → Entries → Found F → Option ℕ → Found F
  followed k h s o = elim o [
    | None ↦ counted its h (opened s)
    | Some v ↦ explored its k (with_entry h v Off) (explored its k (with_entry h v On) (opened s))
  ]

  -- what is opened if it is not cut, where all with one free option fewer turns out well
  turn : (k : ℕ) → ((h : Entries) (s : Found F) → length p.roles ≤ length h → length (free p.roles h) ≤ k → Outcome h s.best (explored its k h s).best)
      → (h : Entries) (s : Found F) → length p.roles ≤ length h → length (free p.roles h) ≤ suc k → (o : Option ℕ) → Names R pick lawful p.roles h o
      → Outcome h s.best (followed k h s o).best
  turn k below h s room few None none = leaf h s (none_free p.roles h (rw none (omega arith)))
  turn k below h s room few (Some v) m =
      let f = free_option p.roles h v m in
      let open-to : (e : Entry) (t : Found F) → is_free e ≡ false → Outcome (with_entry h v e) t.best (explored its k (with_entry h v e) t).best =
      λ e t taken. below (with_entry h v e) t (rw (entries_length h v e) room) (omega (arith, fewer_free p.roles h room v f.0 f.1 e taken)) in
      branches h room v f.0 f.1 s.best _ _ (open-to On (opened s) refl) (open-to Off _ refl)

  outcome : (k : ℕ) (h : Entries) (s : Found F) → length p.roles ≤ length h → length (free p.roles h) ≤ k → Outcome h s.best (explored its k h s).best
  unfolding explored
  outcome zero h s room few = cond_both (its.cuts h s.best) _ _ (λ (t : Found F). Outcome h s.best t.best)
      (cut h s.best) (λ _. leaf h s (none_free p.roles h few))
  outcome (suc k) h s room few = cond_both (its.cuts h s.best) _ _ (λ (t : Found F). Outcome h s.best t.best)
      (cut h s.best) (λ _. turn k (outcome k) h s room few (its.next h) (next_names R pick lawful (under_holds p h)))

  pub selects : length p.roles ≤ length p.holds → FoundBest R p pick (select R pick p)
  selects room = record {
    is_select = refl;
    best = record {
      named = λ s e. best s (subst (Outcome p.holds None) e from_none);
      none = λ e. subst (λ s. NoHigher R p (Keeps p.roles p.holds) (best_figure R s)) e from_none.highest;
      only = λ low. elim from_none.either [ inl e ↦ e | inr c ↦ absurd (not_above low _ c) ];
    };
  }
    where
      from_none : Outcome p.holds None (select R pick p).best
      from_none = outcome (length (options p.roles)) p.holds start room (free_within p.roles p.holds)

      best : (s : Selection F) → Outcome p.holds None (Some s) → Best R p (Keeps p.roles p.holds) s
      best s o = elim o.either [
        | inl e ↦ absurd (let z : ◌≡◌ {A = ℕ} 0 1 = cc in omega arith)
        | inr c ↦ record { complete = c.complete; allowed = c.keeps; its_figure = c.its_figure; highest = o.highest }
      ]

      not_above : NoHigher R p (Keeps p.roles p.holds) R.zero → (s : Option (Selection F)) → Risen p.holds R.zero s → ⊥
      not_above low None c = c
      not_above low (Some s) c = both_ways _ c.above (rw c.its_figure (low (selected s.holds.entries) c.keeps))

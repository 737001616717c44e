-- One step back along the trail.
use Rattle.std.proofs.Common.{◌≡◌, ℕ, suc, true, false, List, get_or, set, sym, ap, ◌∙◌}
use Rattle.std.proofs.lemmas.Bool.{cond-true, cond-false}
use Rattle.passes.specs.Holding.{Entries}
use Rattle.passes.specs.Marks.{with_entry}
use Rattle.passes.specs.declared.holds.Entry.TheVariants.{Free, Off}
use Rattle.search.specs.declared.trail.Branch.{Branch}
use Rattle.search.specs.Walk.{back, no_branch, off_side}

module _ (trail : List Branch) (at d : ℕ) (h : Entries) (down : at ≡ suc d) where
  pub back_on : (get_or trail d no_branch).on ≡ true → back trail at h ≡ (at, set trail d (off_side (get_or trail d no_branch)), with_entry h (get_or trail d no_branch).option Off)
  unfolding back
  back_on t =
      ap (λ n. back trail n h) down ∙ cond-true (get_or trail d no_branch).on _ (back trail d (with_entry h (get_or trail d no_branch).option Free)) t
      ∙ ap (λ n. (n, set trail d (off_side (get_or trail d no_branch)), with_entry h (get_or trail d no_branch).option Off)) (sym down)

  pub back_off : (get_or trail d no_branch).on ≡ false → back trail at h ≡ back trail d (with_entry h (get_or trail d no_branch).option Free)
  unfolding back
  back_off f =
      ap (λ n. back trail n h) down
      ∙ cond-false (get_or trail d no_branch).on (suc d, set trail d (off_side (get_or trail d no_branch)), with_entry h (get_or trail d no_branch).option Off) _ f

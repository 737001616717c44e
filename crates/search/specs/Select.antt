-- Select: the best selection by branch and bound.
use Rattle.std.specs.Prelude.{ℕ, zero, suc, ◌+◌, Bool, true, false, not, List, [], ◌∷◌, map, length, Some, None, Option, if◌then◌else◌}
use Rattle.kinds.specs.Semiring.{Semiring}
use Rattle.table.specs.Circuit.{Vars}
use Rattle.table.specs.Sound.{options}
use Rattle.passes.specs.Holding.{Entries, free}
use Rattle.passes.specs.Marks.{with_entry}
use Rattle.passes.specs.Passes.{Part, root_part, bound}
use Rattle.passes.specs.Problem.{Problem, under_holds, held_figure}
use Rattle.passes.specs.declared.holds.Entry.TheVariants.{On, Off}
use Rattle.search.specs.declared.found.Found.{Found}
use Rattle.search.specs.declared.found.Selection.{Selection}
use Rattle.search.specs.Listing.{root_mentions}
use Rattle.search.specs.Orders.{Lean, Order}

-- what branch and bound asks of holds, with the best selection so far: whether their branch is cut, the figure of the
-- selection held, whether a figure replaces the best, and the option to branch on, if one is free
pub record Branching (F : Type 0) : Type 0 where
  pub cuts : Entries → Option (Selection F) → Bool
  pub figure_at : Entries → F
  pub replaces : F → Option (Selection F) → Bool
  pub next : Entries → Option ℕ

-- one branch more is opened
abbrev pub opened : {F : Type 0} → Found F → Found F
opened s = record { best = s.best; openings = s.openings + 1 }

-- the selection held is the best from now on if it is taken
abbrev pub offered : {F : Type 0} → (taken : Bool) → Entries → F → Found F → Found F
offered taken h f s =
    if taken then (record { best = Some (record { holds = record { entries = h }; figure = f }); openings = s.openings })
    else s

module _ {F : Type 0} (b : Branching F) where
  -- a selection is counted, and replaces the best or not
  abbrev pub counted : Entries → Found F → Found F
  counted h s = offered (b.replaces (b.figure_at h) s.best) h (b.figure_at h) s

  -- opens the holds h, and all that follows: cut, or a selection counted, or an option opened on and then off; at most k
  -- options are free
  unfoldable pub explored : ℕ → Entries → Found F → Found F
  explored zero h s = if b.cuts h s.best then opened s else counted h (opened s)
  explored (suc k) h s =
      if b.cuts h s.best then opened s
      else (elim (b.next h) [
        | None ↦ counted h (opened s)
        | Some v ↦ explored k (with_entry h v Off) (explored k (with_entry h v On) (opened s))
      ])

-- what an order is told of an option: the root's mention of it, and its values
abbrev pub lean_of : {F : Type 0} → Part F → Vars → ℕ → Lean F
lean_of part mentioned v = record { option = v; mentioned = mentioned v; on = part.side true v; off = part.side false v }

-- the option that the order names of the free ones, if there is one
abbrev pub named : {F : Type 0} → Order F → List (Lean F) → Option ℕ
named pick [] = None
named pick (l ∷ ls) = Some (pick (l ∷ ls))

-- at first there is no best selection
abbrev pub start : {F : Type 0} → Found F
start = record { best = None; openings = 0 }

module _ {F : Type 0} (R : Semiring F) where
  -- the figure that a branch, or a selection, has to beat
  abbrev pub best_figure : Option (Selection F) → F
  best_figure None = R.zero
  best_figure (Some s) = s.figure

  -- whether a figure ranks above the best so far
  abbrev pub beats : F → Option (Selection F) → Bool
  beats f best = not (R.upto f (best_figure best))

  -- what an order is told under holds: the free options, by rising number
  abbrev pub leans : Problem F → List (Lean F)
  leans p = map (lean_of (root_part R p) (root_mentions p.circuit)) (free p.roles p.holds)

  module _ (pick : Order F) (p : Problem F) where
    -- branch and bound for a problem, by an order: a branch is cut if its bound ranks no higher than the best figure, a
    -- selection replaces the best if it ranks above it
    abbrev pub branching : Branching F
    branching = record {
      cuts = λ h best. R.upto (bound R (under_holds p h)) (best_figure best);
      figure_at = λ h. held_figure R (under_holds p h);
      replaces = beats;
      next = λ h. named pick (leans (under_holds p h));
    }

    -- the best selection that keeps the holds, or none, and how many branches were opened
    abbrev pub select : Found F
    select = explored branching (length (options p.roles)) p.holds start

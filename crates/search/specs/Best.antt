-- What select's answer means.
use Rattle.std.specs.Prelude.{◌≡◌, Some, None, Option}
use Rattle.kinds.specs.Semiring.{Semiring}
use Rattle.table.specs.Circuit.{World}
use Rattle.passes.specs.Bounding.{NoHigher}
use Rattle.passes.specs.Holding.{Keeps, Complete, selected}
use Rattle.passes.specs.Problem.{Problem, figure_of, held_figure}
use Rattle.search.specs.Orders.{Order}
use Rattle.search.specs.Select.{select}
use Rattle.search.specs.declared.found.Found.{Found}
use Rattle.search.specs.declared.found.Selection.{Selection}

module _ {F : Type 0} (R : Semiring F) (p : Problem F) where
  -- among the allowed selections
  module _ (Allowed : World → Type 0) where
    -- a selection sets every option, is allowed, has the figure given, and no other that is allowed ranks higher
    pub record Best (s : Selection F) : Type 0 where
      pub complete : Complete p.roles s.holds.entries
      pub allowed : Allowed (selected s.holds.entries)
      pub its_figure : s.figure ≡ figure_of R p (selected s.holds.entries)
      pub highest : NoHigher R p Allowed s.figure

    -- a selection that is named is the best; none is named exactly if no allowed selection has a figure above zero
    pub record BestOrNone (best : Option (Selection F)) : Type 0 where
      pub named : (s : Selection F) → best ≡ Some s → Best s
      pub none : best ≡ None → NoHigher R p Allowed R.zero
      pub only : NoHigher R p Allowed R.zero → best ≡ None

  -- select's answer, openings included, and what it means: the best of the selections that keep the holds
  pub record FoundBest (pick : Order F) (found : Found F) : Type 0 where
    pub is_select : found ≡ select R pick p
    pub best : BestOrNone (Keeps p.roles p.holds) found.best

  -- f is the figure of the selection held: of every selection that keeps these holds
  pub record Counted (f : F) : Type 0 where
    pub is_figure : f ≡ held_figure R p
    pub only : (w : World) → Keeps p.roles p.holds w → figure_of R p w ≡ f

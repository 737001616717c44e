-- What a pass leaves in a work table: its values in the first places, behind them what stood there before.
use Rattle.std.specs.Prelude.{List, ◌++◌, length, drop}
use Rattle.kinds.specs.Semiring.{Semiring}
use Rattle.table.specs.Circuit.{Shape, upward}
use Rattle.passes.specs.Holding.{selected}
use Rattle.passes.specs.Passes.{counts, plains, pairs, work}
use Rattle.passes.specs.Places.{pair_places}
use Rattle.passes.specs.NodeReads.{value_in}
use Rattle.passes.specs.Problem.{Problem}
use Rattle.passes.specs.Ways.{Way, walked}

module _ {F : Type 0} (R : Semiring F) (p : Problem F) (before : List F) where
  -- the counting values of the selection held
  abbrev pub counts_left : List F
  counts_left = counts R p (selected p.holds) ++ drop (length p.circuit) before

  -- the plain values
  abbrev pub plains_left : List F
  plains_left = plains R p ++ drop (length p.circuit) before

  -- the parts of the pair pass
  abbrev pub pairs_left : List F
  pairs_left = work p.roles (pairs R p) ++ drop (pair_places p.roles p.circuit) before

-- the values that a way gives to the nodes of a circuit
abbrev pub walk_left : {F : Type 0} → Semiring F → Way F → List Shape → List F → List F
walk_left R way ss before = upward (walked R way (value_in R 1)) ss ++ drop (length ss) before

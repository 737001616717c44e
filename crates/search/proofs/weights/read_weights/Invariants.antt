use Rattle.std.proofs.Common.{◌≡◌, length}
use Rattle.table.specs.Whole.{roles}
use Rattle.search.proofs.Weighings.{Going}
use Rattle.search.proofs.weights.read_weights.Given as goal

abbrev pub invariant-loop-rest : goal.invariant-loop-rest
invariant-loop-rest g l =
    Going g.K.Written.notation (roles l.table) l.text l.initial.sheet.figures.now l.sheet.figures.now l.line l.rest
    × (l.sheet.figures.ghost_name ≡ l.initial.sheet.figures.ghost_name)

abbrev pub decreases-loop-rest : goal.decreases-loop-rest
decreases-loop-rest g l = length l.rest

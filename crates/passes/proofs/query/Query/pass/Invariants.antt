use Rattle.std.proofs.Common.{length}
use Rattle.table.specs.Whole.{circuit}
use Rattle.passes.specs.NodeReads.{value_in}
use Rattle.passes.specs.Ways.{walked}
use Rattle.passes.proofs.Passing.{Passed}
use Rattle.passes.proofs.query.Query.pass.Given as goal

abbrev pub invariant-loop-number : goal.invariant-loop-number
invariant-loop-number g l =
    Passed (walked g.K.Figure.ring (g.W.Rule.way l.rule l.self) (value_in g.K.Figure.ring 1)) (circuit l.self.table.now) l.initial.work (length l.self.table.now.nodes.now) l.work l.number

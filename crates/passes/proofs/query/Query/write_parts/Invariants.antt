use Rattle.std.proofs.Common.{length}
use Rattle.passes.specs.Problem.{problem}
use Rattle.passes.proofs.Pairing.{Parted}
use Rattle.passes.proofs.query.Query.write_parts.Given as goal

abbrev pub invariant-loop-node : goal.invariant-loop-node
invariant-loop-node g l =
    Parted g.K.Figure.ring (problem l.self) l.initial.work l.stride (length l.self.table.now.nodes.now) l.work l.node

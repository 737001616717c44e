use Rattle.std.proofs.Common.{◌+◌}
use Rattle.passes.specs.NodeReads.{has_part}
use Rattle.passes.specs.PairStep.{under_here}
use Rattle.passes.proofs.Products.{Left}
use Rattle.passes.proofs.pair.Step.product_under.Given as goal

abbrev pub invariant-loop-child : goal.invariant-loop-child
invariant-loop-child g l =
    let under = under_here g.K.Figure.ring l.self l.option.variable in
    let reads = has_part l.self.values in
    Left g.K.Figure.ring (under l.option.place) reads l.children l.on l.child-index
    × Left g.K.Figure.ring (under (l.option.place + 1)) reads l.children l.off l.child-index

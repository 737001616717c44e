use Rattle.std.proofs.Common.{length}
use Rattle.passes.specs.NodeReads.{inside, value_in}
use Rattle.passes.proofs.Products.{Left}
use Rattle.passes.proofs.values.NodeValues.product.Given as goal

abbrev pub invariant-loop-child : goal.invariant-loop-child
invariant-loop-child g l =
    Left g.K.Figure.ring (value_in g.K.Figure.ring l.self.stride l.self.places.now) (inside (length l.self.places.now) l.self.stride) l.children l.all l.child-index

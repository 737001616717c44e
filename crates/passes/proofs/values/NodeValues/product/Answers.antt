use Rattle.passes.specs.NodeReads.{value_in}
use Rattle.passes.proofs.Products.{product_all}
use Rattle.passes.proofs.values.NodeValues.product.Goals as goal

pub returns : goal.returns
returns g c =
    let v = c.args.self.now in
    product_all g.K.Figure.laws (value_in g.K.Figure.ring v.stride v.places.now) c.args.children.now c.loop-child.child-index c.loop-child.all _
    c.loop-child-test.false c.loop-child.invariant.product

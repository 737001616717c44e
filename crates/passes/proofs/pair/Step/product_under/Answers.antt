use Rattle.std.proofs.Common.{◌+◌}
use Rattle.passes.specs.PairStep.{under_here}
use Rattle.passes.proofs.Products.{product_all}
use Rattle.passes.proofs.pair.Step.product_under.Goals as goal

pub returns : goal.returns
returns g c =
    let under = under_here g.K.Figure.ring c.args.self.now c.args.option.variable in
    record {
      on = product_all g.K.Figure.laws (under c.args.option.place) c.args.children.now c.loop-child.child-index c.loop-child.on _ c.loop-child-test.false c.loop-child.invariant.0.product;
      off = product_all g.K.Figure.laws (under (c.args.option.place + 1)) c.args.children.now c.loop-child.child-index c.loop-child.off _ c.loop-child-test.false c.loop-child.invariant.1.product;
    }

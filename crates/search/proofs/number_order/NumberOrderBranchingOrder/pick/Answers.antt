use Rattle.search.proofs.Leading.{lowest_told}
use Rattle.search.proofs.number_order.NumberOrderBranchingOrder.pick.Goals as goal

pub returns : goal.returns
returns g c = lowest_told g.K.Figure.ring c.args._part.now c.args.free.now c.requires.some _

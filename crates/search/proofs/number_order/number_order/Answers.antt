use Rattle.search.proofs.Ordering.{lowest_answers}
use Rattle.search.proofs.number_order.number_order.Goals as goal

pub returns : goal.returns
returns g c = lowest_answers g.row.K.Denot

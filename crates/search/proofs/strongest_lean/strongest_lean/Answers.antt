use Rattle.search.proofs.Ordering.{strongest_answers}
use Rattle.search.proofs.strongest_lean.strongest_lean.Goals as goal

pub returns : goal.returns
returns g c = strongest_answers g.K.Figure.laws

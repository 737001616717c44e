use Rattle.std.proofs.Common.{rules}
use Rattle.passes.proofs.Chains.{filled}
use Rattle.search.proofs.Weighings.{filled_front}
use Rattle.search.proofs.weights.write_ones.Goals as goal

pub returns : goal.returns
returns g c =
    filled_front c.args.count g.K.Figure.ring.one c.args.figures.now _ c.requires
    (filled _ _ _ _ _ (λ x q k. search rules) c.fill_with.ensures.ran.1) c.fill_with.ensures.len

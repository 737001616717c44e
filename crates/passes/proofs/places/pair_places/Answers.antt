use Rattle.std.proofs.Common.{◌*◌, sym, ap₂}
use Rattle.passes.proofs.Roots.{node_count}
use Rattle.passes.proofs.places.pair_places.Goals as goal

pub returns : goal.returns
returns c = ap₂ (λ a b. a * b) (sym (node_count c.args.table.now)) c.stride.ensures

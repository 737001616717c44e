use Rattle.std.proofs.Common.{◌+◌, ◌*◌, sym, ap, ◌∙◌}
use Rattle.passes.proofs.Roots.{options_many}
use Rattle.passes.proofs.places.stride.Goals as goal

pub returns : goal.returns
returns c = ap (λ n. 2 * n + 1) (c.options.ensures ∙ sym (options_many c.args.table.now))

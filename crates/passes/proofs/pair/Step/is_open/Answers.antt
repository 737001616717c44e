use Rattle.std.proofs.Common.{arith, ◌∙◌}
use Rattle.table.specs.Whole.{roles}
use Rattle.table.proofs.Asked.{variables_few}
use Rattle.table.proofs.Numbers.{option_known}
use Rattle.passes.proofs.Sets.{option_open}
use Rattle.passes.proofs.pair.Step.is_open.Goals as goal

pub contains-requires : goal.contains-requires
contains-requires g c =
    let t = c.args.self.now.query.now.table.now in
    let known = option_known (roles t) c.args.option c.requires in
    (known.0, omega (arith, known.1, variables_few t))

pub returns : goal.returns
returns g c =
    let s = c.args.self.now in
    c.contains.ensures ∙ option_open s.query.now s.node s.free s.set c.args.option c.requires

use Rattle.std.proofs.Common.{arith}
use Rattle.std.proofs.lemmas.Bool.{not-false}
use Rattle.table.specs.Whole.{roles}
use Rattle.table.proofs.Asked.{proved_sound, variables_few}
use Rattle.table.proofs.Numbers.{option_known}
use Rattle.passes.proofs.Below.{bounded}
use Rattle.search.specs.Calls.{asked, tried}
use Rattle.search.specs.Study.{no_option}
use Rattle.search.proofs.Testing.{passes}
use Rattle.search.proofs.trial.trial.Goals as goal

pub returns-clause-bounded : goal.returns-clause-bounded
returns-clause-bounded g c =
    let t = c.args.table.now in
    rw c.bound_if_held.ensures.value
    (bounded g.K.Figure.ring g.K.Figure.laws (tried (asked t c.args.sheet.now c.args.holds.now) c.args.variable c.args.on) (proved_sound t))

pub bound_if_held-requires-clause-known : goal.bound_if_held-requires-clause-known
bound_if_held-requires-clause-known g c =
    let t = c.args.table.now in
    let v = c.args.variable in
    let known = option_known (roles t) v (not-false _ (passes (no_option (roles t) v) c.require_option.result c.require_option.ensures c.in_ok-require_option.was)) in
    (known.0, omega (arith, known, variables_few t))

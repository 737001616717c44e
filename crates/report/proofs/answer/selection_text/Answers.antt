use Rattle.std.proofs.Common.{string_bytes}
use Rattle.text.specs.Format.{listed}
use Rattle.report.proofs.Naming.{selection_printed}
use Rattle.report.proofs.answer.selection_text.Goals as goal

pub returns-in_ok-names-in-Some : goal.returns-in_ok-names-in-Some
returns-in_ok-names-in-Some g c =
    selection_printed string_bytes g.K.Written.notation c.format.result (listed c.args.variables.now) c.args.found.now c.in-Some.selection
    (string_bytes c.in_ok-figure-in-Some.figure) (string_bytes c.in_ok-names-in-Some.names)
    c.in-Some.is c.in_ok-figure-in-Some.ensures c.in_ok-names-in-Some.ensures c.format.ensures.ok

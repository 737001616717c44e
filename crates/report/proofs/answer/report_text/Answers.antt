use Rattle.std.proofs.Common.{string_bytes}
use Rattle.text.specs.Format.{listed}
use Rattle.report.proofs.Naming.{report_printed}
use Rattle.report.proofs.answer.report_text.Goals as goal

pub returns : goal.returns
returns g c =
    report_printed string_bytes g.K.Written.notation c.format.result (listed c.args.variables.now) c.args.found.now c.args.bound
    (string_bytes c.in_ok-bound.bound) (string_bytes c.in_ok-best.best)
    c.in_ok-bound.ensures c.in_ok-best.ensures c.format.ensures.ok

use Rattle.report.proofs.Answering.{makes_day}
use Rattle.report.proofs.day.day_report.Goals as goal

pub returns : goal.returns
returns g c = record {
  text = c.printed.ensures _ c.file_day.ensures;
  day = makes_day g.K.Figure.ring g.K.Figure.laws g.K.Written.notation (g.O.BranchingOrder.picks c.args.order.now) (g.met.O.BranchingOrder.names c.args.order.now)
      c.args.sizes c.args.calls.now c.args.file.now;
}

use Rattle.passes.specs.Holding.{selected}
use Rattle.search.specs.Calls.{asked}
use Rattle.search.proofs.Leaning.{counts_kept}
use Rattle.search.proofs.asking.figure.Goals as goal

pub returns-clause-behind : goal.returns-clause-behind
returns-clause-behind g c =
    counts_kept g.K.Figure.ring (asked c.args.table.now c.args.sheet.now c.args.holds.now) (selected c.args.holds.now.entries) c.count_figure.new.work c.args.work.now
    c.count_figure.ensures.work

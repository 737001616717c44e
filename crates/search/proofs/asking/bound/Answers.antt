use Rattle.search.specs.Calls.{asked}
use Rattle.search.proofs.Leaning.{parts_kept}
use Rattle.search.proofs.asking.bound.Goals as goal

pub returns-clause-behind : goal.returns-clause-behind
returns-clause-behind g c =
    parts_kept g.K.Figure.ring (asked c.args.table.now c.args.sheet.now c.args.holds.now) c.pair_bound.new.work c.args.work.now c.pair_bound.ensures.work

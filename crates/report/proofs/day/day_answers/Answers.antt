use Rattle.std.proofs.Common.{length, drop, ◌∙◌}
use Rattle.search.specs.Day.{new, fixed_parts, book_of}
use Rattle.report.proofs.Answering.{day_answered}
use Rattle.report.proofs.day.day_answers.Goals as goal

pub returns : goal.returns
returns g c =
    day_answered g.K.Figure.ring (fixed_parts c.args.table.now (g.O.BranchingOrder.picks c.args.order.now) c.args.work.now) (new c.args.sheet.now.figures.now) (book_of c.work_day.new.sheet c.work_day.result) c.args.calls.now
    c.work_day.new.answers c.resize_with.new.self.len (drop (length c.work_day.new.answers) c.resize_with.new.self.items)
    (c.work_day.auto.answers ∙ c.deref_mut.ensures.len) c.in_ok-resize_with.ensures.len c.work_day.ensures.only c.work_day.ensures.day

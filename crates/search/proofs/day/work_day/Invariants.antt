use Rattle.std.proofs.Common.{◌≡◌, drop}
use Rattle.search.specs.Calls.{places}
use Rattle.search.specs.Day.{new, fixed_parts, book_of}
use Rattle.search.proofs.Running.{Left}
use Rattle.search.proofs.day.work_day.Given as goal

abbrev pub invariant-loop-i : goal.invariant-loop-i
invariant-loop-i g l =
    Left g.K.Figure.ring (fixed_parts l.table (g.O.BranchingOrder.picks l.order) l.initial.work) (new l.initial.sheet.figures.now) l.calls l.initial.answers
    (book_of l.sheet l.holds) l.answers l.i
    × (l.sheet.figures.ghost_name ≡ l.initial.sheet.figures.ghost_name)
    × (drop (places l.table) l.work ≡ drop (places l.table) l.initial.work)

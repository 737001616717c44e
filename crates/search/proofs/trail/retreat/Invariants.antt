use Rattle.std.proofs.Common.{◌≡◌}
use Rattle.search.specs.Walk.{back}
use Rattle.search.proofs.trail.retreat.Given as goal

abbrev pub invariant-loop-at : goal.invariant-loop-at
invariant-loop-at l = back l.trail l.at l.holds.entries ≡ back l.initial.trail l.depth l.initial.holds.entries

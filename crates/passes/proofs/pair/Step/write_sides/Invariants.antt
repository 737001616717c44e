use Rattle.passes.specs.Problem.{problem}
use Rattle.passes.specs.Rows.{open_in, side_or_zero}
use Rattle.passes.proofs.Rowing.{Rowed}
use Rattle.passes.proofs.pair.Step.write_sides.Given as goal

abbrev pub invariant-loop-j : goal.invariant-loop-j
invariant-loop-j g l =
    let s = l.self in
    let p = problem s.query.now in
    Rowed g.K.Figure.ring (side_or_zero g.K.Figure.ring p s.values.stride s.values.places.now s.node) (open_in p s.node) s.options.now l.part l.least l.j

use Rattle.std.proofs.Common.{rules, ◌≡◌, ℕ, ◌+◌, ◌-◌, ◌*◌, ◌<◌, length, drop, replicate, None, Some, sym, subst, refl, ap, ◌∙◌, arith}
use Rattle.std.proofs.lemmas.Bool.{cond-true, cond-false}
use Rattle.std.proofs.lemmas.List.{take_all, length-take, length-drop}
use Rattle.table.specs.Facts.{Among}
use Rattle.table.specs.Whole.{roles}
use Rattle.passes.specs.Problem.{problem}
use Rattle.passes.specs.Rows.{open_in, side_or_zero, sides_by, lower, least_in_row}
use Rattle.passes.proofs.Chains.{filled, put_behind}
use Rattle.passes.proofs.Closed.{row_closed, least_closed}
use Rattle.passes.proofs.Options.{option_there}
use Rattle.passes.proofs.Rowing.{rowed_more}
use Rattle.passes.proofs.Sets.{none_open}
use Rattle.passes.proofs.pair.Step.write_sides.Goals as goal
use Rattle.passes.proofs.pair.Step.write_sides.Goals.{then-is_open, else-is_open}

pub is_open-requires : goal.is_open-requires
is_open-requires g c =
    let s = c.args.self.now in
    let rs = roles s.query.now.table.now in
    rw s.listed (option_there rs c.loop-j.j (subst (λ vs. c.loop-j.j < length vs) s.listed c.loop-j-test.true)).1

pub loop-j-init : goal.loop-j-init
loop-j-init g c = record { row = refl; least_is = refl }

pub loop-j-preserved : goal.loop-j-preserved
loop-j-preserved g c =
    let s = c.args.self.now in
    let R = g.K.Figure.ring in
    let p = problem s.query.now in
    let side = side_or_zero R p s.values.stride s.values.places.now s.node in
    let long : length c.loop-j.part ≡ 2 * length s.options.now + 1 = c.loop-j.auto.part ∙ c.requires ∙ s.stride ∙ ap (λ vs. 2 * length vs + 1) (sym s.listed) in
    let more = rowed_more R side (open_in p s.node) s.options.now c.loop-j.part c.loop-j.least c.if-is_open.least c.loop-j.j in
    elim c.if-is_open.branch [
      | then-is_open w ↦ (let taken = sym c.is_open.ensures ∙ w.if-is_open.true in
          rw w.part-is (more _ _ c.loop-j-test.true long c.loop-j.invariant (w.sides-sides.ensures.on ∙ sym (cond-true _ _ _ taken)) (w.sides-sides.ensures.off ∙ sym (cond-true _ _ _ taken))
          (w.least-is ∙ ap Some (w.lower.ensures ∙ ap (lower R c.loop-j.least) w.greater.ensures) ∙ sym (cond-true _ _ _ taken))))
      | else-is_open w ↦ (let shut = sym c.is_open.ensures ∙ w.if-is_open.false in
          rw w.part-is (more _ _ c.loop-j-test.true long c.loop-j.invariant (w.zero.ensures ∙ sym (cond-false _ _ _ shut)) (w.zero-else-is_open.ensures ∙ sym (cond-false _ _ _ shut))
          (w.least-is ∙ sym (cond-false _ _ _ shut))))
    ]

pub returns-then-self-eq0 : goal.returns-then-self-eq0
returns-then-self-eq0 g c =
    let s = c.args.self.now in
    let R = g.K.Figure.ring in
    let p = problem s.query.now in
    let zeros : c.fill_with.new.self ≡ replicate (length c.fill_with.new.self) R.zero = filled _ _ _ _ _ (λ x y k. search rules) c.fill_with.ensures.ran.1 in
    let wide = s.stride ∙ ap (λ vs. 2 * length vs + 1) (sym s.listed) in
    let part = c.args.part.now in
    let long : length c.fill_with.new.self ≡ 2 * length s.options.now = omega (arith, c.fill_with.ensures.len, length-take (length part - 1) (drop 1 part), length-drop 1 part, c.requires, wide) in
    let closed = λ (v : ℕ) (m : Among v s.options.now). none_open s.query.now s.node s.free s.set c.if-self-eq0.true v (subst (Among v) s.listed m) in
    record {
      row = put_behind 1 part c.fill_with.new.self (omega (arith, c.requires, wide)) ∙ zeros ∙ ap (λ n. replicate n R.zero) long ∙ sym (row_closed R p s.values.stride s.values.places.now s.node 0 s.options.now closed);
      least = sym (least_closed R p s.values.stride s.values.places.now s.node _ s.options.now closed);
    }

pub returns-clause-least : goal.returns-clause-least
returns-clause-least g c =
    let s = c.args.self.now in
    let R = g.K.Figure.ring in
    let p = problem s.query.now in
    let side = side_or_zero R p s.values.stride s.values.places.now s.node in
    c.loop-j.invariant.least_is ∙ ap (λ vs. least_in_row R (open_in p s.node) (sides_by side 0 vs) None vs) (take_all c.loop-j.j s.options.now (omega (arith, c.loop-j-test.false)))

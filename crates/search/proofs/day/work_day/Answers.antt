use Rattle.std.proofs.Common.{◌≡◌, ◌<◌, ◌≤◌, min, length, take, sym, refl, ap, ◌∙◌, subst, subst₂, arith, rules}
use Rattle.std.proofs.lemmas.List.{length-take, get_or-take}
use Rattle.table.proofs.Asked.{proved_sound, variables_few}
use Rattle.search.specs.Day.{Day, new, fixed_parts, book_of, answer, after}
use Rattle.search.proofs.Days.{days_run, days_agree, no_strays}
use Rattle.search.proofs.Running.{left_all, left_more, left_none, day_log}
use Rattle.search.proofs.day.work_day.Goals as goal

pub offset_bounds-answers-i : goal.offset_bounds-answers-i
offset_bounds-answers-i g c =
    let here : c.loop-i.i < length (take c.min-count.result c.args.calls.now) = c.loop-i-test.true in
    let h : c.loop-i.i < length c.args.answers.now = omega (arith, c.min-count.ensures, length-take c.min-count.result c.args.calls.now) in
    search rules

pub loop-i-init : goal.loop-i-init
loop-i-init g c = (
  left_all g.K.Figure.ring (fixed_parts c.args.table.now (g.O.BranchingOrder.picks c.args.order.now) c.args.work.now)
      (new c.args.sheet.now.figures.now) c.args.calls.now c.args.answers.now _ (λ i. record { holds = c.new-holds.ensures i; sheet = c.args.sheet.now.figures.now }),
  refl,
  refl,
)

pub loop-i-preserved : goal.loop-i-preserved
loop-i-preserved g c =
    let R = g.K.Figure.ring in
    let s = fixed_parts c.args.table.now (g.O.BranchingOrder.picks c.args.order.now) c.args.work.now in
    let now = fixed_parts c.args.table.now (g.O.BranchingOrder.picks c.args.order.now) c.loop-i.work in
    let book = book_of c.loop-i.sheet c.loop-i.holds in
    let same : now ≡ s = λ i. record { roles = s.roles; circuit = s.circuit; pick = s.pick; work_size = c.loop-i.auto.work i } in
    let here : c.loop-i.i < length (take c.min-count.result c.args.calls.now) = c.loop-i-test.true in
    let within : c.loop-i.i < min (length c.args.calls.now) (length c.args.answers.now) = omega (arith, c.min-count.ensures, length-take c.min-count.result c.args.calls.now) in (
      left_more R s (new c.args.sheet.now.figures.now) c.args.calls.now c.args.answers.now book c.loop-i.answers c.loop-i.i c.loop-i.invariant.0
          c.call-item.result _ c.ask.result _
          (omega arith) (omega arith) (c.call-item.is ∙ get_or-take c.min-count.result c.args.calls.now c.loop-i.i _ (omega (arith, c.min-count.ensures)))
          (c.ask.ensures.answer ∙ ap (λ x. answer R x book c.call-item.result) same)
          (λ i. record { holds = (c.ask.ensures.holds ∙ ap (λ x. (after R x book c.call-item.result).holds) same) i; sheet = (c.ask.ensures.sheet ∙ ap (λ x. (after R x book c.call-item.result).sheet) same) i }),
      c.ask.ensures.same ∙ c.loop-i.invariant.1,
      c.ask.ensures.work ∙ c.loop-i.invariant.2,
    )

pub returns : goal.returns
returns g c =
    let R = g.K.Figure.ring in
    let t = c.args.table.now in
    let s = fixed_parts t (g.O.BranchingOrder.picks c.args.order.now) c.args.work.now in
    let start = new c.args.sheet.now.figures.now in
    let there = take (length c.args.answers.now) c.args.calls.now in
    let past : min (length c.args.calls.now) (length c.args.answers.now) ≤ c.loop-i.i = omega (arith, c.min-count.ensures, c.loop-i-test.false, length-take c.min-count.result c.args.calls.now) in
    let within : c.loop-i.i ≤ min (length c.args.calls.now) (length c.args.answers.now) = omega (arith, c.min-count.ensures, c.loop-i.auto.i-end, length-take c.min-count.result c.args.calls.now) in
    let done = left_none R s start c.args.calls.now c.args.answers.now _ c.loop-i.answers c.loop-i.i c.loop-i.invariant.0 past within in
    let log = day_log R s start c.args.calls.now c.args.answers.now c.loop-i.answers done.0 in
    let run = days_run R g.K.Figure.laws s (g.met.O.BranchingOrder.names c.args.order.now) (proved_sound t) (variables_few t) c.args.sheet.now.figures.now there in
    record {
      day = subst (λ n. Day R s start (take n c.args.calls.now) (take (length c.args.calls.now) c.loop-i.answers) (book_of c.loop-i.sheet c.loop-i.holds)) (sym c.loop-i.invariant.0.long)
          (subst₂ (Day R s start there) (sym log.0) (sym done.1) run);
      only = days_agree R s;
      own = no_strays R s;
      behind = log.1;
      work = c.loop-i.invariant.2;
      same = c.loop-i.invariant.1;
    }

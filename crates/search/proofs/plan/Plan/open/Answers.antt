use Rattle.std.proofs.Common.{◌≡◌, ℕ, ◌+◌, ◌-◌, ◌*◌, ◌<◌, ◌≤◌, Bool, not, is_some, length, drop, sym, ap, ◌∙◌, ap₂, arith, rules}
use Rattle.std.proofs.lemmas.List.{length-take-le, length-drop}
use Rattle.table.specs.Whole.{circuit, roles}
use Rattle.passes.specs.Holding.{selected}
use Rattle.passes.specs.Places.{pair_places}
use Rattle.passes.proofs.Roots.{some_node, node_count, last_part}
use Rattle.search.specs.Plans.{plan_asks, plan_branching}
use Rattle.search.specs.Select.{Branching, beats, opened, offered, named}
use Rattle.search.specs.Walk.{next_at}
use Rattle.search.proofs.Leaning.{parts_kept, counts_kept, told_leans}
use Rattle.search.proofs.Turns.{turn_cut, turn_option, turn_leaf, turn_fork}
use Rattle.search.proofs.plan.Plan.open.Given as given
use Rattle.search.proofs.plan.Plan.open.Goals as goal
use Rattle.search.proofs.plan.Plan.open.Goals.{After-no_higher-cut, After-stride-stride, After-next_option-next, at-After-next_option-next}

-- what the holds are opened by
abbrev its : (g : given.Over) (c : After-no_higher-cut g) → Branching g.row.K.Denot
its g c = plan_branching g.K.Figure.ring (g.O.BranchingOrder.picks c.args.self.now.order.now) c.args.self.now c.args.holds.now

-- whether the branch is cut
cut_is : (g : given.Over) (c : After-no_higher-cut g) (b : Bool) → c.no_higher-cut.result ≡ b
    → (its g c).cuts c.args.holds.now.entries c.args.found.now.best ≡ b
cut_is g c b e =
    sym (ap₂ g.K.Figure.ring.upto c.pair_bound-bound.ensures.bounded.is_bound c.figure_to_beat.ensures) ∙ sym c.no_higher-cut.ensures ∙ e

pub returns-then-cut : goal.returns-then-cut
returns-then-cut g c =
    let t = c.args.self.now.table.now in
    let R = g.K.Figure.ring in
    let a = (goal.at.returns-then-cut g c).After-no_higher-cut in
    let h = c.args.holds.now.entries in
    let e = sym (turn_cut (its g a) c.args.levels h c.args.found.now (cut_is g a _ c.if-cut.true)) in
    record {
      option = ap (λ t. t.0) e;
      found = ap (λ t. t.1) e;
      work = parts_kept R (plan_asks c.args.self.now c.args.holds.now) _ _ c.pair_bound-bound.ensures.work;
    }

-- where the root's part ends
root_end : (g : given.Over) (c : After-stride-stride g) → (length c.args.self.now.table.now.nodes.now - 1) * c.stride-stride.result + c.stride-stride.result ≤ length c.pair_bound-bound.new.work
root_end g c =
    let t = c.args.self.now.table.now in
    let n = length t.nodes.now in
    let same : n * c.stride-stride.result ≡ pair_places (roles t) (circuit t) = ap₂ (λ a b. a * b) (sym (node_count t)) c.stride-stride.ensures in
    omega (arith, last_part n c.stride-stride.result (some_node t), same, c.requires.room, c.pair_bound-bound.auto.work)

pub overflow_add-base : goal.overflow_add-base
overflow_add-base g c = let h = root_end g (goal.at.overflow_add-base g c).After-stride-stride in search rules

pub offset_bounds-work-base : goal.offset_bounds-work-base
offset_bounds-work-base g c =
    let base : ℕ = (length c.args.self.now.table.now.nodes.now - 1) * c.stride-stride.result in
    let h : base < length c.args.work.now = omega (arith, root_end g (goal.at.offset_bounds-work-base g c).After-stride-stride, c.pair_bound-bound.auto.work) in
    search rules

pub slice_bounds-next_option-end : goal.slice_bounds-next_option-end
slice_bounds-next_option-end g c = let h = root_end g (goal.at.slice_bounds-next_option-end g c).After-stride-stride in search rules

pub next_option-next-requires : goal.next_option-next-requires
next_option-next-requires g c =
    let a = (goal.at.next_option-next-requires g c).After-stride-stride in
    let stride : ℕ = c.stride-stride.result in
    let base : ℕ = (length c.args.self.now.table.now.nodes.now - 1) * stride in
    let work = c.pair_bound-bound.new.work in
    let h = root_end g a in
    length-take-le (base + stride - base) (drop base work) (omega (arith, length-drop base work)) ∙ (let e : base + stride - base ≡ stride = omega arith in e) ∙ c.stride-stride.ensures

-- the option to branch on
next_is : (g : given.Over) (c : After-next_option-next g) → c.next_option-next.result ≡ next_at c.args.levels ((its g (at-After-next_option-next g c).After-no_higher-cut).next c.args.holds.now.entries)
next_is g c =
    let t = c.args.self.now.table.now in
    let stride = c.stride-stride.result in
    let pick = g.O.BranchingOrder.picks c.args.self.now.order.now in
    c.next_option-next.ensures
    ∙ ap (λ ls. next_at c.args.levels (named pick ls))
    (told_leans g.K.Figure.ring (plan_asks c.args.self.now c.args.holds.now) stride ((length t.nodes.now - 1) * stride) _ _
    c.stride-stride.ensures (omega (arith, node_count t, some_node t)) (ap (λ n. (n - 1) * stride) (sym (node_count t))) c.pair_bound-bound.ensures.work)

pub returns-then-is_none : goal.returns-then-is_none
returns-then-is_none g c =
    let t = c.args.self.now.table.now in
    let R = g.K.Figure.ring in
    let a = (goal.at.returns-then-is_none g c).After-no_higher-cut in
    let is = next_is g (goal.at.returns-then-is_none g c).After-next_option-next in
    let h = c.args.holds.now.entries in
    let f = cut_is g a _ c.if-cut.false in
    let sheet = c.args.self.now.sheet.now in
    record {
      option = is ∙ sym (turn_option (its g a) c.args.levels h c.args.found.now f);
      found = c.offer.ensures ∙ ap (λ f. offered (beats R f c.args.found.now.best) h f (opened c.args.found.now)) c.count_figure-figure.ensures.answer
          ∙ sym (turn_leaf (its g a) c.args.levels h c.args.found.now f (sym (ap is_some is) ∙ c.is_none.ensures ∙ ap not c.if-is_none.true));
      work = counts_kept R (plan_asks c.args.self.now c.args.holds.now) (selected h) _ _ c.count_figure-figure.ensures.work
          ∙ parts_kept R (plan_asks c.args.self.now c.args.holds.now) _ _ c.pair_bound-bound.ensures.work;
    }

pub returns-else-is_none : goal.returns-else-is_none
returns-else-is_none g c =
    let t = c.args.self.now.table.now in
    let R = g.K.Figure.ring in
    let a = (goal.at.returns-else-is_none g c).After-no_higher-cut in
    let is = next_is g (goal.at.returns-else-is_none g c).After-next_option-next in
    let h = c.args.holds.now.entries in
    let f = cut_is g a _ c.if-cut.false in
    record {
      option = is ∙ sym (turn_option (its g a) c.args.levels h c.args.found.now f);
      found = sym (turn_fork (its g a) c.args.levels h c.args.found.now f (sym (ap is_some is) ∙ c.is_none.ensures ∙ ap not c.if-is_none.false));
      work = parts_kept R (plan_asks c.args.self.now c.args.holds.now) _ _ c.pair_bound-bound.ensures.work;
    }

use Rattle.std.proofs.Common.{◌≤◌, sym, refl, ap, ◌∙◌, arith}
use Rattle.std.proofs.lemmas.Bool.{leb-true}
use Rattle.table.proofs.Asked.{proved_sound, variables_few}
use Rattle.passes.proofs.Roots.{options_many}
use Rattle.search.specs.Plans.{plan_asks, plan_branching}
use Rattle.search.specs.Select.{explored, start}
use Rattle.search.proofs.Best.{selects}
use Rattle.search.proofs.Naming.{named_free}
use Rattle.search.proofs.Walks.{walk_start, walk_few, walk_less, walk_fork, walk_back, walk_end}
use Rattle.search.proofs.plan.Plan.explore.Given as given
use Rattle.search.proofs.plan.Plan.explore.Goals as goal
use Rattle.search.proofs.plan.Plan.explore.Goals.{After-options-levels}

few : (g : given.Over) (c : After-options-levels g) → c.options-levels.result ≤ 20
few g c = omega (arith, c.options-levels.ensures, leb-true _ 20 c.args.self.now.table.now.few)

pub branches-init : goal.branches-init
branches-init g c =
    let plan = plan_branching g.K.Figure.ring (g.O.BranchingOrder.picks c.args.self.now.order.now) c.args.self.now c.args.start in
    record {
      walking = walk_start plan c.options-levels.result c.args.start.entries start;
      behind = refl;
    }

pub open-requires : goal.open-requires
open-requires g c = record {
  room = omega (arith, c.requires.room, c.branches.auto.work);
  few = walk_few c.branches.invariant.walking (few g (goal.at.open-requires g c).After-options-levels) refl;
}

pub returns-then-depth-eq0 : goal.returns-then-depth-eq0
returns-then-depth-eq0 g c =
    let t = c.args.self.now.table.now in
    let pick = g.O.BranchingOrder.picks c.args.self.now.order.now in
    let plan = plan_branching g.K.Figure.ring pick c.args.self.now c.args.start in
    let b = c.retreat-depth.ensures in
    let found = walk_end c.branches.invariant.walking c.open.ensures.found (few g (goal.at.returns-then-depth-eq0 g c).After-options-levels)
    (sym c.in-None.is ∙ c.open.ensures.option) b.depth b.trail b.holds c.if-depth-eq0.true
    ∙ ap (λ n. explored plan n c.args.start.entries start) (c.options-levels.ensures ∙ sym (options_many t)) in
    record {
      best = rw found (selects g.K.Figure.ring g.K.Figure.laws pick (g.met.O.BranchingOrder.names c.args.self.now.order.now) (plan_asks c.args.self.now c.args.start)
          (proved_sound t) (omega (arith, variables_few t)));
      work = c.open.ensures.work ∙ c.branches.invariant.behind;
    }

pub branches-smaller : goal.branches-smaller
branches-smaller g c = walk_less c.branches.invariant.walking c.open.ensures.found

pub branches-preserved : goal.branches-preserved
branches-preserved g c =
    let b = c.retreat-depth.ensures in
    record {
      walking = walk_back c.branches.invariant.walking c.open.ensures.found (few g (goal.at.branches-preserved g c).After-options-levels)
          (sym c.in-None.is ∙ c.open.ensures.option) b.depth b.trail b.holds (omega arith);
      behind = c.open.ensures.work ∙ c.branches.invariant.behind;
    }

pub branches-smaller-in-Some : goal.branches-smaller-in-Some
branches-smaller-in-Some g c = walk_less c.branches.invariant.walking c.open.ensures.found

pub branches-preserved-in-Some : goal.branches-preserved-in-Some
branches-preserved-in-Some g c =
    let pick = g.O.BranchingOrder.picks c.args.self.now.order.now in
    let law = g.met.O.BranchingOrder.names c.args.self.now.order.now in
    record {
      walking = walk_fork c.branches.invariant.walking c.open.ensures.found (few g (goal.at.branches-preserved-in-Some g c).After-options-levels) (sym c.in-Some.is ∙ c.open.ensures.option)
          (named_free g.K.Figure.ring pick law (plan_asks c.args.self.now c.branches.current)) c.hold.ensures;
      behind = c.open.ensures.work ∙ c.branches.invariant.behind;
    }

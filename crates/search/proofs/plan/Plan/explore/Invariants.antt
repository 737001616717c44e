use Rattle.std.proofs.Common.{◌≡◌, ℕ, ◌-◌, List, drop}
use Rattle.table.specs.Whole.{circuit, roles}
use Rattle.passes.specs.Holding.{Entries}
use Rattle.passes.specs.Places.{pair_places}
use Rattle.search.specs.declared.found.Found.{Found}
use Rattle.search.specs.declared.trail.Branch.{Branch}
use Rattle.search.specs.Select.{Branching, explored, start}
use Rattle.search.specs.Plans.{plan_branching}
use Rattle.search.proofs.Walks.{Walking}
use Rattle.search.proofs.plan.Plan.explore.Given as goal

-- what the loop keeps, of the first `size` places of the work table nothing
pub record Kept {F : Type 0} (plan : Branching F) (n : ℕ) (h₀ : Entries) (s₀ : Found F) (size : ℕ) (before : List F) (trail : List Branch) (d : ℕ) (h : Entries) (s : Found F) (work : List F) : Type 0 where
  pub walking : Walking plan n h₀ s₀ trail d h s
  pub behind : drop size work ≡ drop size before

abbrev pub invariant-branches : goal.invariant-branches
invariant-branches g l =
    Kept (plan_branching g.K.Figure.ring (g.O.BranchingOrder.picks l.self.order.now) l.self l.fn.start) l.levels l.fn.start.entries start
    (pair_places (roles l.self.table.now) (circuit l.self.table.now)) l.initial.work l.trail l.depth l.current.entries l.found l.work

abbrev pub decreases-branches : goal.decreases-branches
decreases-branches g l =
    (explored (plan_branching g.K.Figure.ring (g.O.BranchingOrder.picks l.self.order.now) l.self l.fn.start) l.levels l.fn.start.entries start).openings
    - l.found.openings

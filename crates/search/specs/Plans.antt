-- What branch and bound goes by, from its parts.
use Rattle.std.specs.Prelude.{List, Option, ℕ}
use Rattle.kinds.specs.Semiring.{Semiring}
use Rattle.table.specs.Whole.{circuit, roles}
use Rattle.passes.specs.Problem.{Problem, problem_of}
use Rattle.passes.specs.declared.holds.Holds.{Holds}
use Rattle.search.specs.Listing.{choices}
use Rattle.search.specs.Orders.{Order, told}
use Rattle.search.specs.Select.{Branching, branching, named}
use Rattle.search.specs.Walk.{next_at}
use Rattle.search.specs.declared.plan.Plan.{Plan}

module _ {F O : Type 0} where
  -- the problem of a plan under holds
  abbrev pub plan_asks : Plan F O → Holds → Problem F
  plan_asks plan h = problem_of plan.table.now plan.sheet.now h.entries

  module _ (R : Semiring F) (pick : Order F) (plan : Plan F O) (h : Holds) where
    -- its branch and bound, by what its order names
    abbrev pub plan_branching : Branching F
    plan_branching = branching R pick (plan_asks plan h)

    -- the option to branch on, where at most so many are free, told by the root's part of the work table
    abbrev pub plan_next : (levels : ℕ) → (part : List F) → Option ℕ
    plan_next levels part =
        next_at levels (named pick (told R part (choices (roles plan.table.now) (circuit plan.table.now) h.entries)))

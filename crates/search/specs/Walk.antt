-- The loop of branch and bound: a branch is opened, a trail leads to it, and the loop goes back along it.
use Rattle.std.specs.Prelude.{ℕ, zero, suc, false, List, Some, None, Option, get_or, slice_set, if◌then◌else◌}
use Rattle.passes.specs.Holding.{Entries}
use Rattle.passes.specs.Marks.{with_entry}
use Rattle.passes.specs.declared.holds.Entry.TheVariants.{Free, Off}
use Rattle.search.specs.declared.found.Found.{Found}
use Rattle.search.specs.declared.trail.Branch.{Branch}
use Rattle.search.specs.Select.{Branching, opened, counted}

-- the option to branch on, where at most k options are free
abbrev pub next_at : ℕ → Option ℕ → Option ℕ
next_at zero o = None
next_at (suc k) o = o

-- one branch opened, where at most k options are free: the option to branch on, if anything follows, and what is found
unfoldable pub open_branch : {F : Type 0} → Branching F → ℕ → Entries → Found F → Option ℕ × Found F
open_branch b k h s =
    if b.cuts h s.best then (None, opened s)
    else (elim (next_at k (b.next h)) [
      | None ↦ (None, counted b h (opened s))
      | Some v ↦ (Some v, opened s)
    ])

-- what stands in a trail where there is no branch
abbrev pub no_branch : Branch
no_branch = record { option = 0; on = false }

-- the same option, held to its off side
abbrev pub off_side : Branch → Branch
off_side b = record { option = b.option; on = false }

-- back to the last of the first d branches that is held on, and over to its off side: how many branches are left, the
-- trail and the holds
unfoldable pub back : List Branch → ℕ → Entries → ℕ × List Branch × Entries
back trail zero h = (0, trail, h)
back trail (suc d) h =
    if (get_or trail d no_branch).on
    then (suc d, slice_set trail d (off_side (get_or trail d no_branch)), with_entry h (get_or trail d no_branch).option Off)
    else back trail d (with_entry h (get_or trail d no_branch).option Free)

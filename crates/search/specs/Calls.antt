-- What a study's calls answer, and what they leave in the work table.
use Rattle.std.specs.Prelude.{◌≡◌, ℕ, Bool, List, length, drop, Result}
use Rattle.kinds.specs.Semiring.{Semiring}
use Rattle.table.specs.Count.{weighed}
use Rattle.table.specs.declared.table.Table.{Table}
use Rattle.table.specs.Whole.{circuit, roles}
use Rattle.passes.specs.Holding.{Entries}
use Rattle.passes.specs.Marks.{with_entry, held}
use Rattle.passes.specs.Passes.{bound}
use Rattle.passes.specs.Places.{pair_places}
use Rattle.passes.specs.Problem.{Problem, problem_of, under_holds, held_figure}
use Rattle.passes.specs.Written.{counts_left, pairs_left}
use Rattle.passes.specs.declared.holds.Entry.TheVariants.{Free}
use Rattle.passes.specs.declared.holds.Holds.{Holds}
use Rattle.passes.specs.declared.sheet.Sheet.{Sheet}
use Rattle.search.specs.Orders.{Order}
use Rattle.search.specs.Select.{select}
use Rattle.search.specs.Study.{answered, changed_to, hold_tests, release_tests, weigh_tests, figure_tests, bound_tests, trial_tests}
use Rattle.search.specs.declared.fault.Fault.{Fault}
use Rattle.search.specs.declared.found.Found.{Found}

-- the places that bound, trial and select may write
abbrev pub places : Table → ℕ
places t = pair_places (roles t) (circuit t)

-- what stands behind those places is as before
abbrev pub BehindKept : {F : Type 0} → Table → List F → List F → Type 0
BehindKept t before after = drop (places t) after ≡ drop (places t) before

-- what a call asks, by the parts of a study that it is lent
abbrev pub asked : {F : Type 0} → Table → Sheet F → Holds → Problem F
asked t s h = problem_of t s.figures.now h.entries

-- the same with one option more held on (or off)
abbrev pub tried : {F : Type 0} → Problem F → ℕ → Bool → Problem F
tried p v on = under_holds p (with_entry p.holds v (held on))

-- What hold, release and weigh leave: their change, or if they are refused what was there.

module _ (t : Table) (h : Holds) (v : ℕ) where
  abbrev pub hold_leaves : Bool → Entries
  hold_leaves on = changed_to (hold_tests (roles t) h.entries v) (with_entry h.entries v (held on)) h.entries

  abbrev pub release_leaves : Entries
  release_leaves = changed_to (release_tests (roles t) h.entries v) (with_entry h.entries v Free) h.entries

abbrev pub weigh_leaves : {F : Type 0} → Problem F → ℕ → F → F → List F
weigh_leaves p v on off = changed_to (weigh_tests p v) (weighed p.sheet v on off) p.sheet

-- What the others answer, with a work table of so many figures.

module _ {F : Type 0} (R : Semiring F) (p : Problem F) (work-size : ℕ) where
  abbrev pub figure_answer : Result F Fault
  figure_answer = answered (figure_tests p work-size) (held_figure R p)

  abbrev pub bound_answer : Result F Fault
  bound_answer = answered (bound_tests p work-size) (bound R p)

  abbrev pub trial_answer : ℕ → Bool → Result F Fault
  trial_answer v on = answered (trial_tests p work-size v) (bound R (tried p v on))

  abbrev pub select_answer : Order F → Result (Found F) Fault
  select_answer pick = answered (bound_tests p work-size) (select R pick p)

-- What they leave in the work table. Select and trial may leave anything in its first places.

module _ {F : Type 0} (R : Semiring F) (p : Problem F) (work : List F) where
  -- figure leaves the counting values of the selection held in the first places of the work table
  abbrev pub figure_leaves : List F
  figure_leaves = changed_to (figure_tests p (length work)) (counts_left R p work) work

  -- bound leaves the pair pass under the holds
  abbrev pub bound_leaves : List F
  bound_leaves = changed_to (bound_tests p (length work)) (pairs_left R p work) work

-- The working day: a list of calls on one new study, and the book that is kept of it.
use Rattle.std.specs.Prelude.{◌≡◌, ℕ, ◌≤◌, true, List, [], ◌∷◌, length, take, Ok, Err, Result}
use Rattle.kinds.specs.Semiring.{Semiring}
use Rattle.table.specs.Circuit.{Shape}
use Rattle.table.specs.Count.{weighed}
use Rattle.table.specs.Facts.{Among}
use Rattle.table.specs.Sound.{Roles}
use Rattle.table.specs.Whole.{circuit, roles}
use Rattle.table.specs.declared.table.Table.{Table}
use Rattle.passes.specs.Bounding.{Bounded}
use Rattle.passes.specs.Holding.{Entries}
use Rattle.passes.specs.Marks.{with_entry, held}
use Rattle.passes.specs.Passes.{bound}
use Rattle.passes.specs.Problem.{Problem, held_figure}
use Rattle.passes.specs.declared.holds.Entry.TheVariants.{Free}
use Rattle.passes.specs.declared.holds.Holds.{Holds}
use Rattle.passes.specs.declared.sheet.Sheet.{Sheet}
use Rattle.search.specs.Best.{FoundBest, Counted}
use Rattle.search.specs.Calls.{tried}
use Rattle.search.specs.Faults.{turn}
use Rattle.search.specs.Orders.{Order}
use Rattle.search.specs.Select.{select}
use Rattle.search.specs.Study.{unheld, Tests, answered, changed_to, hold_tests, release_tests, weigh_tests, figure_tests, bound_tests, trial_tests}
use Rattle.search.specs.declared.call.Call.{Call}
use Rattle.search.specs.declared.call.Call.TheVariants.{Hold, Release, Weigh, Trial, Figure, Bound, Select}
use Rattle.search.specs.declared.call.Reply.{Reply}
use Rattle.search.specs.declared.call.Reply.TheVariants.{Done, Value, Chosen}
use Rattle.search.specs.declared.fault.Fault.{Fault}
use Rattle.search.specs.declared.fault.Fault.TheVariants.{StrayHold}
use Rattle.search.specs.declared.found.Found.{Found}

-- what is kept of a study: an entry for each variable, and a list of figures
pub record Book (F : Type 0) : Type 0 where
  pub holds : Entries
  pub sheet : List F

-- nothing is held at first, and the figures are the sheet's
abbrev pub new : {F : Type 0} → List F → Book F
new sheet = record { holds = unheld; sheet = sheet }

-- the book of a study as it stands
abbrev pub book_of : {F : Type 0} → Sheet F → Holds → Book F
book_of sheet h = record { holds = h.entries; sheet = sheet.figures.now }

-- the parts of a study that no call changes: which variables are options, the circuit, what the order names, and how
-- many figures the work table has
pub record FixedParts (F : Type 0) : Type 0 where
  pub roles : Roles
  pub circuit : List Shape
  pub pick : Order F
  pub work_size : ℕ

-- those of a table, an order and a work table
abbrev pub fixed_parts : {F : Type 0} → Table → Order F → List F → FixedParts F
fixed_parts t pick work = record { roles = roles t; circuit = circuit t; pick = pick; work_size = length work }

-- what is asked of the passes, by the book
abbrev pub problem_by : {F : Type 0} → FixedParts F → Book F → Problem F
problem_by s b = record { roles = s.roles; circuit = s.circuit; sheet = b.sheet; holds = b.holds }

-- The replies of accepted calls.

abbrev pub IsDone : {F : Type 0} → Reply F → Type 0
IsDone r = r ≡ Done

-- the reply is a figure of which P holds
abbrev pub IsValue : {F : Type 0} → (F → Type 0) → Reply F → Type 0
IsValue P Done = ⊥
IsValue P (Value f) = P f
IsValue P (Chosen found) = ⊥

-- the reply is what select found, of which P holds
abbrev pub IsChosen : {F : Type 0} → (Found F → Type 0) → Reply F → Type 0
IsChosen P Done = ⊥
IsChosen P (Value f) = ⊥
IsChosen P (Chosen found) = P found

-- What there is to say of a call: the refusals that it can meet, each with whether it fits, in the order in which they are
-- tried; and if none fits, the book after it, the reply worked out, and what the reply is.
pub record CallFacts (F : Type 0) : Type 1 where
  pub tests : Tests
  pub next : Book F
  pub reply : Reply F
  pub Says : Reply F → Type 0

module _ {F : Type 0} (R : Semiring F) (s : FixedParts F) (b : Book F) where
  abbrev pub facts : Call F → CallFacts F
  facts (Hold v on) = record {
    tests = hold_tests s.roles b.holds v;
    next = record { holds = with_entry b.holds v (held on); sheet = b.sheet };
    reply = Done;
    Says = IsDone;
  }
  facts (Release v) = record {
    tests = release_tests s.roles b.holds v;
    next = record { holds = with_entry b.holds v Free; sheet = b.sheet };
    reply = Done;
    Says = IsDone;
  }
  facts (Weigh v on off) = record {
    tests = weigh_tests (problem_by s b) v;
    next = record { holds = b.holds; sheet = weighed b.sheet v on off };
    reply = Done;
    Says = IsDone;
  }
  facts (Trial v on) = record {
    tests = trial_tests (problem_by s b) s.work_size v;
    next = b;
    reply = Value (bound R (tried (problem_by s b) v on));
    Says = IsValue (Bounded R (tried (problem_by s b) v on));
  }
  facts Figure = record {
    tests = figure_tests (problem_by s b) s.work_size;
    next = b;
    reply = Value (held_figure R (problem_by s b));
    Says = IsValue (Counted R (problem_by s b));
  }
  facts Bound = record {
    tests = bound_tests (problem_by s b) s.work_size;
    next = b;
    reply = Value (bound R (problem_by s b));
    Says = IsValue (Bounded R (problem_by s b));
  }
  facts Select = record {
    tests = bound_tests (problem_by s b) s.work_size;
    next = b;
    reply = Chosen (select R s.pick (problem_by s b));
    Says = IsChosen (FoundBest R (problem_by s b) s.pick);
  }

  -- the refusal f is among those that c can meet, and fits
  abbrev pub Fits : Call F → Fault → Type 0
  Fits c f = Among (true, f) (facts c).tests

  -- of the refusals that fit, that whose turn comes first
  abbrev pub First : Call F → Fault → Type 0
  First c f = Fits c f × ((g : Fault) → Fits c g → turn f ≤ turn g)

  -- no refusal fits
  abbrev pub Accepted : Call F → Type 0
  Accepted c = (f : Fault) → Fits c f → ⊥

-- what a call is answered: a reply if it is accepted, or why it is refused
abbrev pub Answer : Type 0 → Type 0
Answer F = Result (Reply F) Fault

module _ {F : Type 0} (R : Semiring F) (s : FixedParts F) where
  -- a call is answered by the first refusal that fits, and the book stays; if none fits, by what it asks for, and the book
  -- changes
  pub record Right (b : Book F) (c : Call F) (a : Answer F) (next : Book F) : Type 0 where
    pub refused : (f : Fault) → First R s b c f → (a ≡ Err f) × (next ≡ b)
    pub accepted : Accepted R s b c → ((r : Reply F) × (a ≡ Ok r) × (facts R s b c).Says r) × (next ≡ (facts R s b c).next)

  -- a day: the book that it begins with, the calls, their answers, the book that it ends with
  pub data Day : Book F → List (Call F) → List (Answer F) → Book F → Type 0 where
    ended : {b : Book F} → Day b [] [] b
    called : {b next end : Book F} {c : Call F} {a : Answer F} {cs : List (Call F)} {more : List (Answer F)}
        → Right b c a next → Day next cs more end → Day b (c ∷ cs) (a ∷ more) end

  -- a day on a new study whose sheet has these figures: of the calls those that there are places for, and as many places
  abbrev pub NewDay : (sheet : List F) → List (Call F) → (places : List (Answer F)) → (end : Book F) → Type 0
  NewDay sheet cs places end = Day (new sheet) (take (length places) cs) (take (length cs) places) end

  -- The answers, worked out.

  abbrev pub answer : Book F → Call F → Answer F
  answer b c = answered (facts R s b c).tests (facts R s b c).reply

  -- the book after a call
  abbrev pub after : Book F → Call F → Book F
  after b c = changed_to (facts R s b c).tests (facts R s b c).next b

  abbrev pub answers : Book F → List (Call F) → List (Answer F)
  answers b [] = []
  answers b (c ∷ cs) = answer b c ∷ answers (after b c) cs

  abbrev pub book_after : Book F → List (Call F) → Book F
  book_after b [] = b
  book_after b (c ∷ cs) = book_after (after b c) cs

  -- no day has other answers than these, nor another end
  abbrev pub DaysAgree : Type 0
  DaysAgree =
      (b end : Book F) (cs : List (Call F)) (given : List (Answer F)) → Day b cs given end →
      (given ≡ answers b cs) × (end ≡ book_after b cs)

  -- stray holds are another table's: in a new study no call is refused for them
  abbrev pub NoStrays : Type 0
  NoStrays =
      (sheet : List F) (end : Book F) (cs : List (Call F)) (given : List (Answer F)) → Day (new sheet) cs given end →
      Among (Err StrayHold) given → ⊥

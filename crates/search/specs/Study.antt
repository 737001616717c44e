-- The calls of a study: which refusals can meet them, and what follows.
use Rattle.std.specs.Prelude.{ℕ, ◌*◌, Bool, not, ◌&&◌, List, [], ◌∷◌, length, replicate, Some, None, Option, Ok, Err, Result, nat_lt, if◌then◌else◌}
use Rattle.std.specs.List.{list_any, range_with_len}
use Rattle.table.specs.Sound.{Roles, is_option, options, known}
use Rattle.passes.specs.Holding.{Entries, entry, is_free}
use Rattle.passes.specs.Marks.{entry_at}
use Rattle.passes.specs.declared.holds.Entry.TheVariants.{Free}
use Rattle.passes.specs.Places.{pair_places}
use Rattle.passes.specs.Problem.{Problem}
use Rattle.search.specs.declared.fault.Fault.{Fault}
use Rattle.search.specs.declared.fault.Fault.TheVariants.{ShortSheet, StrayHold, NoOption, NoChance, Held, NotHeld, StillFree, ShortWork}

-- nothing is held
abbrev pub unheld : Entries
unheld = replicate 64 Free

-- refusals, each with whether it fits
abbrev pub Tests : Type 0
Tests = List (Bool × Fault)

-- the first that fits
abbrev pub first_fit : Tests → Option Fault
first_fit [] = None
first_fit (t ∷ ts) = if t.0 then Some t.1 else first_fit ts

-- the answer, or the first refusal that fits
abbrev pub answered : {A : Type 0} → Tests → A → Result A Fault
answered ts a = elim (first_fit ts) [ None ↦ Ok a | Some f ↦ Err f ]

-- what is new, or what was before if a refusal fits
abbrev pub changed_to : {A : Type 0} → Tests → A → A → A
changed_to ts new old = elim (first_fit ts) [ None ↦ new | Some f ↦ old ]

-- what a single test answers
abbrev pub passed : Bool × Fault → Result (Unit {0}) Fault
passed t = answered (t ∷ []) tt

-- The tests, one for each refusal.

module _ (rs : Roles) where
  -- a sheet of so many figures has not two for each variable
  abbrev pub short_sheet : ℕ → Bool × Fault
  short_sheet size = (nat_lt size (2 * length rs), ShortSheet)

  -- a variable is held that is not an option
  abbrev pub stray_hold : Entries → Bool × Fault
  stray_hold h = (list_any (λ v. not (is_option rs v) && not (is_free (entry h v))) (range_with_len 1 (length h)), StrayHold)

  -- the number given is not that of an option
  abbrev pub no_option : ℕ → Bool × Fault
  no_option v = (not (is_option rs v), NoOption v)

  -- the number given is not that of a chance
  abbrev pub no_chance : ℕ → Bool × Fault
  no_chance v = (not (known (length rs) v && not (is_option rs v)), NoChance v)

  -- an option is free
  abbrev pub still_free : Entries → Bool × Fault
  still_free h = (list_any (λ v. is_free (entry h v)) (options rs), StillFree)

-- the option given is held
abbrev pub held_already : Entries → ℕ → Bool × Fault
held_already h v = (not (is_free (entry_at h v)), Held v)

-- the option given is free
abbrev pub not_held : Entries → ℕ → Bool × Fault
not_held h v = (is_free (entry_at h v), NotHeld v)

-- a work table of so many figures is shorter than what is wanted
abbrev pub short_work : ℕ → ℕ → Bool × Fault
short_work size wanted = (nat_lt size wanted, ShortWork)

-- The refusals that each call can meet, in the order in which it tries them.

abbrev pub hold_tests : Roles → Entries → ℕ → Tests
hold_tests rs h v = stray_hold rs h ∷ no_option rs v ∷ held_already h v ∷ []

abbrev pub release_tests : Roles → Entries → ℕ → Tests
release_tests rs h v = stray_hold rs h ∷ no_option rs v ∷ not_held h v ∷ []

-- of a table with holds and a sheet
module _ {F : Type 0} (p : Problem F) where
  abbrev pub weigh_tests : ℕ → Tests
  weigh_tests v = short_sheet p.roles (length p.sheet) ∷ stray_hold p.roles p.holds ∷ no_chance p.roles v ∷ []

  -- with a work table of so many figures
  module _ (work-size : ℕ) where
    abbrev pub figure_tests : Tests
    figure_tests =
        short_sheet p.roles (length p.sheet) ∷ stray_hold p.roles p.holds ∷ still_free p.roles p.holds
        ∷ short_work work-size (length p.circuit) ∷ []

    -- bound and select
    abbrev pub bound_tests : Tests
    bound_tests =
        short_sheet p.roles (length p.sheet) ∷ stray_hold p.roles p.holds
        ∷ short_work work-size (pair_places p.roles p.circuit) ∷ []

    abbrev pub trial_tests : ℕ → Tests
    trial_tests v =
        short_sheet p.roles (length p.sheet) ∷ stray_hold p.roles p.holds ∷ no_option p.roles v ∷ held_already p.holds v
        ∷ short_work work-size (pair_places p.roles p.circuit) ∷ []

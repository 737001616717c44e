-- The text that a program prints for a plant's file: a table file with a weight text behind it.
use Rattle.std.specs.Prelude.{ℕ, List, [], ◌∷◌, drop, replicate, Ok, Err, Result}
use Rattle.kinds.specs.Semiring.{Semiring}
use Rattle.kinds.specs.Texts.{Notation}
use Rattle.text.specs.Format.{listed}
use Rattle.text.specs.Printed.{Lines}
use Rattle.text.specs.declared.record.Variables.{Variables}
use Rattle.table.specs.Check.{check_says}
use Rattle.table.specs.Circuit.{Shape}
use Rattle.table.specs.Nodes.{shapes, roles_of}
use Rattle.table.specs.declared.fault.Fault.TheVariants.{Text}
use Rattle.passes.specs.Passes.{bound}
use Rattle.passes.specs.Problem.{Problem}
use Rattle.search.specs.Orders.{Order}
use Rattle.search.specs.Select.{select}
use Rattle.search.specs.Study.{unheld, answered, bound_tests}
use Rattle.search.specs.Weights.{weights_say}
use Rattle.search.specs.declared.fault.Fault.{Fault}
use Rattle.search.specs.declared.fault.Fault.TheVariants.{Table}
use Rattle.parts.specs.Parts.{largest, read_from}
use Rattle.report.specs.Report.{refusal, report_of}

-- how many figures the sheet has
abbrev pub sheet_room : ℕ
sheet_room = 128

-- how many figures the work table has
abbrev pub work_room : ℕ
work_room = 4096

-- what is asked where nothing is held
abbrev pub unheld_problem : {F : Type 0} → Variables → List Shape → List F → Problem F
unheld_problem vs ss sheet = record { roles = roles_of vs; circuit = ss; sheet = sheet; holds = unheld }

-- what follows an answer; for a refusal, which a fault of this layer holds whole, its line alone
abbrev pub unless_refused : {A E : Type 0} → (E → Fault) → Result A E → (A → Lines) → Lines
unless_refused wrap (Ok a) next = next a
unless_refused wrap (Err e) next = refusal (wrap e) ∷ []

-- what follows a file's table, with its weight text, if the reader and the check accept the file
abbrev pub unless_file_refused : List ℕ → (Variables → List Shape → List ℕ → Lines) → Lines
unless_file_refused file next =
    unless_refused (λ f. Table (Text f)) (read_from largest file).answer (λ c.
    unless_refused Table (check_says c.variables (read_from largest file).nodes (read_from largest file).children) (λ _.
    next c.variables (shapes (read_from largest file).children (read_from largest file).nodes) (drop c.weights file)))

module _ {F : Type 0} (R : Semiring F) (N : Notation F) where
  -- what follows the sheet that a weight text leaves, if it is accepted
  abbrev pub unless_weights_refused : Variables → List F → List ℕ → (List F → Lines) → Lines
  unless_weights_refused vs sheet weights next =
      unless_refused (λ f. f) (weights_say R N (roles_of vs) sheet weights).answer (λ _.
      next (weights_say R N (roles_of vs) sheet weights).sheet)

module _ {F : Type 0} (R : Semiring F) (N : Notation F) (pick : Order F) where
  -- for a sheet and a work table of so many figures: bound and select, where nothing is held
  abbrev pub study_report : (work-size : ℕ) → Variables → List Shape → List F → Lines
  study_report size vs ss sheet =
      let p = unheld_problem vs ss sheet in
      unless_refused (λ f. f) (answered (bound_tests p size) (tt {0})) (λ _.
      report_of N (listed vs) (bound R p) (select R pick p))

  -- for a checked table, with its weight text
  abbrev pub table_report : Variables → List Shape → List ℕ → Lines
  table_report vs ss weights = unless_weights_refused R N vs (replicate sheet_room R.zero) weights (study_report work_room vs ss)

  -- for a file
  abbrev pub plant_report : List ℕ → Lines
  plant_report file = unless_file_refused file table_report

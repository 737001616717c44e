-- The text that a program prints for a list of calls on a plant.
use Rattle.std.specs.Prelude.{◌≡◌, ℕ, List, [], ◌∷◌, map, drop, replicate, Ok, Err, codes}
use Rattle.kinds.specs.Semiring.{Semiring}
use Rattle.kinds.specs.Texts.{Notation}
use Rattle.text.specs.Format.{listed}
use Rattle.text.specs.Printed.{Lines}
use Rattle.text.specs.declared.record.Contents.{Contents}
use Rattle.text.specs.declared.record.Variable.{Variable}
use Rattle.text.specs.declared.record.Variables.{Variables}
use Rattle.table.specs.Circuit.{Shape}
use Rattle.table.specs.Check.{check_says}
use Rattle.table.specs.Nodes.{roles_of, shapes}
use Rattle.table.specs.declared.sets.Mentions.{Mentions}
use Rattle.parts.specs.Parts.{largest, read_from}
use Rattle.search.specs.Day.{Book, FixedParts, Answer, Day, new, answers}
use Rattle.search.specs.Orders.{Order}
use Rattle.search.specs.Weights.{weights_say}
use Rattle.search.specs.declared.call.Call.{Call}
use Rattle.search.specs.declared.call.Reply.{Reply}
use Rattle.search.specs.declared.call.Reply.TheVariants.{Done, Value, Chosen}
use Rattle.report.specs.declared.day.Sizes.{Sizes}
use Rattle.report.specs.Report.{refusal, selection_line}
use Rattle.report.specs.Plant.{unless_file_refused, unless_weights_refused}

module _ {F : Type 0} (N : Notation F) (vs : List Variable) where
  -- D for done, V and a figure, or the line of a selection
  abbrev pub reply_line : Reply F → List (List ℕ)
  reply_line Done = codes "D" ∷ []
  reply_line (Value f) = codes "V" ∷ N.text f ∷ []
  reply_line (Chosen found) = selection_line N vs found

  -- a refused call has the line of its refusal
  abbrev pub answer_line : Answer F → List (List ℕ)
  answer_line (Ok r) = reply_line r
  answer_line (Err f) = refusal f

  abbrev pub answer_lines : List (Answer F) → Lines
  answer_lines given = map answer_line given

-- for a sheet and a work table of so many figures, and these calls
module _ {F : Type 0} (R : Semiring F) (N : Notation F) (pick : Order F) (sizes : Sizes) (cs : List (Call F)) where
  -- a study of these variables and this circuit
  abbrev pub plant_parts : Variables → List Shape → FixedParts F
  plant_parts vs ss = record { roles = roles_of vs; circuit = ss; pick = pick; work_size = sizes.work }

  -- for a checked table, with its weight text: the answers of a new study
  abbrev pub table_day : Variables → List Shape → List ℕ → Lines
  table_day vs ss weights =
      unless_weights_refused R N vs (replicate sizes.sheet R.zero) weights (λ sheet.
      answer_lines N (listed vs) (answers R (plant_parts vs ss) (new sheet) cs))

  -- for a file
  abbrev pub day_report : List ℕ → Lines
  day_report file = unless_file_refused file table_day

  -- where a file is accepted, these are the lines of the answers of a working day
  abbrev pub MakesDay : List ℕ → Type 0
  MakesDay file =
      (c : Contents) (m : Mentions) → (read_from largest file).answer ≡ Ok c →
      let vs = c.variables in
      let ns = (read_from largest file).nodes in
      let children = (read_from largest file).children in
      let read = weights_say R N (roles_of vs) (replicate sizes.sheet R.zero) (drop c.weights file) in
      check_says vs ns children ≡ Ok m → read.answer ≡ Ok tt →
      (given : List (Answer F)) × (end : Book F)
      × Day R (plant_parts vs (shapes children ns)) (new read.sheet) cs given end
      × (day_report file ≡ answer_lines N (listed vs) given)

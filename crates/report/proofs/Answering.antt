-- Lemmas on a day's answers and their lines.
use Rattle.std.proofs.Common.{◌≡◌, ℕ, ◌+◌, ◌<◌, ◌≤◌, List, [], ◌∷◌, ◌++◌, length, take, drop, replicate, get_or, is_ok, sym, ap, ap₂, ◌∙◌, arith}
use Rattle.std.proofs.Math.Seq.{take-append_seam}
use Rattle.std.proofs.lemmas.List.{length-map, map-append, take_all, take_more}
use Rattle.kinds.specs.Semiring.{Semiring, Laws}
use Rattle.kinds.specs.Texts.{Notation}
use Rattle.text.specs.Format.{listed}
use Rattle.text.specs.Printed.{Lines, text_of}
use Rattle.text.proofs.Filled.{variables_few}
use Rattle.text.proofs.Printed.{text_then}
use Rattle.text.specs.declared.record.Contents.{Contents}
use Rattle.text.specs.declared.record.Variable.{Variable}
use Rattle.parts.specs.Parts.{largest, read_from}
use Rattle.table.specs.Check.{check_says}
use Rattle.text.specs.Format.{is_option_role}
use Rattle.table.specs.Nodes.{roles_of, shapes}
use Rattle.table.specs.declared.fault.Fault.TheVariants.{Text}
use Rattle.table.specs.declared.sets.Mentions.{Mentions}
use Rattle.table.proofs.Yes.{yes_sound}
use Rattle.search.specs.Day.{Book, FixedParts, Answer, Day, DaysAgree, new, answers, book_after}
use Rattle.search.specs.Orders.{Order, Lawful}
use Rattle.search.specs.Weights.{weights_say}
use Rattle.search.specs.declared.call.Call.{Call}
use Rattle.search.specs.declared.fault.Fault.TheVariants.{Table}
use Rattle.search.proofs.Days.{days_run}
use Rattle.report.specs.Answers.{answer_line, answer_lines, plant_parts, table_day, MakesDay}
use Rattle.report.specs.declared.day.Sizes.{Sizes}
use Rattle.report.specs.Plant.{unless_refused}
use Rattle.report.proofs.Planning.{passed}

-- one answer more
module _ {F : Type 0} (N : Notation F) (vs : List Variable) (given : List (Answer F)) where
  pub answered_on : (i : ℕ) (a : Answer F) (printed line : List ℕ) → i < length given → a ≡ get_or given i a → printed ≡ text_of (answer_lines N vs (take i given)) → line ≡ text_of (answer_line N vs a ∷ [])
      → printed ++ line ≡ text_of (answer_lines N vs (take (i + 1) given))
  answered_on i a printed line lt is before this =
      ap₂ (λ p q. p ++ q) before this
      ∙ sym (text_then (answer_lines N vs (take i given)) (answer_line N vs a ∷ []))
      ∙ ap text_of (sym (map-append (answer_line N vs) (take i given) (a ∷ [])))
      ∙ ap (λ l. text_of (answer_lines N vs l)) (sym (take_more given i a lt ∙ ap (λ x. take i given ++ x ∷ []) (sym is)))

-- a day with a place for each call has its answers in these places, which are the whole of a store
module _ {F : Type 0} (R : Semiring F) (s : FixedParts F) (b end : Book F) (cs : List (Call F)) (given : List (Answer F)) where
  pub day_answered : (size : ℕ) (behind : List (Answer F)) → length given ≡ size → size ≡ length cs → DaysAgree R s
      → Day R s b (take (length given) cs) (take (length cs) given) end → take size (given ++ behind) ≡ answers R s b cs
  day_answered size behind room many agree day =
      ap (λ k. take k (given ++ behind)) (sym room)
      ∙ take-append_seam given behind
      ∙ sym (take_all (length cs) given (omega (arith, room, many)))
      ∙ (agree b end (take (length given) cs) (take (length cs) given) day).0
      ∙ ap (answers R s b) (take_all (length given) cs (omega (arith, room, many)))

-- an accepted file's answers are those of a working day
module _ {F : Type 0} (R : Semiring F) (laws : Laws R) (N : Notation F) (pick : Order F) (lawful : Lawful pick) (sizes : Sizes) (cs : List (Call F)) where
  pub makes_day : (file : List ℕ) → MakesDay R N pick sizes cs file
  makes_day file c m read accepted weighed =
      let vs = c.variables in
      let ns = (read_from largest file).nodes in
      let children = (read_from largest file).children in
      let left = weights_say R N (roles_of vs) (replicate sizes.sheet R.zero) (drop c.weights file) in
      let s = plant_parts R N pick sizes cs vs (shapes children ns) in
      let few : length (roles_of vs) ≤ 64 = omega (arith, length-map (listed vs) (λ v. is_option_role v.role), variables_few vs) in
      let lines : List F → Lines = λ sheet. answer_lines N (listed vs) (answers R s (new sheet) cs) in
      let weights : Mentions → Lines = λ m. table_day R N pick sizes cs vs (shapes children ns) (drop c.weights file) in
      let table : Contents → Lines = λ c.
      unless_refused Table (check_says c.variables (read_from largest file).nodes (read_from largest file).children) (λ _.
      table_day R N pick sizes cs c.variables (shapes (read_from largest file).children (read_from largest file).nodes) (drop c.weights file)) in (
        answers R s (new left.sheet) cs,
        book_after R s (new left.sheet) cs,
        days_run R laws s lawful (yes_sound vs ns children (ap is_ok accepted)) few left.sheet cs,
        passed (λ f. Table (Text f)) (read_from largest file).answer table c (sym read)
            ∙ passed Table (check_says vs ns children) weights m (sym accepted)
            ∙ passed (λ f. f) left.answer (λ _. lines left.sheet) tt (sym weighed),
      )

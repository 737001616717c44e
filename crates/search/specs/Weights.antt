-- What a weight text says, or the first refusal that fits.
--
-- A text is a list of lines, a line a list of fields: the letter W, a chance's number, its on weight, its off weight.
-- A weight has as many fields as a figure's text has.
use Rattle.std.specs.Prelude.{◌≡◌, ℕ, ◌+◌, ◌*◌, Bool, true, ◌&&◌, List, [], ◌∷◌, length, drop, replicate, Ok, Err, Result, ◌==◌, slice_index_or, if◌then◌else◌}
use Rattle.std.specs.List.{list_all}
use Rattle.std.specs.Str.{bytes_eq}
use Rattle.text.specs.declared.fault.Fault.TheVariants as text_fault
use Rattle.text.specs.declared.fault.Reason.{Reason}
use Rattle.text.specs.declared.fault.Reason.TheVariants as reason
use Rattle.text.specs.Format.{Said, and_then, provided, number_field, overwritten}
use Rattle.text.specs.Lines.{printable, lines, fields}
use Rattle.table.specs.declared.fault.Fault.TheVariants as table_fault
use Rattle.kinds.specs.Semiring.{Semiring}
use Rattle.kinds.specs.Texts.{Notation, figure_at}
use Rattle.table.specs.Count.{weight, weighed}
use Rattle.table.specs.Sound.{Roles, known}
use Rattle.search.specs.declared.fault.Fault.{Fault}
use Rattle.search.specs.declared.fault.Fault.TheVariants.{Table, ShortSheet, WeightLine}
use Rattle.search.specs.declared.weights.Weighing.{Weighing}
use Rattle.search.specs.Study.{short_sheet, no_chance}

-- One line.

-- a line's field k, counted from 0
abbrev pub field_at : ℕ → List ℕ → List ℕ
field_at k l = slice_index_or (fields l) k []

-- tabs and bytes 32 to 126, in so many fields, of which the first is the letter W
abbrev pub is_weight_line : (count : ℕ) → List ℕ → Bool
is_weight_line count l = list_all printable l && length (fields l) == count && bytes_eq (field_at 0 l) (87 ∷ [])

-- a refusal of a line's form is the text's
abbrev pub in_text : Reason → ℕ → Fault
in_text r line = Table (table_fault.Text (text_fault.Line r line))

module _ {F : Type 0} where
  -- the number and the two weights, by what their fields say
  abbrev pub together : Said ℕ → Said F → Said F → Said (Weighing F)
  together v a b = and_then v (λ n. and_then a (λ x. and_then b (λ y. Ok (record { variable = n; on = x; off = y }))))

  -- where the form is right, the number must be a chance's, as for the call weigh
  abbrev pub of_chance : Roles → ℕ → Said (Weighing F) → Result (Weighing F) Fault
  of_chance rs line (Err r) = Err (in_text r line)
  of_chance rs line (Ok w) = if (no_chance rs w.variable).0 then Err (WeightLine line) else Ok w

  module _ (N : Notation F) where
    -- what a line says by its form
    abbrev pub form_says : List ℕ → Said (Weighing F)
    form_says l =
        provided (is_weight_line (2 + 2 * N.fields) l) reason.Line
        (together (number_field (field_at 1 l)) (figure_at N 2 l) (figure_at N (2 + N.fields) l))

    -- what the line of this number, counted from 1, says of a table
    abbrev pub weight_line_says : Roles → ℕ → List ℕ → Result (Weighing F) Fault
    weight_line_says rs line l = of_chance rs line (form_says l)

-- The whole text.

-- whether a text is empty or ends in a byte 10; else its last line is not closed
abbrev pub is_closed : List ℕ → Bool
is_closed [] = true
is_closed (b ∷ []) = b == 10
is_closed (b ∷ c ∷ bs) = is_closed (c ∷ bs)

-- what a text leaves in the sheet, and the answer
pub record WeightReading (F : Type 0) : Type 0 where
  pub sheet : List F
  pub answer : Result (Unit {0}) Fault

-- a text that is accepted, and one that is refused
abbrev pub read : {F : Type 0} → List F → WeightReading F
read sheet = record { sheet = sheet; answer = Ok tt }

abbrev pub refused : {F : Type 0} → List F → Fault → WeightReading F
refused sheet f = record { sheet = sheet; answer = Err f }

-- a sheet with one at the two places of each of n variables
abbrev pub with_ones : {F : Type 0} → F → ℕ → List F → List F
with_ones one n sheet = overwritten (replicate (2 * n) one) sheet

module _ {F : Type 0} (N : Notation F) (rs : Roles) where
  -- from the line of this number on: each line writes its two weights, and the first refusal ends the reading
  unfoldable pub weight_lines_say : List F → (line : ℕ) → List (List ℕ) → (closed : Bool) → WeightReading F
  weight_lines_say sheet line [] closed = if closed then read sheet else refused sheet (in_text reason.Line line)
  weight_lines_say sheet line (l ∷ ls) closed =
      elim (weight_line_says N rs line l) [
        | Ok w ↦ weight_lines_say (weighed sheet w.variable w.on w.off) (line + 1) ls closed
        | Err f ↦ refused sheet f
      ]

module _ {F : Type 0} (R : Semiring F) (N : Notation F) where
  -- a sheet that is long enough is filled with ones first
  unfoldable pub weights_say : Roles → List F → List ℕ → WeightReading F
  weights_say rs sheet bytes =
      if (short_sheet rs (length sheet)).0 then refused sheet ShortSheet
      else weight_lines_say N rs (with_ones R.one (length rs) sheet) 1 (lines bytes) (is_closed bytes)

  -- What an accepted text comes to.

  -- a weight of variable v after a line: the line's, if it is of v
  abbrev pub by_line : (v : ℕ) → Bool → F → Said (Weighing F) → F
  by_line v b x (Err r) = x
  by_line v b x (Ok w) = if w.variable == v then (if b then w.on else w.off) else x

  -- and after some lines: that of the last line of v, or what it was before them
  abbrev pub by_lines : (v : ℕ) → Bool → F → List (List ℕ) → F
  by_lines v b x [] = x
  by_lines v b x (l ∷ ls) = by_lines v b (by_line v b x (form_says N l)) ls

  -- a variable's weights are those of its last line, or one without a line; behind the variables' places nothing changes
  pub record Weighs (rs : Roles) (bytes : List ℕ) (before after : List F) : Type 0 where
    pub weights : (v : ℕ) (b : Bool) → known (length rs) v ≡ true → weight R after v b ≡ by_lines v b R.one (lines bytes)
    pub behind : drop (2 * length rs) after ≡ drop (2 * length rs) before

  -- what weights_say makes of a text that it accepts
  abbrev pub WeighsAccepted : Roles → List F → List ℕ → Type 0
  WeighsAccepted rs sheet bytes =
      (weights_say rs sheet bytes).answer ≡ Ok tt → Weighs rs bytes sheet (weights_say rs sheet bytes).sheet

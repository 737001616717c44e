-- What a script says, or the first line that has not its form.
--
-- A script is a list of lines, a line a list of fields: the first line sets a study up, each other makes a call. Behind
-- the script stands a file.
use Rattle.std.specs.Prelude.{ℕ, ◌+◌, ◌*◌, Bool, true, false, ◌&&◌, List, [], ◌∷◌, ◌++◌, length, drop, Some, None, Ok, Err, codes, Option, Result, ◌==◌, if◌then◌else◌}
use Rattle.std.specs.Option.{option_map}
use Rattle.std.specs.Result.{result_ok}
use Rattle.std.specs.Str.{bytes_eq}
use Rattle.kinds.specs.Texts.{Notation, figure_at}
use Rattle.text.specs.Lines.{lines, fields}
use Rattle.text.specs.Numerals.{number}
use Rattle.search.specs.Weights.{field_at}
use Rattle.search.specs.declared.call.Call.{Call}
use Rattle.search.specs.declared.call.Call.TheVariants.{Hold, Release, Weigh, Trial, Figure, Bound, Select}
use Rattle.calls.specs.declared.setup.Kind.{Kind}
use Rattle.calls.specs.declared.setup.Kind.TheVariants.{Tally, Peak}
use Rattle.calls.specs.declared.setup.Order.{Order}
use Rattle.calls.specs.declared.setup.Order.TheVariants.{Number, Lean}
use Rattle.calls.specs.declared.setup.Setup.{Setup}

-- what follows what a field says, if it has the form
abbrev pub option_then : {A B : Type 0} → Option A → (A → Option B) → Option B
option_then None next = None
option_then (Some a) next = next a

-- The first line: a word names a kind, a word an order.

abbrev pub kind_of : List ℕ → Option Kind
kind_of w = if bytes_eq w (codes "tally") then Some Tally else (if bytes_eq w (codes "peak") then Some Peak else None)

abbrev pub order_of : List ℕ → Option Order
order_of w = if bytes_eq w (codes "number") then Some Number else (if bytes_eq w (codes "lean") then Some Lean else None)

-- D, a kind, an order, and the figures of the sheet and of the work table
abbrev pub setup_says : List ℕ → Option Setup
setup_says l =
    if length (fields l) == 5 && bytes_eq (field_at 0 l) (codes "D")
    then option_then (kind_of (field_at 1 l)) (λ k. option_then (order_of (field_at 2 l)) (λ o. option_then (number (field_at 3 l)) (λ s. option_then (number (field_at 4 l)) (λ w.
    Some (record { kind = k; order = o; sheet = s; work = w })))))
    else None

-- The line of a call: its word, and what that word wants. A word names a side.

abbrev pub side_named : List ℕ → Option Bool
side_named w = if bytes_eq w (codes "on") then Some true else (if bytes_eq w (codes "off") then Some false else None)

-- whether a line has this word, and so many fields
abbrev pub is_call : List ℕ → ℕ → List ℕ → Bool
is_call word count l = bytes_eq (field_at 1 l) word && length (fields l) == count

-- the number of an option and a side, for hold and for trial
abbrev pub sided : List ℕ → Option (ℕ × Bool)
sided l = option_then (number (field_at 2 l)) (λ v. option_then (side_named (field_at 3 l)) (λ s. Some (v, s)))

module _ {F : Type 0} (N : Notation F) where
  -- the number of a chance and its two weights
  abbrev pub weigh_says : List ℕ → Option (Call F)
  weigh_says l =
      option_then (number (field_at 2 l)) (λ v. option_then (result_ok (figure_at N 3 l)) (λ x. option_then (result_ok (figure_at N (3 + N.fields) l)) (λ y.
      Some (Weigh v x y))))

  -- behind its first field, which is C
  abbrev pub call_says : List ℕ → Option (Call F)
  call_says l =
      if is_call (codes "hold") 4 l then option_map (λ p. Hold p.0 p.1) (sided l)
      else (if is_call (codes "release") 3 l then option_map Release (number (field_at 2 l))
      else (if is_call (codes "weigh") (3 + 2 * N.fields) l then weigh_says l
      else (if is_call (codes "trial") 4 l then option_map (λ p. Trial p.0 p.1) (sided l)
      else (if is_call (codes "figure") 2 l then Some Figure
      else (if is_call (codes "bound") 2 l then Some Bound
      else (if is_call (codes "select") 2 l then Some Select else None))))))

-- The lines together.

-- C and a tab: what begins so is the line of a call, and what does not is the file
abbrev pub begins_call : List ℕ → Bool
begins_call [] = false
begins_call (a ∷ []) = false
begins_call (a ∷ b ∷ bs) = a == 67 && b == 9

-- the calls and the file behind them, or the number of the first line that has not its form, counted from 1
abbrev pub Read : Type 0 → Type 0
Read F = Result (List (Call F) × List ℕ) ℕ

module _ {F : Type 0} (N : Notation F) where
  -- a text and its lines, behind these calls, of which the first stands in line 2
  unfoldable pub read_on : List (Call F) → List ℕ → List (List ℕ) → Read F
  read_on before text [] = if begins_call text then Err (length before + 2) else (Ok (before, text))
  read_on before text (l ∷ ls) =
      if begins_call text
      then (elim (call_says N l) [ None ↦ Err (length before + 2) | Some c ↦ read_on (before ++ c ∷ []) (drop (length l + 1) text) ls ])
      else (Ok (before, text))

  -- the text behind the first line
  abbrev pub calls_say : List ℕ → Read F
  calls_say text = read_on [] text (lines text)

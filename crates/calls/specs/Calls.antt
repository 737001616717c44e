-- What the program prints.
use Rattle.std.specs.Prelude.{ℕ, ◌+◌, List, [], ◌∷◌, length, drop, Some, None, Ok, Err, codes, decimal, Option}
use Rattle.kinds.specs.Semiring.{Semiring}
use Rattle.kinds.specs.Texts.{Notation}
use Rattle.kinds.specs.Tallies.{tallies, tally_notation}
use Rattle.kinds.specs.Peaks.{peaks, peak_notation}
use Rattle.search.specs.Orders.{Order as Picks, lowest, strongest}
use Rattle.text.specs.Lines.{lines}
use Rattle.text.specs.Printed.{Lines}
use Rattle.report.specs.Answers.{day_report}
use Rattle.report.specs.declared.day.Sizes.{Sizes}
use Rattle.calls.specs.Script.{Read, setup_says, calls_say}
use Rattle.calls.specs.declared.setup.Kind.{Kind}
use Rattle.calls.specs.declared.setup.Kind.TheVariants.{Tally, Peak}
use Rattle.calls.specs.declared.setup.Order.{Order}
use Rattle.calls.specs.declared.setup.Order.TheVariants.{Number, Lean}
use Rattle.calls.specs.declared.setup.Setup.{Setup}

-- E and the number of the line that has not its form
abbrev pub malformed : ℕ → List (List ℕ)
malformed line = codes "E" ∷ decimal line ∷ []

-- how many figures the sheet and the work table have
abbrev pub sizes_of : Setup → Sizes
sizes_of s = record { sheet = s.sheet; work = s.work }

-- for a kind, an order, and a sheet and a work table of these sizes
module _ {F : Type 0} (R : Semiring F) (N : Notation F) (pick : Picks F) (sizes : Sizes) where
  -- for what was read
  abbrev pub script_report : Read F → Lines
  script_report (Ok said) = day_report R N pick sizes said.0 said.1
  script_report (Err line) = malformed line ∷ []

  -- for the text behind the first line
  abbrev pub calls_report : List ℕ → Lines
  calls_report bytes = script_report (calls_say N bytes)

-- by the kind and the order
abbrev pub by_setup : Kind → Order → Sizes → List ℕ → Lines
by_setup Tally Number sizes = calls_report tallies tally_notation lowest sizes
by_setup Tally Lean sizes = calls_report tallies tally_notation (strongest tallies) sizes
by_setup Peak Number sizes = calls_report peaks peak_notation lowest sizes
by_setup Peak Lean sizes = calls_report peaks peak_notation (strongest peaks) sizes

-- for what the first line says, and the text behind it
abbrev pub set_up : Option Setup → List ℕ → Lines
set_up None bytes = malformed 1 ∷ []
set_up (Some s) bytes = by_setup s.kind s.order (sizes_of s) bytes

-- for an input with these lines
abbrev pub from_lines : List ℕ → List (List ℕ) → Lines
from_lines input [] = malformed 1 ∷ []
from_lines input (l ∷ ls) = set_up (setup_says l) (drop (length l + 1) input)

-- for an input
abbrev pub calls : List ℕ → Lines
calls input = from_lines input (lines input)

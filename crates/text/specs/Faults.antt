-- The refusals 1 to 7: each fault's number and place.
use Rattle.std.specs.Prelude.{ℕ}
use Rattle.text.specs.declared.fault.Reason.{Reason}
use Rattle.text.specs.declared.fault.Reason.TheVariants as reason
use Rattle.text.specs.declared.fault.Fault.{Fault}
use Rattle.text.specs.declared.fault.Fault.TheVariants as fault

abbrev pub reason_number : Reason → ℕ
reason_number reason.Line = 2
reason_number reason.Number = 3
reason_number reason.Limit = 4
reason_number reason.Store = 5
reason_number reason.Variable = 6
reason_number reason.Children = 7

abbrev pub fault_number : Fault → ℕ
fault_number fault.Length = 1
fault_number (fault.Line r line) = reason_number r

-- a line's fault has the line for its place, counted from 1
abbrev pub fault_place : Fault → ℕ
fault_place fault.Length = 0
fault_place (fault.Line r line) = line

-- The refusals of a table: each fault's number, place and layer.
use Rattle.std.specs.Prelude.{ℕ}
use Rattle.text.specs.Faults as text
use Rattle.text.specs.declared.fault.Layer.{Layer}
use Rattle.text.specs.declared.fault.Layer.TheVariants as layer
use Rattle.table.specs.declared.fault.Flaw.{Flaw}
use Rattle.table.specs.declared.fault.Flaw.TheVariants as flaw
use Rattle.table.specs.declared.fault.Fault.{Fault}
use Rattle.table.specs.declared.fault.Fault.TheVariants as fault

abbrev pub flaw_number : Flaw → ℕ
flaw_number flaw.Order = 8
flaw_number flaw.Variable = 9
flaw_number flaw.Shared = 10
flaw_number flaw.Branch = 11
flaw_number flaw.Uneven = 12
flaw_number flaw.Missing = 13

abbrev pub fault_number : Fault → ℕ
fault_number (fault.Text f) = text.fault_number f
fault_number (fault.Node f node) = flaw_number f

-- a node's fault has the node for its place
abbrev pub fault_place : Fault → ℕ
fault_place (fault.Text f) = text.fault_place f
fault_place (fault.Node f node) = node

abbrev pub fault_layer : Fault → Layer
fault_layer (fault.Text f) = layer.Text
fault_layer (fault.Node f node) = layer.Table

use Rattle.std.proofs.Common.{string_bytes}
use Rattle.text.specs.Format.{listed}
use Rattle.text.proofs.Printed.{Printing}
use Rattle.report.proofs.Naming.{names_text}
use Rattle.report.proofs.answer.names_text.Given as goal

abbrev pub invariant-loop-number : goal.invariant-loop-number
invariant-loop-number l = Printing (names_text l.holds.entries) (listed l.variables) (string_bytes l.text) l.number-iterator.a.start l.number-iterator.b.rest.now

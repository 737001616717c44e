use Rattle.std.proofs.Common.{◌≡◌, take, string_bytes}
use Rattle.text.specs.Format.{listed}
use Rattle.text.specs.Printed.{text_of}
use Rattle.text.specs.Printed.{PlainNames}
use Rattle.report.specs.Answers.{answer_lines}
use Rattle.report.proofs.day.answers_text.Given as goal

abbrev pub invariant-loop-answer : goal.invariant-loop-answer
invariant-loop-answer g l =
    PlainNames (listed l.variables) → string_bytes l.text ≡ text_of (answer_lines g.K.Written.notation (listed l.variables) (take l.answer-index l.answers))

use Rattle.std.proofs.Common.{◌++◌, ap, ◌∙◌, string_bytes}
use Rattle.std.proofs.lemmas.List.{take_all}
use Rattle.text.specs.Format.{listed}
use Rattle.text.specs.Printed.{text_of}
use Rattle.report.specs.Answers.{answer_lines}
use Rattle.report.proofs.Answering.{answered_on}
use Rattle.report.proofs.day.answers_text.Goals as goal

pub loop-answer-preserved : goal.loop-answer-preserved
loop-answer-preserved g c = λ plain.
    c.in_ok-push_str.ensures.bytes
    ∙ ap (λ l. string_bytes c.loop-answer.text ++ l) c.as_str.ensures.value
    ∙ answered_on g.K.Written.notation (listed c.args.variables.now) c.args.answers.now c.loop-answer.answer-index c.answer-item.result (string_bytes c.loop-answer.text) (string_bytes c.in_ok-line.line)
    c.loop-answer-test.true c.answer-item.is (c.loop-answer.invariant plain) (c.in_ok-line.ensures plain)

pub returns : goal.returns
returns g c = λ plain.
    c.loop-answer.invariant plain ∙ ap (λ l. text_of (answer_lines g.K.Written.notation (listed c.args.variables.now) l)) (take_all c.loop-answer.answer-index c.args.answers.now c.loop-answer-test.false)

use Rattle.std.proofs.Common.{ℕ, ap, ◌∙◌, length, replicate, sym}
use Rattle.std.proofs.lemmas.List.{length-replicate}
use Rattle.text.specs.Format.{listed}
use Rattle.text.specs.Printed.{text_of}
use Rattle.table.specs.Whole.{circuit}
use Rattle.search.specs.Day.{new, answers}
use Rattle.report.specs.Answers.{answer_lines, plant_parts}
use Rattle.report.proofs.Planning.{read}
use Rattle.report.proofs.day.table_day.Goals as goal

pub returns : goal.returns
returns g c = λ plain.
    let t = c.args.table.now in
    let R = g.K.Figure.ring in
    let pick = g.O.BranchingOrder.picks c.args.order.now in
    let sheet = c.read_weights.new.sheet.figures.now in
    let cs = c.args.calls.now in
    let with_room = λ (k : ℕ). plant_parts R g.K.Written.notation pick (record { sheet = c.args.sizes.sheet; work = k }) cs t.variables (circuit t) in
    c.in_ok-answers_text.ensures plain
    ∙ ap (λ l. text_of (answer_lines g.K.Written.notation (listed t.variables) l))
    (c.deref.ensures.value ∙ c.in_ok-answers.ensures ∙ ap (λ k. answers R (with_room k) (new sheet) cs)
    (ap length (c.deref_mut-2.ensures.value ∙ c.in_ok-work.ensures) ∙ length-replicate c.args.sizes.work R.zero))
    ∙ ap text_of (sym (read R g.K.Written.notation t.variables
    (replicate c.args.sizes.sheet R.zero) c.deref_mut.result.now (c.deref_mut.ensures.value ∙ c.in_ok-figures.ensures) c.args.weights.now
    (λ s. answer_lines g.K.Written.notation (listed t.variables) (answers R (with_room c.args.sizes.work) (new s) cs))
    c.in_ok-read_weights.ensures.answer sheet c.in_ok-read_weights.ensures.sheet))

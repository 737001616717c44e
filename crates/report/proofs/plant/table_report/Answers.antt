use Rattle.std.proofs.Common.{ap, ◌∙◌, length, replicate, sym}
use Rattle.std.proofs.lemmas.List.{length-replicate}
use Rattle.text.specs.Printed.{text_of}
use Rattle.table.specs.Whole.{circuit}
use Rattle.report.specs.Plant.{sheet_room, work_room, study_report}
use Rattle.report.proofs.Planning.{refused_says, unread, read, unanswered, selected}
use Rattle.report.proofs.plant.table_report.Goals as goal

pub returns-in_err-read_weights : goal.returns-in_err-read_weights
returns-in_err-read_weights g c =
    let t = c.args.table.now in
    refused_says _ _ _ c.from_residual-in_err-read_weights.result c.from_residual-in_err-read_weights.ensures
    (unread g.K.Figure.ring g.K.Written.notation t.variables
    (replicate sheet_room g.K.Figure.ring.zero) c.deref_mut.result.now (c.deref_mut.ensures.value ∙ c.in_ok-figures.ensures) c.args.weights.now
    (study_report g.K.Figure.ring g.K.Written.notation (g.O.BranchingOrder.picks c.args.order.now) work_room t.variables (circuit t)) _ c.in_err-read_weights.ensures.answer)

pub returns-in_err-most : goal.returns-in_err-most
returns-in_err-most g c =
    let t = c.args.table.now in
    let sheet = c.read_weights.new.sheet.figures.now in
    refused_says _ _ _ c.from_residual-in_err-most.result c.from_residual-in_err-most.ensures
    (read g.K.Figure.ring g.K.Written.notation t.variables
    (replicate sheet_room g.K.Figure.ring.zero) c.deref_mut.result.now (c.deref_mut.ensures.value ∙ c.in_ok-figures.ensures) c.args.weights.now
    (study_report g.K.Figure.ring g.K.Written.notation (g.O.BranchingOrder.picks c.args.order.now) work_room t.variables (circuit t)) c.in_ok-read_weights.ensures.answer sheet c.in_ok-read_weights.ensures.sheet
    ∙ unanswered g.K.Figure.ring g.K.Written.notation (g.O.BranchingOrder.picks c.args.order.now) t.variables (circuit t) work_room sheet
    c.new-holds.result.entries c.new-holds.ensures _ (length c.deref_mut-2.result.now) (ap length (c.deref_mut-2.ensures.value ∙ c.in_ok-work.ensures) ∙ length-replicate work_room g.K.Figure.ring.zero) _ c.in_err-most.ensures.answer)

pub returns-in_err-found : goal.returns-in_err-found
returns-in_err-found g c =
    let t = c.args.table.now in
    let sheet = c.read_weights.new.sheet.figures.now in
    refused_says _ _ _ c.from_residual-in_err-found.result c.from_residual-in_err-found.ensures
    (read g.K.Figure.ring g.K.Written.notation t.variables
    (replicate sheet_room g.K.Figure.ring.zero) c.deref_mut.result.now (c.deref_mut.ensures.value ∙ c.in_ok-figures.ensures) c.args.weights.now
    (study_report g.K.Figure.ring g.K.Written.notation (g.O.BranchingOrder.picks c.args.order.now) work_room t.variables (circuit t)) c.in_ok-read_weights.ensures.answer sheet c.in_ok-read_weights.ensures.sheet
    ∙ unanswered g.K.Figure.ring g.K.Written.notation (g.O.BranchingOrder.picks c.args.order.now) t.variables (circuit t) work_room sheet
    c.new-holds.result.entries c.new-holds.ensures _
    (length c.deref_mut-3.result.now) (c.deref_mut-3.ensures.len ∙ sym c.deref_mut-2.ensures.len ∙ ap length (c.deref_mut-2.ensures.value ∙ c.in_ok-work.ensures) ∙ length-replicate work_room g.K.Figure.ring.zero) _ c.in_err-found.ensures.answer)

pub returns : goal.returns
returns g c = λ plain.
    let t = c.args.table.now in
    let sheet = c.read_weights.new.sheet.figures.now in
    c.in_ok-report_text.ensures plain
    ∙ ap text_of (sym
    (read g.K.Figure.ring g.K.Written.notation t.variables
    (replicate sheet_room g.K.Figure.ring.zero) c.deref_mut.result.now (c.deref_mut.ensures.value ∙ c.in_ok-figures.ensures) c.args.weights.now
    (study_report g.K.Figure.ring g.K.Written.notation (g.O.BranchingOrder.picks c.args.order.now) work_room t.variables (circuit t)) c.in_ok-read_weights.ensures.answer sheet c.in_ok-read_weights.ensures.sheet
    ∙ selected g.K.Figure.ring g.K.Written.notation (g.O.BranchingOrder.picks c.args.order.now) t.variables (circuit t) work_room sheet
    c.new-holds.result.entries c.new-holds.ensures (length c.deref_mut-2.result.now) (ap length (c.deref_mut-2.ensures.value ∙ c.in_ok-work.ensures) ∙ length-replicate work_room g.K.Figure.ring.zero) c.in_ok-most.most c.in_ok-most.ensures.answer
    (length c.deref_mut-3.result.now) (c.deref_mut-3.ensures.len ∙ sym c.deref_mut-2.ensures.len ∙ ap length (c.deref_mut-2.ensures.value ∙ c.in_ok-work.ensures) ∙ length-replicate work_room g.K.Figure.ring.zero) c.in_ok-found.found c.in_ok-found.ensures.answer))

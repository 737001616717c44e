use Rattle.parts.proofs.Filling.{parts_of}
use Rattle.report.specs.Answers.{table_day}
use Rattle.report.proofs.Planning.{refused_says, says_of, plain_table, unchecked, checked_file}
use Rattle.report.proofs.day.file_day.Goals as goal

pub returns-in_err-table : goal.returns-in_err-table
returns-in_err-table g c =
    let p = c.in_ok-parts.parts in
    refused_says _ _ _ c.from_residual-in_err-table.result c.from_residual-in_err-table.ensures
    (unchecked (table_day g.K.Figure.ring g.K.Written.notation (g.O.BranchingOrder.picks c.args.order.now) c.args.sizes c.args.calls.now) c.args.file.now p
    (parts_of _ _ _ c.in_ok-read.field-0 p c.largest-room.ensures c.in_ok-parts.was c.in_ok-read.ensures)
    _ c.in_err-table.ensures.fault)

pub returns : goal.returns
returns g c =
    let p = c.in_ok-parts.parts in
    let t = c.in_ok-table.table in
    let of = c.in_ok-table.ensures.table in
    let a = parts_of _ _ _ c.in_ok-read.field-0 p c.largest-room.ensures c.in_ok-parts.was c.in_ok-read.ensures in
    says_of _ _ _ c.table_day.result (plain_table _ _ p t a of)
    (checked_file (table_day g.K.Figure.ring g.K.Written.notation (g.O.BranchingOrder.picks c.args.order.now) c.args.sizes c.args.calls.now) c.args.file.now p a t of c.weights.result.now c.weights.ensures)
    c.table_day.ensures

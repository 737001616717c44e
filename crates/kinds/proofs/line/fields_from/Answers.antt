use Rattle.std.proofs.Common.{◌<◌, length, sym, ap, ◌∙◌, arith}
use Rattle.text.specs.Lines.{fields}
use Rattle.kinds.specs.Texts.{fields_from}
use Rattle.kinds.proofs.Fields.{single, shorter, front, to_the_end, some_of_it}
use Rattle.kinds.proofs.line.fields_from.Goals as goal
use Rattle.kinds.proofs.line.fields_from.Goals.{After-behind_fields}

pub returns-then-count-eq1 : goal.returns-then-count-eq1
returns-then-count-eq1 c = c.field.ensures ∙ sym (single c.args.k (fields c.args.line.now)) ∙ ap (λ n. fields_from c.args.k n c.args.line.now) (sym c.if-count-eq1.true)

pub returns-then-field_count-count : goal.returns-then-field_count-count
returns-then-field_count-count c =
    to_the_end c.args.line.now c.behind_fields-rest.result.now c.args.k c.args.count c.behind_fields-rest.ensures.some c.behind_fields-rest.ensures.none (omega (arith, c.field_count.ensures, c.if-field_count-count.true))

more : (c : After-behind_fields) → c.args.count < length (fields c.behind_fields-rest.result.now)
more c = omega (arith, c.field_count.ensures, c.if-field_count-count.false)

pub overflow_sub-end : goal.overflow_sub-end
overflow_sub-end c = shorter c.behind_fields-rest.result.now c.behind_fields.result.now c.args.count (more c) (c.behind_fields.ensures.some (more c))

pub returns : goal.returns
returns c =
    let some = more (goal.at.returns c).After-behind_fields in
    some_of_it c.args.line.now c.behind_fields-rest.result.now c.args.k c.args.count c.behind_fields-rest.ensures.some c.behind_fields-rest.ensures.none some _ (front c.behind_fields-rest.result.now c.behind_fields.result.now c.args.count some (c.behind_fields.ensures.some some) _ c.saturating_sub.ensures)

use Rattle.std.proofs.Common.{take, sym, subst, arith}
use Rattle.text.specs.Lines.{BeginsWithLine}
use Rattle.text.proofs.Cuts.{cut_at, no_line}
use Rattle.text.proofs.fields.first_line.Goals as goal

pub returns-then-end-text : goal.returns-then-end-text
returns-then-end-text c =
    let is = c.find-end.ensures.value in
    subst (λ k. BeginsWithLine c.args.text.now (take k c.args.text.now)) (sym is) (cut_at c.args.text.now (omega (arith, is, c.if-end-text.true)))

pub returns-else-end-text : goal.returns-else-end-text
returns-else-end-text c = no_line c.args.text.now (omega (arith, c.find-end.ensures.value, c.if-end-text.false))

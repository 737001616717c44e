use Rattle.std.proofs.Common.{sym, ◌∙◌}
use Rattle.text.proofs.Decimals.{digits_none, digits_some, digits_end}
use Rattle.text.proofs.numeral.read_digits.Goals as goal

pub loop-byte-preserved : goal.loop-byte-preserved
loop-byte-preserved c =
    let step = digits_some c.args.cap c.loop-byte.value c.args.digits.now c.loop-byte.byte-index c.loop-byte-test.true _ (sym c.with_digit.ensures ∙ c.in_ok-value.was) in
    (step.0, step.1 ∙ c.loop-byte.invariant.1)

pub returns-in_err-value : goal.returns-in_err-value
returns-in_err-value c =
    c.from_residual.ensures
    ∙ digits_none c.args.cap c.loop-byte.value c.args.digits.now c.loop-byte.byte-index c.loop-byte-test.true (sym c.with_digit.ensures ∙ c.in_err-value.was)
    ∙ c.loop-byte.invariant.1

pub returns : goal.returns
returns c = digits_end c.args.cap c.loop-byte.value c.args.digits.now c.loop-byte.byte-index c.loop-byte-test.false c.loop-byte.invariant.0 ∙ c.loop-byte.invariant.1

use Rattle.std.proofs.Common.{sym, ◌∙◌, arith}
use Rattle.text.proofs.Decimals.{numeral_le}
use Rattle.text.proofs.numeral.read_number.Goals as goal

pub overflow_cast-result : goal.overflow_cast-result
overflow_cast-result c = omega (arith, numeral_le _ _ _ _ (sym c.read_numeral.ensures.value ∙ c.in_ok-value.was))

use Rattle.std.proofs.Common.{◌≡◌, ◌≤◌, drop}
use Rattle.text.specs.Numerals.{digits_upto}
use Rattle.text.proofs.numeral.read_digits.Given as goal

abbrev pub invariant-loop-byte : goal.invariant-loop-byte
invariant-loop-byte l = (l.value ≤ l.cap) × (digits_upto l.cap l.value (drop l.byte-index l.digits) ≡ digits_upto l.cap 0 l.digits)

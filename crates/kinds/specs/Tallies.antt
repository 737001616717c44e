-- The kind Tally: counts of ways.
use Rattle.std.specs.Prelude.{ℕ, ◌+◌, ◌*◌, min, decimal, nat_le}
use Rattle.std.proofs.Math.Nat.{min-le_right}
use Rattle.kinds.specs.Semiring.{Semiring}
use Rattle.kinds.specs.Texts.{Notation, number_reading}
use Rattle.kinds.specs.declared.tally.Tally.{Tally}

-- the count n, or the cap if n is above it
abbrev pub tally : ℕ → Tally
tally n = record { count = min n 18446744073709551615; fits = min-le_right _ _ }

-- counts are added and multiplied up to the cap, and rank as numbers
abbrev pub tallies : Semiring Tally
tallies = record {
  zero = tally 0;
  one = tally 1;
  sum = λ a b. tally (a.count + b.count);
  product = λ a b. tally (a.count * b.count);
  upto = λ a b. nat_le a.count b.count;
}

-- a tally's text is a number of at most 20 digits, up to the cap
abbrev pub tally_notation : Notation Tally
tally_notation = record {
  fields = 1;
  reading = number_reading tally 20 18446744073709551615;
  text = λ t. decimal t.count;
}

-- The laws of the kind Tally.
use Rattle.std.specs.Prelude.{◌≡◌, ℕ, ◌≤◌, List, Ok, decimal}
use Rattle.std.proofs.Common.{ap, ◌∙◌, mul_comm, arith, lit<}
use mathlib.Core.HLevel.{is_prop→PathP}
use Rattle.std.proofs.Math.Bridge.{le_prop}
use Rattle.std.proofs.lemmas.Bool.{leb-true, le-leb}
use Rattle.kinds.specs.Semiring.{Laws}
use Rattle.kinds.specs.Saturate.{capped_assoc, capped_distributes, capped_mono, leb_total}
use Rattle.kinds.specs.Texts.{Exact}
use Rattle.kinds.specs.TextLaws.{number_back, number_only, decimal_parted}
use Rattle.kinds.specs.Tallies.{tally, tallies, tally_notation}
use Rattle.kinds.specs.declared.tally.Tally.{Tally}

pub same_count : (a b : Tally) → a.count ≡ b.count → a ≡ b
same_count a b p = λ i. record { count = p i; fits = is_prop→PathP (λ j. p j ≤ 18446744073709551615) (λ _. le_prop) a.fits b.fits i }

pub tally_laws : Laws tallies
tally_laws = record {
  sum_assoc = λ a b c. same_count _ _ (omega arith);
  sum_comm = λ a b. same_count _ _ (omega arith);
  product_assoc = λ a b c. same_count _ _ (capped_assoc _ a.count b.count c.count);
  product_comm = λ a b. ap tally (mul_comm a.count b.count);
  distributes = λ a b c. same_count _ _ (capped_distributes _ a.count b.count c.count);
  zero_sum = λ a. same_count _ _ (omega (arith, a.fits));
  one_product = λ a. same_count _ _ (omega (arith, a.fits));
  zero_product = λ a. same_count _ _ (omega arith);
  total = λ a b. leb_total a.count b.count;
  trans = λ a b c p q. le-leb _ _ (omega (arith, leb-true _ _ p, leb-true _ _ q));
  zero_least = λ a. le-leb _ _ (omega arith);
  sum_mono = λ a b c p. le-leb _ _ (omega (arith, leb-true _ _ p));
  product_mono = λ a b c p. le-leb _ _ (capped_mono _ a.count b.count c.count (leb-true _ _ p));
}

tally_only : (s : List ℕ) (t : Tally) → tally_notation.reading s ≡ Ok t → s ≡ decimal t.count
tally_only s t e = let w = number_only tally 20 18446744073709551615 (lit< tt) s t e in w.written ∙ ap decimal (omega (arith, w.low, ap (λ (x : Tally). x.count) w.made))

pub tally_exact : Exact tally_notation
tally_exact = record {
  back = λ t. number_back tally 20 18446744073709551615 (lit< tt) t.count t.fits (lit< tt) (lit< tt) ∙ ap Ok (same_count _ _ (omega (arith, t.fits)));
  only = tally_only;
  parted = λ t. decimal_parted t.count (omega (arith, t.fits));
}

-- The greater of two peaks by their derived order.
use Rattle.std.proofs.Common.{◌≡◌, refl, arith}
use Rattle.std.specs.Ordering.{ord_max, nat_cmp, is_lt}
use Rattle.std.proofs.lemmas.Bool.{cond_both}
use Rattle.std.proofs.lemmas.Bool.Decides.{nat_tests}
use Rattle.kinds.specs.Peaks.{peak_sum}
use Rattle.kinds.specs.PeakLaws.{same_peak}
use Rattle.kinds.specs.declared.peak.Peak.{Peak}
use Rattle.kinds.specs.declared.peak.Peak.TheVariants as peak
use Rattle.kinds.specs.declared.peak.Peak.TheVariants.{Impossible}
use Rattle.kinds.specs.contracts.peak.PeakOrd.TheImpl.{cmp-value}

-- the derived order has the greater load, or any load over none
pub max_sum : (a b : Peak) → ord_max cmp-value.it a b ≡ peak_sum a b
max_sum Impossible Impossible = refl
max_sum Impossible (peak.Load b) = refl
max_sum (peak.Load a) Impossible = refl
max_sum (peak.Load a) (peak.Load b) =
    cond_both (is_lt (nat_cmp b.watts a.watts)) (peak.Load a) (peak.Load b) (λ m. m ≡ peak_sum (peak.Load a) (peak.Load b))
    (λ t. same_peak _ _ (grind (arith, nat_tests))) (λ f. same_peak _ _ (grind (arith, nat_tests)))

-- The kind Peak: the highest load of any way.
use Rattle.std.specs.Prelude.{ℕ, ◌+◌, ◌≤◌, min, max, Bool, true, false, List, Ok, codes, decimal, nat_le, if◌then◌else◌}
use Rattle.std.proofs.Common.{arith}
use Rattle.std.proofs.Math.Nat.{min-le_right}
use Rattle.std.specs.Str.{bytes_eq}
use Rattle.text.specs.Format.{Said}
use Rattle.kinds.specs.Semiring.{Semiring}
use Rattle.kinds.specs.Texts.{Notation, number_reading}
use Rattle.kinds.specs.declared.peak.Load.{Load}
use Rattle.kinds.specs.declared.peak.Peak.{Peak}
use Rattle.kinds.specs.declared.peak.Peak.TheVariants as peak
use Rattle.kinds.specs.declared.peak.Peak.TheVariants.{Impossible}

-- a load of n watts, or the cap if n is above it
abbrev pub load : ℕ → Load
load n = record { watts = min n 4294967295; fits = min-le_right _ _ }

pub max_fits : (a b : Load) → max a.watts b.watts ≤ 4294967295
max_fits a b = omega (arith, a.fits, b.fits)

-- the higher of two loads
abbrev pub higher : Load → Load → Load
higher a b = record { watts = max a.watts b.watts; fits = max_fits a b }

-- the higher load, or the one that is possible
abbrev pub peak_sum : Peak → Peak → Peak
peak_sum Impossible q = q
peak_sum p Impossible = p
peak_sum (peak.Load a) (peak.Load b) = peak.Load (higher a b)

-- both loads together, impossible if one of them is
abbrev pub peak_product : Peak → Peak → Peak
peak_product (peak.Load a) (peak.Load b) = peak.Load (load (a.watts + b.watts))
peak_product p q = Impossible

-- loads rank as numbers, and impossible ranks below them
abbrev pub peak_upto : Peak → Peak → Bool
peak_upto Impossible q = true
peak_upto p Impossible = false
peak_upto (peak.Load a) (peak.Load b) = nat_le a.watts b.watts

-- the max-plus semiring of loads up to the cap, with impossible for zero
abbrev pub peaks : Semiring Peak
peaks = record { zero = Impossible; one = peak.Load (load 0); sum = peak_sum; product = peak_product; upto = peak_upto }

-- a load's text is a number of at most 10 digits, up to the cap
abbrev pub load_reading : List ℕ → Said Peak
load_reading s = number_reading (λ n. peak.Load (load n)) 10 4294967295 s

-- a peak's text is `-`, or a load's
abbrev pub peak_reading : List ℕ → Said Peak
peak_reading s = if bytes_eq s (codes "-") then Ok Impossible else load_reading s

abbrev pub peak_text : Peak → List ℕ
peak_text Impossible = codes "-"
peak_text (peak.Load a) = decimal a.watts

abbrev pub peak_notation : Notation Peak
peak_notation = record { fields = 1; reading = peak_reading; text = peak_text }

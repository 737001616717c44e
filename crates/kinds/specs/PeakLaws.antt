-- The laws of the kind Peak.
use Rattle.std.specs.Prelude.{◌≡◌, ℕ, ◌≤◌, true, false, ◌⊎◌, List, [], ◌∷◌, length, Ok, Err, decimal, refl}
use Rattle.std.proofs.Common.{sym, ap, ◌∙◌, inl, inr, arith, lit<}
use mathlib.Core.HLevel.{is_prop→PathP}
use Rattle.std.proofs.Math.Bridge.{le_prop}
use Rattle.std.specs.Str.{bytes_eq}
use Rattle.std.proofs.lemmas.Slice.Eq.{bytes_eq-Decides}
use Rattle.std.proofs.lemmas.Bool.{cases_Bool, cond-true, cond-false, leb-true, le-leb, false≢true}
use Rattle.text.specs.declared.fault.Reason.{Reason}
use Rattle.text.specs.declared.fault.Reason.TheVariants as reason
use Rattle.text.specs.Format.{Said}
use Rattle.text.specs.Lines.{fields}
use Rattle.text.specs.Numerals.{numeral}
use Rattle.kinds.specs.Semiring.{Laws}
use Rattle.kinds.specs.Saturate.{leb_total}
use Rattle.kinds.specs.Texts.{Exact}
use Rattle.kinds.specs.TextLaws.{number_back, number_only, decimal_parted}
use Rattle.kinds.specs.Peaks.{load, peaks, peak_sum, peak_product, peak_upto, load_reading, peak_reading, peak_text, peak_notation}
use Rattle.kinds.specs.declared.peak.Load.{Load}
use Rattle.kinds.specs.declared.peak.Peak.{Peak}
use Rattle.kinds.specs.declared.peak.Peak.TheVariants as peak
use Rattle.kinds.specs.declared.peak.Peak.TheVariants.{Impossible}

pub same_watts : (a b : Load) → a.watts ≡ b.watts → a ≡ b
same_watts a b p = λ i. record { watts = p i; fits = is_prop→PathP (λ j. p j ≤ 4294967295) (λ _. le_prop) a.fits b.fits i }

pub same_peak : (a b : Load) → a.watts ≡ b.watts → ◌≡◌ {A = Peak} (peak.Load a) (peak.Load b)
same_peak a b p = ap peak.Load (same_watts a b p)

sum_assoc : (a b c : Peak) → peak_sum (peak_sum a b) c ≡ peak_sum a (peak_sum b c)
sum_assoc Impossible b c = refl
sum_assoc (peak.Load a) Impossible c = refl
sum_assoc (peak.Load a) (peak.Load b) Impossible = refl
sum_assoc (peak.Load a) (peak.Load b) (peak.Load c) = same_peak _ _ (omega arith)

sum_comm : (a b : Peak) → peak_sum a b ≡ peak_sum b a
sum_comm Impossible Impossible = refl
sum_comm Impossible (peak.Load b) = refl
sum_comm (peak.Load a) Impossible = refl
sum_comm (peak.Load a) (peak.Load b) = same_peak _ _ (omega arith)

product_assoc : (a b c : Peak) → peak_product (peak_product a b) c ≡ peak_product a (peak_product b c)
product_assoc Impossible b c = refl
product_assoc (peak.Load a) Impossible c = refl
product_assoc (peak.Load a) (peak.Load b) Impossible = refl
product_assoc (peak.Load a) (peak.Load b) (peak.Load c) = same_peak _ _ (omega arith)

product_comm : (a b : Peak) → peak_product a b ≡ peak_product b a
product_comm Impossible Impossible = refl
product_comm Impossible (peak.Load b) = refl
product_comm (peak.Load a) Impossible = refl
product_comm (peak.Load a) (peak.Load b) = same_peak _ _ (omega arith)

distributes : (a b c : Peak) → peak_product a (peak_sum b c) ≡ peak_sum (peak_product a b) (peak_product a c)
distributes Impossible b c = refl
distributes (peak.Load a) Impossible c = refl
distributes (peak.Load a) (peak.Load b) Impossible = refl
distributes (peak.Load a) (peak.Load b) (peak.Load c) = same_peak _ _ (omega arith)

one_product : (a : Peak) → peak_product (peak.Load (load 0)) a ≡ a
one_product Impossible = refl
one_product (peak.Load a) = same_peak _ _ (omega (arith, a.fits))

total : (a b : Peak) → (peak_upto a b ≡ true) ⊎ (peak_upto b a ≡ true)
total Impossible b = inl refl
total (peak.Load a) Impossible = inr refl
total (peak.Load a) (peak.Load b) = leb_total a.watts b.watts

trans : (a b c : Peak) → peak_upto a b ≡ true → peak_upto b c ≡ true → peak_upto a c ≡ true
trans Impossible b c p q = refl
trans (peak.Load a) Impossible c p q = absurd (false≢true p)
trans (peak.Load a) (peak.Load b) Impossible p q = absurd (false≢true q)
trans (peak.Load a) (peak.Load b) (peak.Load c) p q = le-leb a.watts c.watts (omega (arith, leb-true a.watts b.watts p, leb-true b.watts c.watts q))

sum_above : (b c : Peak) → peak_upto c (peak_sum b c) ≡ true
sum_above b Impossible = refl
sum_above Impossible (peak.Load c) = le-leb c.watts _ (omega arith)
sum_above (peak.Load b) (peak.Load c) = le-leb c.watts _ (omega arith)

sum_mono : (a b c : Peak) → peak_upto a b ≡ true → peak_upto (peak_sum a c) (peak_sum b c) ≡ true
sum_mono Impossible b c p = sum_above b c
sum_mono (peak.Load a) Impossible c p = absurd (false≢true p)
sum_mono (peak.Load a) (peak.Load b) Impossible p = p
sum_mono (peak.Load a) (peak.Load b) (peak.Load c) p = le-leb _ _ (omega (arith, leb-true a.watts b.watts p))

product_mono : (a b c : Peak) → peak_upto a b ≡ true → peak_upto (peak_product a c) (peak_product b c) ≡ true
product_mono Impossible b c p = refl
product_mono (peak.Load a) Impossible c p = absurd (false≢true p)
product_mono (peak.Load a) (peak.Load b) Impossible p = refl
product_mono (peak.Load a) (peak.Load b) (peak.Load c) p = le-leb _ _ (omega (arith, leb-true a.watts b.watts p))

pub peak_laws : Laws peaks
peak_laws = record {
  sum_assoc = sum_assoc;
  sum_comm = sum_comm;
  product_assoc = product_assoc;
  product_comm = product_comm;
  distributes = distributes;
  zero_sum = λ a. refl;
  one_product = one_product;
  zero_product = λ a. refl;
  total = total;
  trans = trans;
  zero_least = λ a. refl;
  sum_mono = sum_mono;
  product_mono = product_mono;
}

load_back : (a : Load) → load_reading (decimal a.watts) ≡ Ok (peak.Load a)
load_back a = number_back (λ n. peak.Load (load n)) 10 4294967295 (lit< tt) a.watts a.fits (lit< tt) (lit< tt) ∙ ap Ok (same_peak _ _ (omega (arith, a.fits)))

load_only : (s : List ℕ) (p : Peak) → load_reading s ≡ Ok p → s ≡ peak_text p
load_only s p e =
    let w = number_only (λ n. peak.Load (load n)) 10 4294967295 (lit< tt) s p e in
    w.written ∙ ap decimal (omega (arith, w.low)) ∙ ap peak_text w.made

-- `-` is no number, so no load has its text
dash_refused : load_reading (45 ∷ []) ≡ Err reason.Number
unfolding numeral
dash_refused = refl

no_dash : (a : Load) → bytes_eq (decimal a.watts) (45 ∷ []) ≡ false
no_dash a = elim (cases_Bool (bytes_eq (decimal a.watts) (45 ∷ []))) [
  | inl e ↦ absurd (refused_once _ _ (sym dash_refused ∙ ap load_reading (sym ((bytes_eq-Decides _ _).0 e)) ∙ load_back a))
  | inr e ↦ e
]
  where
    refused_once : (r : Reason) (p : Peak) → ◌≡◌ {A = Said Peak} (Err r) (Ok p) → ⊥
    refused_once r p e = cc

peak_back : (p : Peak) → peak_reading (peak_text p) ≡ Ok p
peak_back Impossible = refl
peak_back (peak.Load a) = rw (no_dash a) (load_back a)

peak_only : (s : List ℕ) (p : Peak) → peak_reading s ≡ Ok p → s ≡ peak_text p
peak_only s p e = elim (cases_Bool (bytes_eq s (45 ∷ []))) [
  | inl d ↦ (let same : Impossible ≡ p = cc (cond-true _ (Ok Impossible) (load_reading s) d) in (bytes_eq-Decides _ _).0 d ∙ ap peak_text same)
  | inr d ↦ load_only s p (sym (cond-false _ _ _ d) ∙ e)
]

peak_parted : (p : Peak) → length (fields (peak_text p)) ≡ 1
peak_parted Impossible = refl
peak_parted (peak.Load a) = decimal_parted a.watts (omega (arith, a.fits))

pub peak_exact : Exact peak_notation
peak_exact = record { back = peak_back; only = peak_only; parted = peak_parted }

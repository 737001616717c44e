-- What is written as a number is read back, and has one text, of one field.
use Rattle.std.specs.Prelude.{◌≡◌, ℕ, ◌^◌, ◌<◌, ◌≤◌, true, List, [], ◌∷◌, length, Some, None, Ok, decimal, Option, ◌==◌, refl}
use Rattle.std.proofs.Common.{ap, ◌∙◌, arith, rules, ◌+◌}
use Rattle.std.specs.List.{count_by}
use Rattle.std.specs.Str.{all_ascii_digits}
use Rattle.std.proofs.lemmas.Bool.Decides.{nat_tests}
use Rattle.std.proofs.lemmas.Fmt.{digits_decimal}
use Rattle.std.proofs.lemmas.List.Splits.{length-slice_split}
use Rattle.std.proofs.lemmas.Str.Parse.{numerals_by_fold, tells_all_ascii_digits}
use Rattle.std.specs.Option.{ok_or, option_map}
use Rattle.text.specs.declared.fault.Reason.TheVariants as reason
use Rattle.text.specs.Lines.{fields}
use Rattle.text.specs.Numerals.{numeral, value_on}
use Rattle.text.proofs.Decimals.{numeral_decimal, decimal_numeral, numeral_le}
use Rattle.kinds.specs.Texts.{number_reading}

module _ {F : Type 0} (make : ℕ → F) (most cap : ℕ) (fits : cap < 2 ^ 64) where
  pub number_back : (n : ℕ) → n ≤ cap → cap < 10 ^ most → 0 < most → number_reading make most cap (decimal n) ≡ Ok (make n)
  number_back n low short some = ap (λ o. ok_or (option_map make o) reason.Number) (numeral_decimal most cap n low (omega arith) some (omega arith))

  -- what was read as a figure is the text of a number that makes it
  pub record WritesNumber (s : List ℕ) (f : F) : Type 0 where
    pub number : ℕ
    pub low : number ≤ cap
    pub written : s ≡ decimal number
    pub made : make number ≡ f

  pub number_only : (s : List ℕ) (f : F) → number_reading make most cap s ≡ Ok f → WritesNumber s f
  number_only s f e = by_number (numeral most cap s) refl e
    where
      by_number : (o : Option ℕ) → numeral most cap s ≡ o → ok_or (option_map make o) reason.Number ≡ Ok f → WritesNumber s f
      by_number None is e = let never : ⊥ = cc in absurd never
      by_number (Some n) is e = record { number = n; low = numeral_le most cap n s is; written = decimal_numeral most cap n s fits is; made = cc }

-- no digit is a tab
digits_parted : (ds : List ℕ) → all_ascii_digits ds ≡ true → count_by (λ b. b == 9) ds ≡ 0
digits_parted [] e = refl
digits_parted (d ∷ ds) e = grind (arith, nat_tests, digits_parted ds)

decimal_digits : (n : ℕ) → n < 2 ^ 64 → all_ascii_digits (decimal n) ≡ true
decimal_digits n fits = digits_decimal (numerals_by_fold _ tells_all_ascii_digits value_on (search rules)) n fits

pub decimal_parted : (n : ℕ) → n < 2 ^ 64 → length (fields (decimal n)) ≡ 1
decimal_parted n fits = length-slice_split (λ b. b == 9) (decimal n) ∙ ap (λ k. k + 1) (digits_parted (decimal n) (decimal_digits n fits))

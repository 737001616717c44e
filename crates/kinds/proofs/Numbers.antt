-- What the reader of numbers answers, as a figure.
use Rattle.std.proofs.Common.{◌≡◌, ℕ, ◌≤◌, List, Some, None, Ok, Option, Result, ap, ◌∙◌, sym}
use Rattle.std.specs.Option.{ok_or, option_map}
use Rattle.text.specs.declared.fault.Reason.TheVariants as reason
use Rattle.text.specs.declared.fault.Reason.{Reason}
use Rattle.text.specs.Numerals.{numeral}
use Rattle.text.proofs.Decimals.{numeral_le}
use Rattle.kinds.specs.Texts.{number_reading}

some_from : (o : Option ℕ) (n : ℕ) → ◌≡◌ {A = Result ℕ Reason} (ok_or o reason.Number) (Ok n) → o ≡ Some n
some_from None n e = let never : ⊥ = cc in absurd never
some_from (Some m) n e = cc

-- the number n that is read of a text, by a reader that is passed the cap
module _ (most cap passed : ℕ) (s : List ℕ) (o : Option ℕ) (n : ℕ) (is : passed ≡ cap) (said : o ≡ numeral most passed s) (read : ◌≡◌ {A = Result ℕ Reason} (ok_or o reason.Number) (Ok n)) where
  number : numeral most cap s ≡ Some n
  number = ap (λ k. numeral most k s) (sym is) ∙ sym said ∙ some_from o n read

  pub number_low : n ≤ cap
  number_low = numeral_le most cap n s number

  pub number_made : {F : Type 0} (make : ℕ → F) → Ok (make n) ≡ number_reading make most cap s
  number_made make = sym (ap (λ x. ok_or (option_map make x) reason.Number) number)

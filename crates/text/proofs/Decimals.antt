-- Digits read one by one, and a number's text.
use Rattle.std.proofs.Common.{◌≡◌, ◌↔◌, ℕ, ◌+◌, ◌-◌, ◌*◌, ◌^◌, ◌<◌, ◌≤◌, Bool, true, false, cond, ◌&&◌, leb, List, [], ◌∷◌, length, get_or, drop, Some, None, decimal, Option, sym, refl, ap, ◌∙◌, inl, inr, arith, rules}
use Rattle.std.specs.Str.{all_ascii_digits}
use Rattle.std.proofs.lemmas.Bool.{leb-true, le-leb, and_parts, and_from, cond-true, cases_eq}
use Rattle.std.proofs.lemmas.List.{at_drop_more, at_drop_all}
use Rattle.std.proofs.lemmas.Bool.Decides.{nat_tests}
use Rattle.std.proofs.lemmas.Str.Parse.{IsNumeralModel, numerals_by_fold, tells_all_ascii_digits}
use Rattle.std.proofs.lemmas.Fmt.{decimal-digits_value, digits_value-decimal, digits_decimal, length-decimal-le, decimal_nonempty, first_decimal, decimal_digit}
use Rattle.text.specs.Numerals.{value_on, digits_upto, numeral_shaped, numeral, IsTextOf}

-- more digits write no lower number
value_on_le : (n : ℕ) (ds : List ℕ) → n ≤ value_on n ds
value_on_le n [] = omega arith
value_on_le n (d ∷ ds) = omega (arith, value_on_le (n * 10 + (d - 48)) ds)

some_if : {A : Type 0} (b : Bool) (o : Option A) (x : A) → cond b o None ≡ Some x → (b ≡ true) × (o ≡ Some x)
some_if true o x e = (refl, e)
some_if false o x e = search rules

module _ (cap n : ℕ) (xs : List ℕ) (i : ℕ) (within : i < length xs) where
  pub digits_none : digits_upto cap n (get_or xs i 0 ∷ []) ≡ None → None ≡ digits_upto cap n (drop i xs)
  digits_none e = sym (at_drop_more (digits_upto cap n) xs i 0 within ∙ none (get_or xs i 0) (drop (i + 1) xs) e)
    where
      none : (b : ℕ) (ds : List ℕ) → digits_upto cap n (b ∷ []) ≡ None → digits_upto cap n (b ∷ ds) ≡ None
      none b ds e = grind (arith, value_on_le (n * 10 + (b - 48)) ds)

  pub digits_some : (m : ℕ) → digits_upto cap n (get_or xs i 0 ∷ []) ≡ Some m → (m ≤ cap) × (digits_upto cap m (drop (i + 1) xs) ≡ digits_upto cap n (drop i xs))
  digits_some m e = let step = some (get_or xs i 0) (drop (i + 1) xs) m e in (step.0, sym (at_drop_more (digits_upto cap n) xs i 0 within ∙ step.1))
    where
      some : (b : ℕ) (ds : List ℕ) (m : ℕ) → digits_upto cap n (b ∷ []) ≡ Some m → (m ≤ cap) × (digits_upto cap n (b ∷ ds) ≡ digits_upto cap m ds)
      some b ds m e = grind arith

pub digits_end : (cap n : ℕ) (xs : List ℕ) (i : ℕ) → length xs ≤ i → n ≤ cap → Some n ≡ digits_upto cap n (drop i xs)
digits_end cap n xs i past low = sym (at_drop_all (digits_upto cap n) xs i past ∙ cond-true _ _ _ (le-leb n cap low))

pub numeral_le : (most cap n : ℕ) (ds : List ℕ) → numeral most cap ds ≡ Some n → n ≤ cap
unfolding numeral
numeral_le most cap n ds e =
    let upto = (some_if (numeral_shaped most ds) (digits_upto cap 0 ds) n e).1 in
    grind (arith, nat_tests)

numeral_short : (most cap n : ℕ) (ds : List ℕ) → numeral most cap ds ≡ Some n → length ds ≤ most
unfolding numeral
numeral_short most cap n ds e =
    let shaped = (some_if (numeral_shaped most ds) (digits_upto cap 0 ds) n e).0 in
    grind (arith, nat_tests)

numerals : IsNumeralModel (λ ds. all_ascii_digits ds ≡ true) (value_on 0)
numerals = numerals_by_fold _ tells_all_ascii_digits value_on (search rules)

-- no leading zero but in 0 itself
abbrev Plain : List ℕ → Type 0
Plain ds = get_or ds 0 0 ≡ 48 → length ds ≡ 1

shaped_from : (most : ℕ) (ds : List ℕ) → 0 < length ds → length ds ≤ most → Plain ds → numeral_shaped most ds ≡ true
shaped_from most ds some few plain = grind (arith, nat_tests)

shaped_parts : (most : ℕ) (ds : List ℕ) → numeral_shaped most ds ≡ true → (0 < length ds) × Plain ds
shaped_parts most ds e = grind (arith, nat_tests)

plain_decimal : (n : ℕ) → n < 2 ^ 64 → Plain (decimal n)
plain_decimal n fits e = elim (cases_eq n 0) [
  | inl z ↦ rw z (ap length (decimal_digit 0 (omega arith)))
  | inr h ↦ omega (arith, first_decimal n (omega arith) fits)
]

-- the text of a number is read as the number
read_decimal : (most cap n : ℕ) → n ≤ cap → length (decimal n) ≤ most → n < 2 ^ 64 → numeral most cap (decimal n) ≡ Some n
unfolding numeral
read_decimal most cap n low short fits =
    let shaped = shaped_from most (decimal n) (decimal_nonempty n fits) short (plain_decimal n fits) in
    let digits = and_from (all_ascii_digits (decimal n)) (leb (value_on 0 (decimal n)) cap) (digits_decimal numerals n fits) (le-leb (value_on 0 (decimal n)) cap (rw (digits_value-decimal numerals n fits) low)) in
    cond-true _ _ _ shaped ∙ cond-true _ _ _ digits ∙ ap Some (digits_value-decimal numerals n fits)

pub numeral_decimal : (most cap n : ℕ) → n ≤ cap → n < 10 ^ most → 0 < most → n < 2 ^ 64 → numeral most cap (decimal n) ≡ Some n
numeral_decimal most cap n low short some fits = read_decimal most cap n low (length-decimal-le most n some short fits) fits

-- and no other text is
pub decimal_numeral : (most cap n : ℕ) (ds : List ℕ) → cap < 2 ^ 64 → numeral most cap ds ≡ Some n → ds ≡ decimal n
unfolding numeral
decimal_numeral most cap n ds fits e =
    let outer = some_if (numeral_shaped most ds) (digits_upto cap 0 ds) n e in
    let inner = some_if (all_ascii_digits ds && leb (value_on 0 ds) cap) (Some (value_on 0 ds)) n outer.1 in
    let parts = and_parts (all_ascii_digits ds) (leb (value_on 0 ds) cap) inner.0 in
    let value : value_on 0 ds ≡ n = cc inner.1 in
    let shape = shaped_parts most ds outer.0 in
    sym (decimal-digits_value numerals ds parts.0 shape.0 shape.1 (omega (arith, leb-true _ _ parts.1))) ∙ ap decimal value

-- a field is read as a number exactly if it is the number's text
pub exact_from : (most cap : ℕ) (f : List ℕ) (r : Option ℕ) → cap < 2 ^ 64 → r ≡ numeral most cap f → (n : ℕ) → (r ≡ Some n) ↔ IsTextOf most cap n f
exact_from most cap f r fits is n = (
  (λ e. let told = sym is ∙ e in (decimal_numeral most cap n f fits told, numeral_short most cap n f told, numeral_le most cap n f told)),
  (λ h. let short : length (decimal n) ≤ most = omega (arith, ap length h.0, h.1) in is ∙ ap (numeral most cap) h.0 ∙ read_decimal most cap n h.2 short (omega arith)),
)

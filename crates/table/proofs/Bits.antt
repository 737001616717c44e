-- Sets as the bits of a number: what is in a set, and sets made variable by variable.
use Rattle.std.proofs.Common.{◌≡◌, ℕ, zero, suc, ◌+◌, ◌-◌, ◌*◌, ◌/◌, ◌%◌, ◌^◌, ◌<◌, ◌≤◌, min, max, Bool, true, false, cond, not, ◌&&◌, eqb, List, [], ◌∷◌, length, map, get_or, reverse, sym, refl, ap, ap₂, ◌∙◌, arith, add-zero, pow-suc, pow_mono, zero-mul, suc-mul}
use lib.Bits.{bit_and, bit_or, or_step}
use Rattle.std.specs.Int.{bit_at}
use Rattle.std.specs.Int.Bits.{or_zero_r}
use Rattle.std.specs.List.{fold}
use Rattle.std.proofs.lemmas.Bool.{ne_eqb}
use Rattle.std.proofs.lemmas.List.{reverse-append, length-map}
use Rattle.std.proofs.lemmas.List.Sums.{fold-append}
use Rattle.std.proofs.lemmas.Nat.Bits.{and_pow, bit_at_and, bit_at-zero, bit_at_lowest, bit_at-suc}
use Rattle.std.proofs.Math.Bool.{and-false}
use Rattle.std.proofs.Math.Nat.{min-zero, zero-min}
use Rattle.table.specs.Sets.{has_bit}
use Rattle.table.proofs.Packs.{half, low}

-- whether a number's bit is set
abbrev at : ℕ → ℕ → Bool
at n k = not (eqb (bit_at n k) 0)

times_pow : (p k : ℕ) → eqb (p * 2 ^ k) 0 ≡ eqb p 0
times_pow zero k = ap (λ x. eqb x 0) (zero-mul (2 ^ k))
times_pow (suc p) k = let h : 2 ^ 0 ≤ 2 ^ k = pow_mono {i = 0} {j = k} (omega arith) in ne_eqb (suc p * 2 ^ k) 0 (let m = suc-mul p (2 ^ k) in omega arith) ∙ sym (ne_eqb (suc p) 0 (omega arith))

has_bit_at : (v n : ℕ) → has_bit v n ≡ at n (v - 1)
has_bit_at v n = ap (λ x. not (eqb x 0)) (and_pow n (v - 1)) ∙ ap not (times_pow (bit_at n (v - 1)) (v - 1))

some_min : (p q : ℕ) → not (eqb (min p q) 0) ≡ (not (eqb p 0) && not (eqb q 0))
some_min zero q = ap (λ x. not (eqb x 0)) (zero-min q)
some_min (suc p) zero = ap (λ x. not (eqb x 0)) (min-zero (suc p)) ∙ sym (and-false (not (eqb (suc p) 0)))
some_min (suc p) (suc q) = ap not (ne_eqb (min (suc p) (suc q)) 0 (omega arith)) ∙ sym (ap₂ (λ a b. not a && not b) (ne_eqb (suc p) 0 (omega arith)) (ne_eqb (suc q) 0 (omega arith)))

-- a variable is in both of two sets if it is in their meet
pub has_bit_and : (v x y : ℕ) → has_bit v (bit_and x y) ≡ (has_bit v x && has_bit v y)
has_bit_and v x y =
    has_bit_at v (bit_and x y) ∙ ap (λ b. not (eqb b 0)) (bit_at_and x y (v - 1)) ∙ some_min (bit_at x (v - 1)) (bit_at y (v - 1))
    ∙ sym (ap₂ ◌&&◌ (has_bit_at v x) (has_bit_at v y))

pub has_bit_none : (v : ℕ) → has_bit v 0 ≡ false
has_bit_none v = has_bit_at v 0 ∙ ap (λ b. not (eqb b 0)) (bit_at-zero (v - 1))

-- the number whose bits these are, the lowest first
abbrev pub bits : List Bool → ℕ
bits [] = 0
bits (b ∷ bs) = bits bs * 2 + cond b 1 0

one_bit : (b : Bool) → not (eqb (cond b 1 0) 0) ≡ b
one_bit true = refl
one_bit false = refl

bits_at : (bs : List Bool) (k : ℕ) → at (bits bs) k ≡ get_or bs k false
bits_at [] k = ap (λ b. not (eqb b 0)) (bit_at-zero k)
bits_at (b ∷ bs) zero = ap (λ x. not (eqb x 0)) (bit_at_lowest (bits (b ∷ bs)) ∙ low (bits bs) b) ∙ one_bit b
bits_at (b ∷ bs) (suc k) = ap (λ x. not (eqb x 0)) (bit_at-suc (bits (b ∷ bs)) k ∙ ap (λ n. bit_at n k) (half (bits bs) b)) ∙ bits_at bs k

pub has_bit_of_bits : (bs : List Bool) (v : ℕ) → has_bit v (bits bs) ≡ get_or bs (v - 1) false
has_bit_of_bits bs v = has_bit_at v (bits bs) ∙ bits_at bs (v - 1)

bits_below : (bs : List Bool) → bits bs < 2 ^ length bs
bits_below [] = omega arith
bits_below (true ∷ bs) = let h = bits_below bs in omega (arith, pow-suc 2 (length bs))
bits_below (false ∷ bs) = let h = bits_below bs in omega (arith, pow-suc 2 (length bs))

low_bit : (n : ℕ) (b : Bool) → bit_or (n * 2) (cond b 1 0) ≡ n * 2 + cond b 1 0
low_bit n false = or_zero_r (n * 2) ∙ sym (add-zero (n * 2))
low_bit n true =
    let halved : n * 2 / 2 ≡ n = omega arith in
    let even : n * 2 % 2 ≡ 0 = omega arith in
    or_step (n * 2) 1 ∙ ap₂ (λ x y. x * 2 + y) (ap (λ x. bit_or x 0) halved ∙ or_zero_r n) (ap (λ x. max x 1) even)

module _ {A : Type 0} (p : A → Bool) where
  -- the set with one variable more in front
  abbrev pub set_step : ℕ → A → ℕ
  set_step set x = bit_or ((set * 2 ^ 1) % 2 ^ 64) (cond (p x) 1 0)

  -- the variables of a list, the last one first
  pub fold_bits : (xs : List A) → length xs ≤ 64 → fold set_step 0 (reverse xs) ≡ bits (map p xs)
  fold_bits [] h = refl
  fold_bits (x ∷ xs) h =
      let bs : List Bool = map p xs in
      let room : 2 ^ length bs ≤ 2 ^ 63 = pow_mono {i = length bs} {j = 63} (let e = length-map xs p in omega arith) in
      let fits : bits bs * 2 ^ 1 % 2 ^ 64 ≡ bits bs * 2 = let b = bits_below bs in omega arith in
      ap (fold set_step 0) (reverse-append (x ∷ []) xs) ∙ fold-append set_step 0 (reverse xs) (x ∷ [])
      ∙ ap (λ n. set_step n x) (fold_bits xs (omega arith))
      ∙ ap (λ n. bit_or n (cond (p x) 1 0)) fits ∙ low_bit (bits bs) (p x)

-- Lines by the place of the next byte 10, and how many fields a line has.
use Rattle.std.proofs.Common.{◌≡◌, ℕ, suc, ◌+◌, ◌<◌, ◌≤◌, true, false, cond, eqb, ◌⊎◌, inl, inr, List, [], ◌∷◌, length, take, drop, Option, unwrap_or, sym, refl, ap, ◌∙◌, add-one, arith}
use Rattle.std.specs.List.{AllWithin, HoldsAt}
use Rattle.std.specs.Option.{MatchOption}
use Rattle.std.proofs.lemmas.Iterator.{index_from_first}
use Rattle.std.proofs.lemmas.List.{length-take-le}
use Rattle.std.proofs.lemmas.List.Splits.{length-slice_split}
use Rattle.std.proofs.lemmas.List.Sums.{count_by-le-length}
use Rattle.std.proofs.lemmas.Bool.{cases_lt, cond-true, cond-false, eq-eqb, ne_eqb}
use Rattle.text.specs.Lines.{index_of, onto, lines, fields, BeginsWithLine}

-- A text with a byte 10 begins with a line; one without has none.
pub first_line : (xs : List ℕ) → index_of 10 xs < length xs → lines xs ≡ take (index_of 10 xs) xs ∷ lines (drop (suc (index_of 10 xs)) xs)
first_line [] h = absurd (omega arith)
first_line (x ∷ xs) h =
    elim (eqb x 10) as (λ t. cond t 0 (suc (index_of 10 xs)) < suc (length xs) → cond t ([] ∷ lines xs) (onto x (lines xs)) ≡ take (cond t 0 (suc (index_of 10 xs))) (x ∷ xs) ∷ lines (drop (suc (cond t 0 (suc (index_of 10 xs)))) (x ∷ xs))) [
      | true ↦ λ _. refl
      | false ↦ λ k. ap (onto x) (first_line xs (omega arith))
    ] h

pub no_line : (xs : List ℕ) → length xs ≤ index_of 10 xs → lines xs ≡ []
no_line [] h = refl
no_line (x ∷ xs) h =
    elim (eqb x 10) as (λ t. suc (length xs) ≤ cond t 0 (suc (index_of 10 xs)) → cond t ([] ∷ lines xs) (onto x (lines xs)) ≡ []) [
      | true ↦ λ k. absurd (omega arith)
      | false ↦ λ k. ap (onto x) (no_line xs (omega arith))
    ] h

-- r is the place of the first byte b, as `position` gives it
abbrev pub IsFirst : ℕ → List ℕ → Option ℕ → Type 0
IsFirst b xs r = MatchOption r (AllWithin (λ x. x ≡ b → ⊥) xs 0 (length xs)) (λ i. (i < length xs) × HoldsAt (λ x. x ≡ b) xs i × AllWithin (λ x. x ≡ b → ⊥) xs 0 i)

pub index_at : (b : ℕ) (xs : List ℕ) (r : Option ℕ) → IsFirst b xs r → index_of b xs ≡ unwrap_or r (length xs)
index_at b xs r h =
    index_from_first (index_of b) (λ x. x ≡ b) (λ x. x ≡ b → ⊥) refl (λ x ys e. cond-true (eqb x b) 0 _ (eq-eqb x b e))
    (λ x ys n. cond-false (eqb x b) 0 _ (ne_eqb x b n) ∙ sym (add-one (index_of b ys))) xs r h

-- a text with a byte 10 is cut at its first
pub cut_at : (xs : List ℕ) → index_of 10 xs < length xs → BeginsWithLine xs (take (index_of 10 xs) xs)
cut_at xs h =
    let long = length-take-le (index_of 10 xs) xs (omega arith) in
    let behind : suc (index_of 10 xs) ≡ length (take (index_of 10 xs) xs) + 1 = omega (arith, long) in
    record { within = omega (arith, h, long); lines_are = first_line xs h ∙ ap (λ k. take (index_of 10 xs) xs ∷ lines (drop k xs)) behind }

-- each text begins with a line or has none
pub cut : (xs : List ℕ) → BeginsWithLine xs (take (index_of 10 xs) xs) ⊎ (lines xs ≡ [])
cut xs = elim (cases_lt (index_of 10 xs) (length xs)) [
  | inl h ↦ inl (cut_at xs h)
  | inr h ↦ inr (no_line xs h)
]

-- a line has a field, and at most one more than it has bytes
pub some_field : (xs : List ℕ) → 1 ≤ length (fields xs)
some_field xs = omega (arith, length-slice_split (λ b. eqb b 9) xs)

pub few_fields : (xs : List ℕ) → length (fields xs) ≤ length xs + 1
few_fields xs = omega (arith, length-slice_split (λ b. eqb b 9) xs, count_by-le-length (λ b. eqb b 9) xs)

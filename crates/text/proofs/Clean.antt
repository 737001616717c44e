-- The first line of a text by its first byte that may not stand in a line.
use Rattle.std.proofs.Common.{◌≡◌, ℕ, zero, suc, ◌+◌, ◌<◌, ◌≤◌, true, false, ◌&&◌, eqb, inl, inr, List, [], ◌∷◌, length, get_or, take, drop, sym, refl, ap, ap₂, ◌∙◌, arith}
use Rattle.std.specs.List.{list_all}
use Rattle.std.proofs.Math.Bool.{and-false}
use Rattle.std.proofs.lemmas.Bool.{cond-true, cond-false, cases_Bool, both_ways, eqb-true}
use Rattle.std.proofs.lemmas.List.{length-take-le}
use Rattle.text.specs.Lines.{printable, onto, lines, BeginsWithPrintable, first_printable}

-- the byte that ends a line may not stand in one
no_newline : (x : ℕ) → printable x ≡ true → eqb x 10 ≡ false
no_newline x h = elim (cases_Bool (eqb x 10)) [
  | inl e ↦ absurd (both_ways (printable 10) refl (ap printable (sym (eqb-true x 10 e)) ∙ h))
  | inr n ↦ n
]

in_front : (x : ℕ) (ls : List (List ℕ)) → first_printable (onto x ls) ≡ (printable x && first_printable ls)
in_front x [] = sym (and-false (printable x))
in_front x (l ∷ ls) = refl

-- all bytes in front of place i may stand in a line
abbrev pub CleanTo : List ℕ → ℕ → Type 0
CleanTo xs i = (k : ℕ) → k < i → printable (get_or xs k 0) ≡ true

-- a text is cut at such a byte if it ends a line
line_at : (xs : List ℕ) (i : ℕ) → i < length xs → CleanTo xs i → eqb (get_or xs i 0) 10 ≡ true → lines xs ≡ take i xs ∷ lines (drop (suc i) xs)
line_at [] i h clean ends = absurd (omega arith)
line_at (x ∷ xs) zero h clean ends = cond-true (eqb x 10) _ _ ends
line_at (x ∷ xs) (suc i) h clean ends =
    cond-false (eqb x 10) _ _ (no_newline x (clean 0 (omega arith))) ∙ ap (onto x) (line_at xs i (omega arith) (λ k l. clean (suc k) (omega arith)) ends)

clean_all : (xs : List ℕ) (i : ℕ) → i ≤ length xs → CleanTo xs i → list_all printable (take i xs) ≡ true
clean_all xs zero h clean = refl
clean_all [] (suc i) h clean = absurd (omega arith)
clean_all (x ∷ xs) (suc i) h clean = ap₂ ◌&&◌ (clean 0 (omega arith)) (clean_all xs i (omega arith) (λ k l. clean (suc k) (omega arith)))

pub clean_line : (xs : List ℕ) (i : ℕ) → i < length xs → CleanTo xs i → eqb (get_or xs i 0) 10 ≡ true → BeginsWithPrintable xs (take i xs)
clean_line xs i h clean ends =
    let long = length-take-le i xs (omega arith) in
    let behind : suc i ≡ length (take i xs) + 1 = omega (arith, long) in
    (record { within = omega (arith, h, long); lines_are = line_at xs i h clean ends ∙ ap (λ k. take i xs ∷ lines (drop k xs)) behind }, clean_all xs i (omega arith) clean)

-- else the first line is not one
pub no_clean_line : (xs : List ℕ) (i : ℕ) → i < length xs → CleanTo xs i → printable (get_or xs i 0) ≡ false → eqb (get_or xs i 0) 10 ≡ false → first_printable (lines xs) ≡ false
no_clean_line [] i h clean bad more = absurd (omega arith)
no_clean_line (x ∷ xs) zero h clean bad more = ap first_printable (cond-false (eqb x 10) _ _ more) ∙ in_front x (lines xs) ∙ ap (λ b. b && first_printable (lines xs)) bad
no_clean_line (x ∷ xs) (suc i) h clean bad more =
    ap first_printable (cond-false (eqb x 10) _ _ (no_newline x (clean 0 (omega arith)))) ∙ in_front x (lines xs)
    ∙ ap₂ ◌&&◌ (clean 0 (omega arith)) (no_clean_line xs i (omega arith) (λ k l. clean (suc k) (omega arith)) bad more)

pub no_end : (xs : List ℕ) → CleanTo xs (length xs) → first_printable (lines xs) ≡ false
no_end [] clean = refl
no_end (x ∷ xs) clean =
    ap first_printable (cond-false (eqb x 10) _ _ (no_newline x (clean 0 (omega arith)))) ∙ in_front x (lines xs)
    ∙ ap₂ ◌&&◌ (clean 0 (omega arith)) (no_end xs (λ k l. clean (suc k) (omega arith)))

-- A text cut at its tabs.
use Rattle.std.proofs.Common.{◌≡◌, ℕ, zero, suc, ◌+◌, ◌-◌, ◌<◌, ◌≤◌, true, false, cond, eqb, List, [], ◌∷◌, ◌++◌, length, slice_index_or, take, drop, Some, None, Option, append_assoc, sym, refl, ap, ap₂, ◌∙◌, ◌⊎◌, inl, inr, arith}
use Rattle.std.specs.List.{join_with_byte, onto_first}
use Rattle.std.proofs.lemmas.List.Splits.{join_with_byte-slice_split}
use Rattle.std.proofs.lemmas.Bool.{cases_lt}
use Rattle.std.proofs.lemmas.List.{length-append, take-append-le, take_all, drop_all}
use Rattle.text.specs.Lines.{index_of, fields}
use Rattle.text.proofs.Cuts.{IsFirst, index_at}
use Rattle.kinds.specs.Texts.{fields_from}

-- the fields of a text, with the tabs between them, are the text
joined : (xs : List ℕ) → join_with_byte 9 (fields xs) ≡ xs
joined xs = join_with_byte-slice_split 9 xs

-- the first n parts and those behind them
joined_apart : (n : ℕ) (ps : List (List ℕ)) → 0 < n → n < length ps → join_with_byte 9 ps ≡ join_with_byte 9 (take n ps) ++ 9 ∷ join_with_byte 9 (drop n ps)
joined_apart zero ps some more = absurd (omega arith)
joined_apart (suc n) [] some more = absurd (omega arith)
joined_apart (suc n) (p ∷ []) some more = absurd (omega arith)
joined_apart (suc zero) (p ∷ q ∷ ps) some more = refl
joined_apart (suc (suc n)) (p ∷ q ∷ ps) some more =
    ap (λ x. p ++ 9 ∷ x) (joined_apart (suc n) (q ∷ ps) (omega arith) (omega arith)) ∙ sym (append_assoc p (9 ∷ join_with_byte 9 (take (suc n) (q ∷ ps))) (9 ∷ join_with_byte 9 (drop (suc n) (q ∷ ps))))

-- a text is cut at its first tab, if it has one
first_field : (xs : List ℕ) → index_of 9 xs < length xs → fields xs ≡ take (index_of 9 xs) xs ∷ fields (drop (suc (index_of 9 xs)) xs)
first_field [] h = absurd (omega arith)
first_field (x ∷ xs) h =
    elim (eqb x 9) as (λ t. cond t 0 (suc (index_of 9 xs)) < suc (length xs) → cond t ([] ∷ fields xs) (onto_first x (fields xs)) ≡ take (cond t 0 (suc (index_of 9 xs))) (x ∷ xs) ∷ fields (drop (suc (cond t 0 (suc (index_of 9 xs)))) (x ∷ xs))) [
      | true ↦ λ _. refl
      | false ↦ λ k. ap (onto_first x) (first_field xs (omega arith))
    ] h

one_field : (xs : List ℕ) → length xs ≤ index_of 9 xs → fields xs ≡ xs ∷ []
one_field [] h = refl
one_field (x ∷ xs) h =
    elim (eqb x 9) as (λ t. suc (length xs) ≤ cond t 0 (suc (index_of 9 xs)) → cond t ([] ∷ fields xs) (onto_first x (fields xs)) ≡ (x ∷ xs) ∷ []) [
      | true ↦ λ k. absurd (omega arith)
      | false ↦ λ k. ap (onto_first x) (one_field xs (omega arith))
    ] h

module _ (xs : List ℕ) (r : Option ℕ) (h : IsFirst 9 xs r) where
  pub no_tab : r ≡ None → fields xs ≡ xs ∷ []
  no_tab e = one_field xs (omega (arith, index_at 9 xs None (rw e at h)))

  pub tab_at : (i : ℕ) → r ≡ Some i → fields xs ≡ take i xs ∷ fields (drop (i + 1) xs)
  tab_at i e =
      let first : IsFirst 9 xs (Some i) = rw e at h in
      let is = index_at 9 xs (Some i) first in
      let behind : suc (index_of 9 xs) ≡ i + 1 = omega (arith, is) in
      first_field xs (omega (arith, is, first.0)) ∙ ap₂ (λ n k. take n xs ∷ fields (drop k xs)) is behind

-- one field, with no tab, is the field
pub single : (k : ℕ) (ps : List (List ℕ)) → join_with_byte 9 (take 1 (drop k ps)) ≡ slice_index_or ps k []
single zero [] = refl
single zero (p ∷ ps) = refl
single (suc k) [] = refl
single (suc k) (p ∷ ps) = single k ps

-- what stands behind n fields, of which the first is f, stands behind n - 1 of the others
pub dropped_more : (n : ℕ) (f : List ℕ) (fs gs left : List (List ℕ)) → 0 < n → fs ≡ f ∷ gs → (n - 1 < length gs → left ≡ drop (n - 1) gs) → n < length fs → left ≡ drop n fs
dropped_more zero f fs gs left some is h more = absurd (omega arith)
dropped_more (suc m) f fs gs left some is h more =
    let one : suc m - 1 ≡ m = omega arith in
    h (omega (arith, ap length is)) ∙ ap (λ k. drop k gs) one ∙ sym (ap (drop (suc m)) is)

-- The text ys, behind the first n fields of xs.
module _ (xs ys : List ℕ) (n : ℕ) (more : n < length (fields xs)) (behind : fields ys ≡ drop n (fields xs)) where
  back : ys ≡ join_with_byte 9 (drop n (fields xs))
  back = sym (joined ys) ∙ ap (join_with_byte 9) behind

  parts : ((n ≡ 0) × (xs ≡ ys)) ⊎ (xs ≡ join_with_byte 9 (take n (fields xs)) ++ 9 ∷ ys)
  parts = elim (cases_lt 0 n) [
    | inl some ↦ inr (sym (joined xs) ∙ joined_apart n (fields xs) some more ∙ ap (λ b. join_with_byte 9 (take n (fields xs)) ++ 9 ∷ b) (sym back))
    | inr none ↦ (let z : n ≡ 0 = omega arith in inl (z, sym (joined xs) ∙ sym (back ∙ ap (λ k. join_with_byte 9 (drop k (fields xs))) z)))
  ]

  pub shorter : length ys ≤ length xs
  shorter = elim parts [
    | inl e ↦ omega (arith, ap length e.1)
    | inr e ↦ omega (arith, ap length e, length-append (join_with_byte 9 (take n (fields xs))) (9 ∷ ys))
  ]

  pub front : (end : ℕ) → end ≡ length xs - length ys - 1 → take end xs ≡ join_with_byte 9 (take n (fields xs))
  front end is = elim parts [
    | inl e ↦ (let z : end ≡ 0 = omega (arith, ap length e.1) in ap (λ k. take k xs) z ∙ sym (ap (λ k. join_with_byte 9 (take k (fields xs))) e.0))
    | inr e ↦ (let long : end ≡ length (join_with_byte 9 (take n (fields xs))) = omega (arith, ap length e, length-append (join_with_byte 9 (take n (fields xs))) (9 ∷ ys)) in
        ap (take end) e ∙ ap (λ k. take k (join_with_byte 9 (take n (fields xs)) ++ 9 ∷ ys)) long ∙ take-append-le _ (join_with_byte 9 (take n (fields xs))) (9 ∷ ys) (omega arith) ∙ take_all _ (join_with_byte 9 (take n (fields xs))) (omega arith))
  ]

-- From field k of a line on; behind the last field there is nothing.
module _ (l rest : List ℕ) (k n : ℕ) (some : k < length (fields l) → fields rest ≡ drop k (fields l)) (none : length (fields l) ≤ k → rest ≡ []) where
  pub to_the_end : length (fields rest) ≤ n → rest ≡ fields_from k n l
  to_the_end few = elim (cases_lt k (length (fields l))) [
    | inl h ↦ sym (joined rest) ∙ ap (join_with_byte 9) (some h ∙ sym (take_all n _ (omega (arith, few, ap length (some h)))))
    | inr h ↦ none h ∙ sym (ap (join_with_byte 9) (take_all n [] (omega arith))) ∙ ap (λ ps. join_with_byte 9 (take n ps)) (sym (drop_all k (fields l) h))
  ]

  pub some_of_it : n < length (fields rest) → (front : List ℕ) → front ≡ join_with_byte 9 (take n (fields rest)) → front ≡ fields_from k n l
  some_of_it more front is = elim (cases_lt k (length (fields l))) [
    | inl h ↦ is ∙ ap (λ ps. join_with_byte 9 (take n ps)) (some h)
    | inr h ↦ (let one = ap (λ xs. length (fields xs)) (none h) in
        let z : n ≡ 0 = omega (arith, more, one) in
        is ∙ ap (λ k. join_with_byte 9 (take k (fields rest))) z ∙ sym (ap (λ m. fields_from k m l) z))
  ]

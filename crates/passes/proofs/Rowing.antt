-- Parts as they lie in the work table, and a row that is written two places at a time.
use Rattle.std.proofs.Common.{◌≡◌, ℕ, zero, suc, ◌+◌, ◌*◌, ◌<◌, Bool, true, false, cond, List, [], ◌∷◌, ◌++◌, length, get_or, None, Option, take, drop, set, sym, refl, ap, ◌∙◌, ap₂, append_assoc, not-suc-le-zero, suc-mul, zero-mul, arith}
use Rattle.std.proofs.lemmas.List.{length-append, length-set, take_more_set, length-take-le, take_more, get_or-append-add, get_or_append_left, append-nil}
use Rattle.kinds.specs.Semiring.{Semiring}
use Rattle.table.specs.Sound.{Roles, options}
use Rattle.passes.specs.Passes.{Part, no_part, sides, work}
use Rattle.passes.specs.Rows.{side_place, sides_by, lowered, least_in_row}
use Rattle.passes.proofs.Lowest.{least_push}

module _ {F : Type 0} (s : Bool → ℕ → ℕ → F) where
  pub sides_by_length : (j : ℕ) (vs : List ℕ) → length (sides_by s j vs) ≡ 2 * length vs
  sides_by_length j [] = refl
  sides_by_length j (v ∷ vs) = let e = sides_by_length (j + 1) vs in omega arith

  sides_by_push : (j k : ℕ) (vs : List ℕ) (v : ℕ) → j + length vs ≡ k
      → sides_by s j (vs ++ (v ∷ [])) ≡ sides_by s j vs ++ (s true v (side_place k true) ∷ s false v (side_place k false) ∷ [])
  sides_by_push j k [] v e = let q : j ≡ k = omega arith in ap (λ n. s true v (side_place n true) ∷ s false v (side_place n false) ∷ []) q
  sides_by_push j k (u ∷ vs) v e =
      ap (λ r. s true u (side_place j true) ∷ s false u (side_place j false) ∷ r) (sides_by_push (j + 1) k vs v (omega arith))

-- one more option's two places of a row, which stands behind the first place of a part
module _ {F : Type 0} (s : Bool → ℕ → ℕ → F) (vs : List ℕ) (j : ℕ) (l : j < length vs) where
  pub row_more : (part : List F) (a b : F) → length part ≡ 2 * length vs + 1 → take (2 * j) (drop 1 part) ≡ sides_by s 0 (take j vs)
      → a ≡ s true (get_or vs j 0) (side_place j true) → b ≡ s false (get_or vs j 0) (side_place j false)
      → take (2 * (j + 1)) (drop 1 (set (set part (2 * j + 1) a) (2 * j + 2) b)) ≡ sides_by s 0 (take (j + 1) vs)
  row_more [] a b long done one two = absurd (let z : 0 ≡ 2 * length vs + 1 = long in omega arith)
  row_more (x ∷ xs) a b long done one two =
      let v : ℕ = get_or vs j 0 in
      let m : 2 * j + 1 ≡ suc (2 * j) = omega arith in
      let n : 2 * j + 2 ≡ suc (2 * j + 1) = omega arith in
      let k : 2 * (j + 1) ≡ 2 * j + 1 + 1 = omega arith in
      ap₂ (λ y z. take (2 * (j + 1)) (drop 1 (set (set (x ∷ xs) y a) z b))) m n
      ∙ ap (λ y. take y (set (set xs (2 * j) a) (2 * j + 1) b)) k
      ∙ take_more_set (set xs (2 * j) a) (2 * j + 1) b (let e = length-set xs (2 * j) a in omega arith)
      ∙ ap (λ r. r ++ (b ∷ [])) (take_more_set xs (2 * j) a (omega arith))
      ∙ append_assoc (take (2 * j) xs) (a ∷ []) (b ∷ [])
      ∙ ap (λ r. r ++ (a ∷ b ∷ [])) done
      ∙ ap₂ (λ y z. sides_by s 0 (take j vs) ++ (y ∷ z ∷ [])) one two
      ∙ sym (sides_by_push s 0 j (take j vs) v (let q = length-take-le j vs (omega arith) in omega arith))
      ∙ ap (sides_by s 0) (sym (take_more vs j 0 l))

-- what is kept while the options' places are written: the row and the least so far
module _ {F : Type 0} (R : Semiring F) (s : Bool → ℕ → ℕ → F) (p : ℕ → Bool) (vs : List ℕ) where
  pub record Rowed (part : List F) (least : Option F) (j : ℕ) : Type 0 where
    pub row : take (2 * j) (drop 1 part) ≡ sides_by s 0 (take j vs)
    pub least_is : least ≡ least_in_row R p (sides_by s 0 (take j vs)) None (take j vs)

  pub rowed_more : (part : List F) (least next : Option F) (j : ℕ) (a b : F) → j < length vs → length part ≡ 2 * length vs + 1 → Rowed part least j
      → a ≡ s true (get_or vs j 0) (side_place j true) → b ≡ s false (get_or vs j 0) (2 * j + 1 + 1) → next ≡ lowered R least (p (get_or vs j 0)) a b
      → Rowed (set (set part (2 * j + 1) a) (2 * j + 1 + 1) b) next (j + 1)
  rowed_more part least next j a b l long kept one two e =
      let v : ℕ = get_or vs j 0 in
      let behind : 2 * j + 1 + 1 ≡ side_place j false = omega arith in
      let off : b ≡ s false v (side_place j false) = two ∙ ap (s false v) behind in
      let count : 0 + length (take j vs) ≡ j = let q = length-take-le j vs (omega arith) in omega arith in
      record {
        row = ap (λ n. take (2 * (j + 1)) (drop 1 (set (set part (2 * j + 1) a) n b))) behind ∙ row_more s vs j l part a b long kept.row one off;
        least_is =
            e ∙ ap₂ (λ best x. lowered R best (p v) x b) kept.least_is one ∙ ap (lowered R (least_in_row R p (sides_by s 0 (take j vs)) None (take j vs)) (p v) (s true v (side_place j true))) off
            ∙ sym (least_push R p s 0 (take j vs) v (s true v (side_place j true)) (s false v (side_place j false)) None)
            ∙ ap (λ row. least_in_row R p row None (take j vs ++ (v ∷ []))) (sym (sides_by_push s 0 j (take j vs) v count))
            ∙ ap (λ us. least_in_row R p (sides_by s 0 us) None us) (sym (take_more vs j 0 l));
      }

module _ {F : Type 0} (R : Semiring F) (rs : Roles) where
  sides_length : (p : Part F) (vs : List ℕ) → length (sides p vs) ≡ 2 * length vs
  sides_length p [] = refl
  sides_length p (v ∷ vs) = let e = sides_length p vs in omega arith

  pub sides_there : (p : Part F) (vs : List ℕ) (j : ℕ) (b : Bool) (z : F) → j < length vs → get_or (sides p vs) (2 * j + cond b 0 1) z ≡ p.side b (get_or vs j 0)
  sides_there p [] j b z h = absurd (not-suc-le-zero h)
  sides_there p (v ∷ vs) zero true z h = refl
  sides_there p (v ∷ vs) zero false z h = refl
  sides_there p (v ∷ vs) (suc j) b z h =
      let e : 2 * suc j + cond b 0 1 ≡ suc (suc (2 * j + cond b 0 1)) = omega arith in
      ap (λ n. get_or (sides p (v ∷ vs)) n z) e ∙ sides_there p vs j b z (omega arith)

  abbrev pub laid : Part F → List F
  laid p = p.value ∷ sides p (options rs)

  module _ (stride : ℕ) (wide : stride ≡ 2 * length (options rs) + 1) where
    pub laid_length : (p : Part F) → length (laid p) ≡ stride
    laid_length p = let e = sides_length p (options rs) in omega arith

    pub work_length : (ps : List (Part F)) → length (work rs ps) ≡ length ps * stride
    work_length [] = sym (zero-mul stride)
    work_length (p ∷ ps) = let a = length-append (laid p) (work rs ps) in let b = laid_length p in let c = work_length ps in let d = suc-mul (length ps) stride in omega arith

    next : (c : ℕ) (p : Part F) (k : ℕ) → suc c * stride + k ≡ length (laid p) + (c * stride + k)
    next c p k = let a = suc-mul c stride in let b = laid_length p in omega arith

    pub value_there : (ps : List (Part F)) (c : ℕ) → get_or (work rs ps) (c * stride) R.zero ≡ (get_or ps c (no_part R)).value
    value_there [] c = refl
    value_there (p ∷ ps) zero = ap (λ n. get_or (laid p ++ work rs ps) n R.zero) (zero-mul stride)
    value_there (p ∷ ps) (suc c) =
        let e : suc c * stride ≡ length (laid p) + c * stride = let a = suc-mul c stride in let b = laid_length p in omega arith in
        ap (λ n. get_or (laid p ++ work rs ps) n R.zero) e ∙ get_or-append-add (laid p) (work rs ps) (c * stride) R.zero ∙ value_there ps c

    pub side_there : (ps : List (Part F)) (c j : ℕ) (b : Bool) → j < length (options rs) → get_or (work rs ps) (c * stride + side_place j b) R.zero ≡ (get_or ps c (no_part R)).side b (get_or (options rs) j 0)
    side_there [] c j b h = refl
    side_there (p ∷ ps) zero j b h =
        let e : zero * stride + side_place j b ≡ suc (2 * j + cond b 0 1) = let z = zero-mul stride in first b z in
        ap (λ n. get_or (laid p ++ work rs ps) n R.zero) e
        ∙ get_or_append_left (laid p) (work rs ps) R.zero (suc (2 * j + cond b 0 1)) (let q = sides_length p (options rs) in short b)
        ∙ sides_there p (options rs) j b R.zero h
      where
        first : (b : Bool) → zero * stride ≡ 0 → zero * stride + side_place j b ≡ suc (2 * j + cond b 0 1)
        first true z = omega arith
        first false z = omega arith

        short : (b : Bool) → suc (2 * j + cond b 0 1) < length (laid p)
        short true = let q = sides_length p (options rs) in omega arith
        short false = let q = sides_length p (options rs) in omega arith
    side_there (p ∷ ps) (suc c) j b h =
        ap (λ n. get_or (laid p ++ work rs ps) n R.zero) (next c p (side_place j b))
        ∙ get_or-append-add (laid p) (work rs ps) (c * stride + side_place j b) R.zero ∙ side_there ps c j b h

  pub work_push : (ps : List (Part F)) (p : Part F) → work rs (ps ++ (p ∷ [])) ≡ work rs ps ++ (p.value ∷ sides p (options rs))
  work_push [] p = append-nil (laid p)
  work_push (q ∷ ps) p = ap (λ r. laid q ++ r) (work_push ps p) ∙ sym (append_assoc (laid q) (work rs ps) (laid p))

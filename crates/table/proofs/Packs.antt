-- Sets of variables as bits of a number.
use Rattle.std.specs.List.{list_all, range_with_len}
use Rattle.std.proofs.Common.{◌≡◌, ℕ, zero, suc, ◌+◌, ◌-◌, ◌*◌, ◌/◌, ◌%◌, ◌^◌, ◌<◌, ◌≤◌, min, max, Bool, true, false, cond, not, ◌&&◌, ◌||◌, eqb, ltb, ◌⊎◌, List, [], ◌∷◌, map, get_or, sym, refl, ap, ◌∙◌, ap₂, inl, inr, pow-suc, arith}
use mathlib.Core.Path.{fun_ext}
use Rattle.std.proofs.Math.Bool.{and-true, and-false, not-not}
use Rattle.std.proofs.Math.ListN.{get_or-map as get_or-mapped}
use lib.Bits.{bit_and, bit_or, and_step, or_step}
use Rattle.std.proofs.lemmas.Bool.{and_parts, ltb-true, eq-eqb, ne_eqb, cases_order, cases_eq}
use Rattle.table.specs.Circuit.{Vars, none, same, about, Shape}
use Rattle.table.specs.Sound.{disjoint, apart, is_below}
use Rattle.table.specs.Sets.{packed, mask, has_bit}
use Rattle.table.specs.NodeSets.{nothing, apart_masks}
use Rattle.table.specs.declared.sets.NodeSets.{NodeSets}

pub half : (p : ℕ) (b : Bool) → (p * 2 + cond b 1 0) / 2 ≡ p
half p true = omega arith
half p false = omega arith

pub low : (p : ℕ) (b : Bool) → (p * 2 + cond b 1 0) % 2 ≡ cond b 1 0
low p true = omega arith
low p false = omega arith

min_bit : (a b : Bool) → min (cond a 1 0) (cond b 1 0) ≡ cond (a && b) 1 0
min_bit true true = refl
min_bit true false = refl
min_bit false true = refl
min_bit false false = refl

max_bit : (a b : Bool) → max (cond a 1 0) (cond b 1 0) ≡ cond (a || b) 1 0
max_bit true true = refl
max_bit true false = refl
max_bit false true = refl
max_bit false false = refl

-- one bit more
pub and_bit : (p q : ℕ) (a b : Bool) → bit_and (p * 2 + cond a 1 0) (q * 2 + cond b 1 0) ≡ bit_and p q * 2 + cond (a && b) 1 0
and_bit p q a b =
    and_step (p * 2 + cond a 1 0) (q * 2 + cond b 1 0)
    ∙ ap₂ (λ x y. x * 2 + y) (ap₂ bit_and (half p a) (half q b)) (ap₂ min (low p a) (low q b) ∙ min_bit a b)

or_bit : (p q : ℕ) (a b : Bool) → bit_or (p * 2 + cond a 1 0) (q * 2 + cond b 1 0) ≡ bit_or p q * 2 + cond (a || b) 1 0
or_bit p q a b =
    or_step (p * 2 + cond a 1 0) (q * 2 + cond b 1 0)
    ∙ ap₂ (λ x y. x * 2 + y) (ap₂ bit_or (half p a) (half q b)) (ap₂ max (low p a) (low q b) ∙ max_bit a b)

eqb_double : (p q : ℕ) → eqb (p * 2) (q * 2) ≡ eqb p q
eqb_double p q = by (cases_eq p q)
  where
    by : (p ≡ q) ⊎ (p ≡ q → ⊥) → eqb (p * 2) (q * 2) ≡ eqb p q
    by (inl e) = eq-eqb _ _ (ap (λ x. x * 2) e) ∙ sym (eq-eqb p q e)
    by (inr n) = ne_eqb _ _ (λ e. n (omega arith)) ∙ sym (ne_eqb p q n)

pub same_bit : (p q : ℕ) (a b : Bool) → eqb (p * 2 + cond a 1 0) (q * 2 + cond b 1 0) ≡ (same a b && eqb p q)
same_bit p q true true = eqb_odd (cases_eq p q)
  where
    eqb_odd : (p ≡ q) ⊎ (p ≡ q → ⊥) → eqb (p * 2 + 1) (q * 2 + 1) ≡ eqb p q
    eqb_odd (inl e) = eq-eqb _ _ (ap (λ x. x * 2 + 1) e) ∙ sym (eq-eqb p q e)
    eqb_odd (inr n) = ne_eqb _ _ (λ e. n (omega arith)) ∙ sym (ne_eqb p q n)
same_bit p q true false = ne_eqb _ _ (omega arith)
same_bit p q false true = ne_eqb _ _ (omega arith)
same_bit p q false false = ap₂ eqb (let z : p * 2 + 0 ≡ p * 2 = omega arith in z) (let z : q * 2 + 0 ≡ q * 2 = omega arith in z) ∙ eqb_double p q

-- the sets of the variables i to i + k - 1
packed_and : (i k : ℕ) (a b : Vars) → bit_and (packed i a k) (packed i b k) ≡ packed i (λ v. a v && b v) k
unfolding packed
packed_and i zero a b = refl
packed_and i (suc k) a b = and_bit _ _ (a i) (b i) ∙ ap (λ x. x * 2 + cond (a i && b i) 1 0) (packed_and (i + 1) k a b)

pub packed_or : (i k : ℕ) (a b : Vars) → bit_or (packed i a k) (packed i b k) ≡ packed i (λ v. a v || b v) k
unfolding packed
packed_or i zero a b = refl
packed_or i (suc k) a b = or_bit _ _ (a i) (b i) ∙ ap (λ x. x * 2 + cond (a i || b i) 1 0) (packed_or (i + 1) k a b)

none_bit : (p : ℕ) (b : Bool) → eqb (p * 2 + cond b 1 0) 0 ≡ (not b && eqb p 0)
none_bit p true = ne_eqb _ _ (omega arith)
none_bit zero false = refl
none_bit (suc p) false = ne_eqb (suc p * 2 + 0) 0 (omega arith) ∙ sym (ne_eqb (suc p) 0 (omega arith))

packed_none : (i k : ℕ) (m : Vars) → eqb (packed i m k) 0 ≡ list_all (λ v. not (m v)) (range_with_len i k)
unfolding packed
packed_none i zero m = refl
packed_none i (suc k) m = none_bit _ (m i) ∙ ap (λ x. not (m i) && x) (packed_none (i + 1) k m)

mask_apart : (n : ℕ) (a b : Vars) → eqb (bit_and (mask n a) (mask n b)) 0 ≡ disjoint (range_with_len 1 n) a b
mask_apart n a b = ap (λ x. eqb x 0) (packed_and 1 n a b) ∙ packed_none 1 n (λ v. a v && b v)

pub mask_none : (n : ℕ) → mask n none ≡ 0
unfolding packed
mask_none n = go 1 n
  where
    go : (i k : ℕ) → packed i none k ≡ 0
    go i zero = refl
    go i (suc k) = ap (λ x. x * 2 + 0) (go (i + 1) k)

-- one variable's set
packed_past : (i k v : ℕ) → v < i → packed i (λ x. eqb x v) k ≡ 0
unfolding packed
packed_past i zero v l = refl
packed_past i (suc k) v l =
    ap₂ (λ a b. a * 2 + cond b 1 0) (packed_past (i + 1) k v (omega arith)) (ne_eqb i v (omega arith))

pub packed_one : (i k v : ℕ) → i ≤ v → v < i + k → packed i (λ x. eqb x v) k ≡ 2 ^ (v - i)
unfolding packed
packed_one i zero v l m = absurd (far l m)
  where
    far : i ≤ v → v < i + 0 → ⊥
    far a b = omega arith
packed_one i (suc k) v l m = by (cases_order i v) (λ g. packed_one (i + 1) k v (let q : i + 1 ≤ v = omega arith in q) (let q : v < i + 1 + k = omega arith in q))
  where
    far : v < i → i ≤ v → ⊥
    far a b = omega arith

    by : (i ≡ v) ⊎ ((i < v) ⊎ (v < i)) → (i < v → packed (i + 1) (λ x. eqb x v) k ≡ 2 ^ (v - (i + 1))) → packed (i + 1) (λ x. eqb x v) k * 2 + cond (eqb i v) 1 0 ≡ 2 ^ (v - i)
    by (inl e) more =
        ap₂ (λ a b. a * 2 + cond b 1 0) (packed_past (i + 1) k v (omega arith)) (eq-eqb i v e)
        ∙ ap (λ n. 2 ^ n) (let z : 0 ≡ v - i = omega arith in z)
    by (inr (inl g)) more =
        let down : v - i ≡ suc (v - (i + 1)) = omega arith in
        let up : 2 ^ (v - i) ≡ 2 ^ (v - (i + 1)) * 2 = ap (λ n. 2 ^ n) down ∙ pow-suc 2 (v - (i + 1)) in
        ap₂ (λ a b. a * 2 + cond b 1 0) (more g) (ne_eqb i v (omega arith)) ∙ omega arith
    by (inr (inr g)) more = absurd (far g l)

-- whether a variable is in a set
past_only : (i k v : ℕ) (m : Vars) → v < i → list_all (λ x. not (m x && eqb x v)) (range_with_len i k) ≡ true
past_only i zero v m l = refl
past_only i (suc k) v m l = ap₂ ◌&&◌ (ap (λ b. not (m i && b)) (ne_eqb i v (omega arith)) ∙ ap not (and-false (m i))) (past_only (i + 1) k v m (omega arith))

only : (i k v : ℕ) (m : Vars) → i ≤ v → v < i + k → list_all (λ x. not (m x && eqb x v)) (range_with_len i k) ≡ not (m v)
only i zero v m l h = absurd (far l h)
  where
    far : i ≤ v → v < i + 0 → ⊥
    far a b = omega arith
only i (suc k) v m l h = by (cases_order i v) (λ g. only (i + 1) k v m (let q : i + 1 ≤ v = omega arith in q) (let q : v < i + 1 + k = omega arith in q))
  where
    far : v < i → i ≤ v → ⊥
    far a b = omega arith

    by : (i ≡ v) ⊎ ((i < v) ⊎ (v < i)) → (i < v → list_all (λ x. not (m x && eqb x v)) (range_with_len (i + 1) k) ≡ not (m v)) → (not (m i && eqb i v) && list_all (λ x. not (m x && eqb x v)) (range_with_len (i + 1) k)) ≡ not (m v)
    by (inl e) more =
        ap₂ ◌&&◌ (ap (λ b. not (m i && b)) (eq-eqb i v e) ∙ ap not (and-true (m i)) ∙ ap (λ x. not (m x)) e) (past_only (i + 1) k v m (omega arith))
        ∙ and-true (not (m v))
    by (inr (inl g)) more =
        ap₂ ◌&&◌ (ap (λ b. not (m i && b)) (ne_eqb i v (omega arith)) ∙ ap not (and-false (m i))) (more g)
    by (inr (inr g)) more = absurd (far g l)

pub has_bit_is : (n v : ℕ) (m : Vars) → 1 ≤ v → v ≤ n → has_bit v (mask n m) ≡ m v
has_bit_is n v m l h =
    ap (λ x. not (eqb (bit_and (mask n m) x) 0)) (sym (packed_one 1 n v l (omega arith)))
    ∙ ap (λ x. not (eqb x 0)) (packed_and 1 n m (λ x. eqb x v))
    ∙ ap not (packed_none 1 n (λ x. m x && eqb x v) ∙ only 1 n v m l (omega arith))
    ∙ not-not (m v)

-- no two of several sets meet
and_swap : (a b c d : Bool) → (a && ((b && c) && d)) ≡ ((a && b) && (c && d))
and_swap true true c d = refl
and_swap true false c d = refl
and_swap false b c d = refl

and_join : (a b c d : Bool) → ((a && b) && (c && d)) ≡ ((a && c) && (b && d))
and_join true true true d = refl
and_join true true false d = refl
and_join true false true d = refl
and_join true false false d = refl
and_join false b c d = refl

every_and : {A : Type 0} (p q : A → Bool) (xs : List A) → list_all (λ x. p x && q x) xs ≡ (list_all p xs && list_all q xs)
every_and p q [] = refl
every_and p q (x ∷ xs) = ap (λ b. (p x && q x) && b) (every_and p q xs) ∙ and_join (p x) (q x) (list_all p xs) (list_all q xs)

not_or : (a b c : Bool) → not ((a || b) && c) ≡ (not (a && c) && not (b && c))
not_or true true true = refl
not_or true true false = refl
not_or true false true = refl
not_or true false false = refl
not_or false true true = refl
not_or false true false = refl
not_or false false true = refl
not_or false false false = refl

disjoint_or : (vs : List ℕ) (a b c : Vars) → disjoint vs (λ v. a v || b v) c ≡ (disjoint vs a c && disjoint vs b c)
disjoint_or vs a b c =
    ap (λ f. list_all f vs) (fun_ext (λ v. not_or (a v) (b v) (c v))) ∙ every_and (λ v. not (a v && c v)) (λ v. not (b v && c v)) vs

pub getD_mask : (n : ℕ) (ms : List Vars) (c : ℕ) → get_or (map (mask n) ms) c 0 ≡ mask n (get_or ms c none)
getD_mask n ms c = ap (get_or (map (mask n) ms) c) (sym (mask_none n)) ∙ get_or-mapped (mask n) ms c none

every_true : {A : Type 0} (p : A → Bool) (xs : List A) → ((x : A) → p x ≡ true) → list_all p xs ≡ true
every_true p [] h = refl
every_true p (x ∷ xs) h = ap₂ ◌&&◌ (h x) (every_true p xs h)

-- several nodes, of which the sets `before` are known
module _ (n i : ℕ) (ss : List Shape) (before : List NodeSets) (read : (c : ℕ) → c < i → (get_or before c nothing).mentions ≡ mask n (about ss c)) where
  apart_seen : (seen : Vars) (cs : List ℕ) → list_all (is_below i) cs ≡ true
      → apart_masks (mask n seen) before cs ≡ (list_all (λ d. disjoint (range_with_len 1 n) seen (about ss d)) cs && apart (range_with_len 1 n) ss cs)
  apart_seen seen [] e = refl
  apart_seen seen (c ∷ cs) e =
      let vs : List ℕ = range_with_len 1 n in
      let mc : Vars = about ss c in
      let parts = and_parts (ltb c i) (list_all (is_below i) cs) e in
      ap (λ x. eqb (bit_and (mask n seen) x) 0 && apart_masks (bit_or (mask n seen) x) before cs) (read c (ltb-true c i parts.0))
      ∙ ap₂ ◌&&◌ (mask_apart n seen mc) (ap (λ y. apart_masks y before cs) (packed_or 1 n seen mc) ∙ apart_seen (λ v. seen v || mc v) cs parts.1)
      ∙ ap (λ f. disjoint vs seen mc && (list_all f cs && apart vs ss cs)) (fun_ext (λ d. disjoint_or vs seen mc (about ss d)))
      ∙ ap (λ b. disjoint vs seen mc && (b && apart vs ss cs)) (every_and (λ d. disjoint vs seen (about ss d)) (λ d. disjoint vs mc (about ss d)) cs)
      ∙ and_swap (disjoint vs seen mc) _ _ (apart vs ss cs)

  pub apart_is : (cs : List ℕ) → list_all (is_below i) cs ≡ true → apart_masks 0 before cs ≡ apart (range_with_len 1 n) ss cs
  apart_is cs e =
      ap (λ y. apart_masks y before cs) (sym (mask_none n)) ∙ apart_seen none cs e
      ∙ ap (λ b. b && apart (range_with_len 1 n) ss cs) (every_true (λ d. disjoint (range_with_len 1 n) none (about ss d)) cs (λ d. every_true (λ v. not (none v && about ss d v)) (range_with_len 1 n) (λ v. refl)))

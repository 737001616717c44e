-- The set of the chances.
use Rattle.std.proofs.Common.{◌≡◌, ℕ, ◌+◌, ◌*◌, List, map, reverse, ◌≤◌, Bool, true, false, cond, not, ◌&&◌, eqb, [], ◌∷◌, length, refl, ap, ◌∙◌, ap₂, arith}
use lib.Bits.{bit_and}
use Rattle.std.proofs.Math.Bool.{and-true}
use Rattle.std.specs.List.{fold, list_all}
use Rattle.std.proofs.lemmas.List.{length-map, length-take}
use Rattle.text.specs.declared.record.Variable.{Variable}
use Rattle.text.specs.declared.record.Variables.{Variables}
use Rattle.text.specs.Format.{is_option_role, listed}
use Rattle.table.specs.Circuit.{Vars, same}
use Rattle.table.specs.Sound.{Roles, from, alike}
use Rattle.table.specs.Nodes.{roles_of}
use Rattle.table.specs.Sets.{packed, chance_mask}
use Rattle.table.proofs.Bits.{bits, set_step, fold_bits}
use Rattle.table.proofs.Packs.{and_bit, same_bit}

pub roles_length : (vs : Variables) → length (roles_of vs) ≡ length (listed vs)
roles_length vs = length-map (listed vs) (λ v. is_option_role v.role)

pub roles_few : (vs : Variables) → length (roles_of vs) ≤ 64
roles_few vs = let e = roles_length vs in let f = vs.fits in let t : length (listed vs) ≤ vs.count = simp length-take (omega arith) in omega arith

-- whether a variable is a chance
abbrev pub is_chance : Variable → Bool
is_chance v = not (is_option_role v.role)

other_bit : (b : Bool) → ◌≡◌ {A = ℕ} (cond (not b) 1 0) (cond b 0 1)
other_bit true = refl
other_bit false = refl

chance_bits : (vs : List Variable) → bits (map is_chance vs) ≡ chance_mask (map (λ v. is_option_role v.role) vs)
unfolding chance_mask
chance_bits [] = refl
chance_bits (v ∷ vs) = ap₂ (λ n k. n * 2 + k) (chance_bits vs) (other_bit (is_option_role v.role))

-- the chances of a list, the last variable first
pub fold_chances : (vs : List Variable) → length vs ≤ 64 → fold (set_step is_chance) 0 (reverse vs) ≡ chance_mask (map (λ v. is_option_role v.role) vs)
fold_chances vs few = fold_bits is_chance vs few ∙ chance_bits vs

same_off : (a b : Bool) → same (a && false) (b && false) ≡ true
same_off true true = refl
same_off true false = refl
same_off false true = refl
same_off false false = refl

-- the branches of a fork mention the same chances
pub even_is : (i : ℕ) (rs : Roles) (a b : Vars)
    → eqb (bit_and (packed i a (length rs)) (chance_mask rs)) (bit_and (packed i b (length rs)) (chance_mask rs)) ≡ alike (from i false rs) a b
unfolding packed chance_mask
even_is i [] a b = refl
even_is i (true ∷ rs) a b =
    let p = packed (i + 1) a (length rs) in
    let q = packed (i + 1) b (length rs) in
    let k = chance_mask rs in
    ap₂ eqb (and_bit p k (a i) false) (and_bit q k (b i) false) ∙ same_bit (bit_and p k) (bit_and q k) (a i && false) (b i && false)
    ∙ ap₂ ◌&&◌ (same_off (a i) (b i)) (even_is (i + 1) rs a b)
even_is i (false ∷ rs) a b =
    let p = packed (i + 1) a (length rs) in
    let q = packed (i + 1) b (length rs) in
    let k = chance_mask rs in
    ap₂ eqb (and_bit p k (a i) true) (and_bit q k (b i) true) ∙ same_bit (bit_and p k) (bit_and q k) (a i && true) (b i && true)
    ∙ ap₂ ◌&&◌ (ap₂ same (and-true (a i)) (and-true (b i))) (even_is (i + 1) rs a b)

all_off : (a : Bool) → same (a && false) false ≡ true
all_off true = refl
all_off false = refl

all_on : (a : Bool) → same (a && true) true ≡ a
all_on true = refl
all_on false = refl

-- the root mentions every chance
pub total_is : (i : ℕ) (rs : Roles) (m : Vars) → eqb (bit_and (packed i m (length rs)) (chance_mask rs)) (chance_mask rs) ≡ list_all m (from i false rs)
unfolding packed chance_mask
total_is i [] m = refl
total_is i (true ∷ rs) m =
    let p = packed (i + 1) m (length rs) in
    let k = chance_mask rs in
    ap (λ x. eqb x (k * 2 + 0)) (and_bit p k (m i) false) ∙ same_bit (bit_and p k) k (m i && false) false
    ∙ ap₂ ◌&&◌ (all_off (m i)) (total_is (i + 1) rs m)
total_is i (false ∷ rs) m =
    let p = packed (i + 1) m (length rs) in
    let k = chance_mask rs in
    ap (λ x. eqb x (k * 2 + 1)) (and_bit p k (m i) true) ∙ same_bit (bit_and p k) k (m i && true) true
    ∙ ap₂ ◌&&◌ (all_on (m i)) (total_is (i + 1) rs m)

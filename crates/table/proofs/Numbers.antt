-- Which numbers the options and the chances of a table have.
use Rattle.std.specs.List.{AllByRecursion}
use Rattle.std.proofs.Common.{◌≡◌, ℕ, zero, suc, ◌+◌, ◌-◌, ◌<◌, Bool, true, false, eqb, List, [], ◌∷◌, length, get_or, sym, refl, ◌∙◌, inl, inr, ⊎_elim, not-suc-le-zero, arith}
use Rattle.std.proofs.lemmas.List.{get_or_past}
use Rattle.std.proofs.lemmas.Bool.{both_ways, ne_eqb, cases_lt}
use Rattle.table.specs.Sound.{Roles, is_option, from, chances}
use Rattle.table.specs.Facts.{Among, Known}
use Rattle.table.proofs.Listed.{all_among}

-- variable v, of the role b, has a place in the roles rs that begin with variable i
abbrev Placed : ℕ → Bool → Roles → ℕ → Type 0
Placed i b rs v = (k : ℕ) × (k < length rs) × (v ≡ i + k) × (get_or rs k false ≡ b)

after_one : (i : ℕ) (b r : Bool) (rs : Roles) (v : ℕ) → Placed (i + 1) b rs v → Placed i b (r ∷ rs) v
after_one i b r rs v p = (suc p.0, omega arith, omega arith, p.3)

placed : (i : ℕ) (b : Bool) (rs : Roles) (v : ℕ) → Among v (from i b rs) → Placed i b rs v
placed i true [] v m = absurd m
placed i false [] v m = absurd m
placed i true (true ∷ rs) v (inl e) = (0, omega arith, omega arith, refl)
placed i true (true ∷ rs) v (inr m) = after_one i true true rs v (placed (i + 1) true rs v m)
placed i true (false ∷ rs) v m = after_one i true false rs v (placed (i + 1) true rs v m)
placed i false (true ∷ rs) v m = after_one i false true rs v (placed (i + 1) false rs v m)
placed i false (false ∷ rs) v (inl e) = (0, omega arith, omega arith, refl)
placed i false (false ∷ rs) v (inr m) = after_one i false false rs v (placed (i + 1) false rs v m)

here : (i : ℕ) (b r : Bool) (rs : Roles) → r ≡ b → Among (i + 0) (from i b (r ∷ rs))
here i true true rs e = inl (omega arith)
here i true false rs e = absurd (both_ways false refl e)
here i false true rs e = absurd (both_ways true e refl)
here i false false rs e = inl (omega arith)

more : (i : ℕ) (b r : Bool) (rs : Roles) (v : ℕ) → Among v (from (i + 1) b rs) → Among v (from i b (r ∷ rs))
more i true true rs v m = inr m
more i true false rs v m = m
more i false true rs v m = m
more i false false rs v m = inr m

listed : (i : ℕ) (b : Bool) (rs : Roles) (k : ℕ) → k < length rs → get_or rs k false ≡ b → Among (i + k) (from i b rs)
listed i b [] k h e = absurd (not-suc-le-zero h)
listed i b (r ∷ rs) zero h e = here i b r rs e
listed i b (r ∷ rs) (suc k) h e =
    let same : i + 1 + k ≡ i + suc k = omega arith in
    more i b r rs (i + suc k) (rw same at (listed (i + 1) b rs k (omega arith) e))

role_none : (rs : Roles) → is_option rs 0 ≡ false
role_none [] = refl
role_none (r ∷ rs) = role_none rs

-- variable k + 1 has the role at place k
pub role_at : (rs : Roles) (k : ℕ) → is_option rs (suc k) ≡ get_or rs k false
role_at [] k = refl
role_at (r ∷ rs) zero = refl
role_at (r ∷ rs) (suc k) =
    let down : suc (suc k) - 1 ≡ suc k = omega arith in rw (ne_eqb (suc (suc k)) 1 (λ e. omega arith), down) (role_at rs k)

-- the options are the variables with that role, and so are the chances
pub listed_role : (rs : Roles) (b : Bool) (v : ℕ) → Among v (from 1 b rs) → Known rs v × (is_option rs v ≡ b)
listed_role rs b v m =
    let p = placed 1 b rs v m in
    let same : v ≡ suc p.0 = omega arith in
    ((omega arith, omega arith), rw same (role_at rs p.0 ∙ p.3))

pub role_listed : (rs : Roles) (b : Bool) (v : ℕ) → Known rs v → is_option rs v ≡ b → Among v (from 1 b rs)
role_listed rs b zero h e = absurd (not-suc-le-zero h.0)
role_listed rs b (suc k) h e =
    let same : 1 + k ≡ suc k = omega arith in rw same at (listed 1 b rs k h.1 (sym (role_at rs k) ∙ e))

pub option_known : (rs : Roles) (v : ℕ) → is_option rs v ≡ true → Known rs v
option_known rs zero e = absurd (both_ways (is_option rs 0) (role_none rs) e)
option_known rs (suc k) e =
    (omega arith, ⊎_elim (λ h. h) (λ past. absurd (both_ways _ (role_at rs k ∙ get_or_past rs k false past) e)) (cases_lt k (length rs)))

-- no number stands in vs twice
abbrev pub Distinct : List ℕ → Type 0
Distinct [] = Unit {0}
Distinct (v ∷ vs) = AllByRecursion (λ x. eqb v x ≡ false) vs × Distinct vs

later : (i : ℕ) (b : Bool) (rs : Roles) → AllByRecursion (λ x. eqb i x ≡ false) (from (i + 1) b rs)
later i b rs = all_among _ (from (i + 1) b rs) (λ v m. let p = placed (i + 1) b rs v m in ne_eqb i v (omega arith))

from_distinct : (rs : Roles) (i : ℕ) (b : Bool) → Distinct (from i b rs)
from_distinct [] i true = tt
from_distinct [] i false = tt
from_distinct (true ∷ rs) i true = (later i true rs, from_distinct rs (i + 1) true)
from_distinct (false ∷ rs) i true = from_distinct rs (i + 1) true
from_distinct (true ∷ rs) i false = from_distinct rs (i + 1) false
from_distinct (false ∷ rs) i false = (later i false rs, from_distinct rs (i + 1) false)

pub chances_distinct : (rs : Roles) → Distinct (chances rs)
chances_distinct rs = from_distinct rs 1 false

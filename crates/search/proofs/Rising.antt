-- Lists of rising numbers.
use Rattle.std.specs.Prelude.{◌≡◌, ℕ, ◌+◌, ◌<◌, Bool, true, false, List, [], ◌∷◌, map, nat_lt, refl}
use Rattle.std.specs.List.{list_all, filter}
use Rattle.std.proofs.Common.{arith}
use Rattle.std.proofs.lemmas.List.{map-id}
use Rattle.std.proofs.lemmas.Bool.{and_from, and_parts, cond_both, lt-ltb, ltb-true}
use Rattle.table.specs.Facts.{Among}
use Rattle.table.specs.Sound.{Roles, from, options}
use Rattle.table.proofs.Listed.{every_at}
use Rattle.passes.specs.Holding.{Entries, entry, is_free, free}
use Rattle.search.specs.Orders.{rising}

-- the first of rising numbers is below the others
pub first_below : (x : ℕ) (xs : List ℕ) → rising (x ∷ xs) ≡ true → (v : ℕ) → Among v xs → x < v
first_below x xs r v m = ltb-true x v (every_at (nat_lt x) xs (and_parts _ _ r).0 v m)

module _ {A : Type 0} (f : A → ℕ) (p : A → Bool) where
  every_filter : (q : ℕ → Bool) (xs : List A) → list_all q (map f xs) ≡ true → list_all q (map f (filter p xs)) ≡ true
  every_filter q [] e = refl
  every_filter q (x ∷ xs) e =
      let parts = and_parts (q (f x)) (list_all q (map f xs)) e in
      let rest : list_all q (map f (filter p xs)) ≡ true = every_filter q xs parts.1 in
      cond_both (p x) (x ∷ filter p xs) (filter p xs) (λ ys. list_all q (map f ys) ≡ true) (λ _. and_from _ _ parts.0 rest) (λ _. rest)

  pub rising_filter : (xs : List A) → rising (map f xs) ≡ true → rising (map f (filter p xs)) ≡ true
  rising_filter [] e = refl
  rising_filter (x ∷ xs) e =
      let parts = and_parts (list_all (nat_lt (f x)) (map f xs)) (rising (map f xs)) e in
      let rest : rising (map f (filter p xs)) ≡ true = rising_filter xs parts.1 in
      cond_both (p x) (x ∷ filter p xs) (filter p xs) (λ ys. rising (map f ys) ≡ true)
      (λ _. and_from _ _ (every_filter (nat_lt (f x)) xs parts.0) rest)
      (λ _. rest)

from_above : (j i : ℕ) → j < i → (rs : Roles) → list_all (nat_lt j) (from i true rs) ≡ true
from_above j i h [] = refl
from_above j i h (true ∷ rs) = and_from _ _ (lt-ltb j i h) (from_above j (i + 1) (omega arith) rs)
from_above j i h (false ∷ rs) = from_above j (i + 1) (omega arith) rs

from_rising : (i : ℕ) (rs : Roles) → rising (from i true rs) ≡ true
from_rising i [] = refl
from_rising i (true ∷ rs) = and_from _ _ (from_above i (i + 1) (omega arith) rs) (from_rising (i + 1) rs)
from_rising i (false ∷ rs) = from_rising (i + 1) rs

-- the free options are listed by rising number
pub free_rising : (rs : Roles) (h : Entries) → rising (free rs h) ≡ true
free_rising rs h =
    let all : rising (map (λ v. v) (options rs)) ≡ true = rw (map-id (options rs)) (from_rising 1 rs) in
    rw (map-id (free rs h)) at (rising_filter (λ v. v) (λ v. is_free (entry h v)) (options rs) all)

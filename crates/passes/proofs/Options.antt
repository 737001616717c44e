-- The options, one variable after the other.
use Rattle.std.proofs.Common.{Bool, cond, ◌≡◌, ℕ, zero, suc, ◌+◌, ◌<◌, ◌≤◌, true, false, List, [], ◌∷◌, ◌++◌, length, get_or, take, drop, set, sym, refl, ap, ◌∙◌, inl, inr, append_assoc, not-suc-le-zero, arith}
use Rattle.std.proofs.lemmas.Bool.{cond-true, cond-false}
use Rattle.std.proofs.lemmas.List.{at_drop_more, at_drop_all, take_more_set, append-nil}
use Rattle.table.specs.Facts.{Among, Known}
use Rattle.table.specs.Sound.{Roles, is_option, from, options}
use Rattle.table.proofs.Numbers.{listed_role}

-- the numbers of the options, from the variable with index i on
abbrev pub rest_from : Roles → ℕ → List ℕ
rest_from rs i = from (i + 1) true (drop i rs)

from_next : (v : ℕ) (r : Bool) (rs : Roles) → from v true (r ∷ rs) ≡ cond r (v ∷ from (v + 1) true rs) (from (v + 1) true rs)
from_next v true rs = refl
from_next v false rs = refl

module _ (rs : Roles) (out : List ℕ) (n i : ℕ) where
  rest_next : i < length rs → rest_from rs i ≡ cond (get_or rs i false) ((i + 1) ∷ rest_from rs (i + 1)) (rest_from rs (i + 1))
  rest_next h = at_drop_more (from (i + 1) true) rs i false h ∙ from_next (i + 1) (get_or rs i false) (drop (i + 1) rs)

  pub list_option : i < length rs → get_or rs i false ≡ true → n < length out → (whole : List ℕ) → take n out ++ rest_from rs i ≡ whole
      → take (n + 1) (set out n (i + 1)) ++ rest_from rs (i + 1) ≡ whole
  list_option h t room whole inv =
      ap (λ d. d ++ rest_from rs (i + 1)) (take_more_set out n (i + 1) room) ∙ append_assoc (take n out) ((i + 1) ∷ []) (rest_from rs (i + 1))
      ∙ sym (ap (λ vs. take n out ++ vs) (rest_next h ∙ cond-true _ _ _ t)) ∙ inv

  pub list_chance : i < length rs → get_or rs i false ≡ false → (whole : List ℕ) → take n out ++ rest_from rs i ≡ whole → take n out ++ rest_from rs (i + 1) ≡ whole
  list_chance h t whole inv = sym (ap (λ vs. take n out ++ vs) (rest_next h ∙ cond-false _ _ _ t)) ∙ inv

  pub all_listed : length rs ≤ i → (whole : List ℕ) → take n out ++ rest_from rs i ≡ whole → take n out ≡ whole
  all_listed l whole inv =
      sym (append-nil (take n out)) ∙ sym (ap (λ vs. take n out ++ vs) (at_drop_all (from (i + 1) true) rs i l)) ∙ inv

among_there : (vs : List ℕ) (j : ℕ) → j < length vs → Among (get_or vs j 0) vs
among_there [] j h = absurd (not-suc-le-zero h)
among_there (v ∷ vs) zero h = inl refl
among_there (v ∷ vs) (suc j) h = inr (among_there vs j (omega arith))

-- each option is one
pub option_there : (rs : Roles) (j : ℕ) → j < length (options rs) → Known rs (get_or (options rs) j 0) × (is_option rs (get_or (options rs) j 0) ≡ true)
option_there rs j h = listed_role rs true (get_or (options rs) j 0) (among_there (options rs) j h)

-- Names and variables: two records with the same parts are equal, and a list is found again in its record.
use Rattle.std.proofs.Common.{◌≡◌, ℕ, ◌<◌, ◌≤◌, min, List, [], ◌∷◌, ◌++◌, length, take, drop, set, replicate, ◌∙◌, arith, rules}
use mathlib.Core.HLevel.{is_prop→PathP}
use native.Mathlib.Bridge.{le_prop}
use Rattle.std.proofs.lemmas.List.{places, same_lists, take-take, take_at, get_or-set_same}
use Rattle.std.proofs.lemmas.Bool.{cases_eq}
use Rattle.text.specs.declared.record.Name.{Name}
use Rattle.text.specs.declared.record.Variable.{Variable}
use Rattle.text.specs.declared.record.Variables.{Variables}
use Rattle.text.specs.Format.{name_of, spelled, variables_of, listed, blank}

-- the fact that a length fits has one proof, so the other parts decide
pub same_name : (a b : Name) → a.bytes ≡ b.bytes → a.length ≡ b.length → a ≡ b
same_name a b p q = λ i. record { bytes = p i; length = q i; fits = is_prop→PathP (λ j. q j ≤ 24) (λ _. le_prop) a.fits b.fits i }

pub same_variables : (a b : Variables) → a.all ≡ b.all → a.count ≡ b.count → a ≡ b
same_variables a b p q = λ i. record { all = p i; count = q i; fits = is_prop→PathP (λ j. q j ≤ 64) (λ _. le_prop) a.fits b.fits i }

-- the first n places of a list with fillers behind it hold the list, if it is no longer
filled : {A : Type 0} (n : ℕ) (d : A) (xs : List A) → length xs ≤ n → take (min (length xs) n) (take n (xs ++ replicate n d)) ≡ xs
filled n d xs h =
    let m : length xs ≡ min (length xs) n = omega arith in
    take-take (min (length xs) n) n (xs ++ replicate n d) (omega arith) ∙ take_at xs (replicate n d) (min (length xs) n) m

pub spelled_name_of : (f : List ℕ) → length f ≤ 24 → spelled (name_of f) ≡ f
spelled_name_of f h = filled 24 0 f h

pub listed_variables_of : (vs : List Variable) → length vs ≤ 64 → listed (variables_of vs) ≡ vs
listed_variables_of vs h = filled 64 blank vs h

-- the front of a list, written over the first fillers
pub written : {A : Type 0} (n : ℕ) (d : A) (xs : List A) → take (min (length xs) n) xs ++ drop (min (length xs) n) (replicate n d) ≡ take n (xs ++ replicate n d)
written n d xs = same_lists _ _ (search (rules, places)) (λ k e h. grind (arith, places))

-- one element more, written over the first filler
pub written_more : {A : Type 0} (n : ℕ) (d : A) (xs : List A) (y : A) → length xs < n → set (take n (xs ++ replicate n d)) (min (length xs) n) y ≡ take n ((xs ++ y ∷ []) ++ replicate n d)
written_more n d xs y h =
    same_lists _ _ (search (rules, places)) (λ k e l. grind (arith, places, get_or-set_same, cases_eq k (length xs)))

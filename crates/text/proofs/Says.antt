-- The three fields behind the first, and how many variables are options.
use Rattle.std.proofs.Common.{◌≡◌, ℕ, ◌≤◌, List, [], ◌∷◌, length, get_or, drop, refl, arith}
use Rattle.std.proofs.lemmas.List.Sums.{length-filter, count_by-le-length}
use Rattle.text.specs.declared.record.Variable.{Variable}
use Rattle.text.specs.Format.{is_option_role, option_count}

pub four : (fs : List (List ℕ)) → length fs ≡ 4 → drop 1 fs ≡ get_or fs 1 [] ∷ get_or fs 2 [] ∷ get_or fs 3 [] ∷ []
four (f ∷ a ∷ b ∷ c ∷ []) h = refl
four fs h = absurd (omega arith)

-- there are no more options than variables
pub options_within : (vs : List Variable) → option_count vs ≤ length vs
options_within vs = omega (arith, length-filter (λ v. is_option_role v.role) vs, count_by-le-length (λ v. is_option_role v.role) vs)

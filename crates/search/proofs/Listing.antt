-- The options, and the free ones among them, one after the other.
use Rattle.std.proofs.Common.{◌≡◌, ℕ, suc, ◌+◌, ◌<◌, ◌≤◌, Bool, true, false, cond, List, [], ◌∷◌, ◌++◌, length, get_or, take, drop, sym, refl, ap, ◌∙◌, ap₂, append_assoc, add-zero, arith}
use Rattle.std.specs.List.{filter, range_with_len}
use Rattle.std.proofs.lemmas.List.{at_drop_more, at_drop_all, append-nil}
use Rattle.std.proofs.lemmas.Bool.{cond-false, ne_eqb}
use Rattle.table.specs.Circuit.{Vars}
use Rattle.table.specs.Sound.{Roles, is_option, from, options}
use Rattle.table.proofs.Numbers.{role_at}
use Rattle.passes.specs.Holding.{Entries, entry, is_free}
use Rattle.passes.specs.Marks.{entry_at}
use Rattle.passes.specs.declared.holds.Entry.TheVariants.{Free}
use Rattle.search.specs.declared.choice.Choice.{Choice}
use Rattle.search.specs.Listing.{choice_of, choices_from}

-- a variable's entry, read by its number
pub entry_read : (h : Entries) (v : ℕ) → 0 < v → entry_at h v ≡ entry h v
entry_read h v some = cond-false _ Free (entry h v) (ne_eqb v 0 (λ e. omega arith))

-- the options among the variables from i on, whose roles are rs
option_filter : (all : Roles) (i : ℕ) (rs : Roles) → ((k : ℕ) → is_option all (i + k) ≡ get_or rs k false) → filter (is_option all) (range_with_len i (length rs)) ≡ from i true rs
option_filter all i [] e = refl
option_filter all i (r ∷ rs) e =
    let here : is_option all i ≡ r = ap (is_option all) (sym (add-zero i)) ∙ e 0 in
    let rest = option_filter all (i + 1) rs (λ k. ap (is_option all) (let z : i + 1 + k ≡ i + suc k = omega arith in z) ∙ e (suc k)) in
    ap₂ (λ o vs. cond o (i ∷ vs) vs) here rest ∙ by r
  where
    by : (r : Bool) → cond r (i ∷ from (i + 1) true rs) (from (i + 1) true rs) ≡ from i true (r ∷ rs)
    by true = refl
    by false = refl

pub options_filtered : (rs : Roles) → filter (is_option rs) (range_with_len 1 (length rs)) ≡ options rs
options_filtered rs = option_filter rs 1 rs (λ k. ap (is_option rs) (let z : 1 + k ≡ suc k = omega arith in z) ∙ role_at rs k)

pub options_few : (rs : Roles) → length (options rs) ≤ length rs
options_few rs = few 1 rs
  where
    few : (i : ℕ) (rs : Roles) → length (from i true rs) ≤ length rs
    few i [] = omega arith
    few i (true ∷ rs) = let e : length (from (i + 1) true rs) ≤ length rs = few (i + 1) rs in omega arith
    few i (false ∷ rs) = let e : length (from (i + 1) true rs) ≤ length rs = few (i + 1) rs in omega arith

module _ (m : Vars) (h : Entries) (os : List ℕ) where
  -- what a loop over the options os keeps: n choices are listed of the first j
  pub record Listing (out : List Choice) (n j : ℕ) : Type 0 where
    pub listed : take n out ++ choices_from m h j (drop j os) ≡ choices_from m h 0 os
    pub fewer : n ≤ j

  one_choice : (j v : ℕ) (vs : List ℕ) → choices_from m h j (v ∷ vs) ≡ choices_from m h j (v ∷ []) ++ choices_from m h (j + 1) vs
  one_choice j v vs = by (is_free (entry h v))
    where
      by : (b : Bool) → cond b (choice_of m j v ∷ choices_from m h (j + 1) vs) (choices_from m h (j + 1) vs)
          ≡ cond b (choice_of m j v ∷ []) [] ++ choices_from m h (j + 1) vs
      by true = refl
      by false = refl

  module _ (out : List Choice) (n j : ℕ) (inv : Listing out n j) where
    pub one_listed : (out' : List Choice) (n' v : ℕ) → j < length os → v ≡ get_or os j v
        → take n' out' ≡ take n out ++ choices_from m h j (v ∷ []) → n' ≤ n + 1 → Listing out' n' (j + 1)
    one_listed out' n' v l e is less =
        let rest : List ℕ = drop (j + 1) os in
        let a : n ≤ j = inv.fewer in
        record {
          listed = ap (λ xs. xs ++ choices_from m h (j + 1) rest) is
              ∙ append_assoc (take n out) (choices_from m h j (v ∷ [])) (choices_from m h (j + 1) rest)
              ∙ ap (λ xs. take n out ++ xs) (sym (one_choice j v rest) ∙ ap (λ x. choices_from m h j (x ∷ rest)) e ∙ sym (at_drop_more (choices_from m h j) os j v l))
              ∙ inv.listed;
          fewer = omega arith;
        }

    pub all_listed : length os ≤ j → take n out ≡ choices_from m h 0 os
    all_listed l =
        sym (append-nil (take n out)) ∙ sym (ap (λ xs. take n out ++ xs) (at_drop_all (choices_from m h j) os j l)) ∙ inv.listed

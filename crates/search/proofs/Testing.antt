-- What a test answers, and tests of all variables at once.
use Rattle.std.proofs.Common.{◌≡◌, ℕ, suc, ◌+◌, ◌-◌, ◌<◌, Bool, true, false, ◌&&◌, ◌||◌, [], ◌∷◌, length, get_or, Ok, Err, Result, sym, refl, ap, ◌∙◌, ap₂, add-zero, zero-add, arith}
use Rattle.std.specs.List.{list_any, range_with_len, enumerate_from}
use Rattle.table.specs.Sound.{Roles, is_option, from, options}
use Rattle.table.proofs.Numbers.{role_at}
use Rattle.passes.specs.Holding.{Entries, entry, is_free}
use Rattle.passes.specs.Marks.{entry_at}
use Rattle.passes.specs.declared.holds.Entry.{Entry}
use Rattle.passes.specs.declared.holds.Entry.TheVariants.{Free}
use Rattle.search.specs.declared.fault.Fault.{Fault}
use Rattle.search.specs.Study.{passed}
use Rattle.search.proofs.Listing.{entry_read}

-- a single test that refuses, and one that does not
pub refuses : (t : Bool × Fault) (r : Result (Unit {0}) Fault) (f : Fault) → r ≡ passed t → r ≡ Err f → (t.0 ≡ true) × (t.1 ≡ f)
refuses t r f is e = by t.0 (sym is ∙ e)
  where
    by : (b : Bool) → passed (b, t.1) ≡ Err f → (b ≡ true) × (t.1 ≡ f)
    by true e = (refl, cc)
    by false e = absurd (let z : ◌≡◌ {A = ℕ} 0 1 = cc in omega arith)

pub passes : (t : Bool × Fault) (r : Result (Unit {0}) Fault) → r ≡ passed t → r ≡ Ok (tt {0}) → t.0 ≡ false
passes t r is e = by t.0 (sym is ∙ e)
  where
    by : (b : Bool) → passed (b, t.1) ≡ Ok (tt {0}) → b ≡ false
    by true e = absurd (let z : ◌≡◌ {A = ℕ} 0 1 = cc in omega arith)
    by false e = refl

-- a test of the entries xs, which are those of h behind the first i
any_entry : (q : ℕ → Entry → Bool) (h : Entries) (i : ℕ) (xs : Entries) → ((k : ℕ) → get_or xs k Free ≡ get_or h (i + k) Free)
    → list_any (λ p. q (p.0 + 1) p.1) (enumerate_from i xs) ≡ list_any (λ v. q v (entry h v)) (range_with_len (i + 1) (length xs))
any_entry q h i [] e = refl
any_entry q h i (x ∷ xs) e =
    let at : i + 0 ≡ i + 1 - 1 = omega arith in
    ap₂ (λ a b. a || b) (ap (q (i + 1)) (e 0 ∙ ap (λ k. get_or h k Free) at))
    (any_entry q h (i + 1) xs (λ k. e (suc k) ∙ ap (λ n. get_or h n Free) (let z : i + suc k ≡ i + 1 + k = omega arith in z)))

pub any_variable : (q : ℕ → Entry → Bool) (h : Entries)
    → list_any (λ p. q (p.0 + 1) p.1) (enumerate_from 0 h) ≡ list_any (λ v. q v (entry h v)) (range_with_len 1 (length h))
any_variable q h = any_entry q h 0 h (λ k. ap (λ n. get_or h n Free) (sym (zero-add k)))

-- a test of the options among the variables from i on, whose roles are rs
any_option : (all : Roles) (h : Entries) (i : ℕ) (rs : Roles) → 0 < i → ((k : ℕ) → is_option all (i + k) ≡ get_or rs k false)
    → list_any (λ v. is_option all v && is_free (entry_at h v)) (range_with_len i (length rs)) ≡ list_any (λ v. is_free (entry h v)) (from i true rs)
any_option all h i [] low e = refl
any_option all h i (r ∷ rs) low e =
    let here : is_option all i ≡ r = ap (is_option all) (sym (add-zero i)) ∙ e 0 in
    let rest = any_option all h (i + 1) rs (omega arith) (λ k. ap (is_option all) (let z : i + 1 + k ≡ i + suc k = omega arith in z) ∙ e (suc k)) in
    ap₂ (λ o b. (o && is_free (entry_at h i)) || b) here rest ∙ by r
  where
    by : (r : Bool) → ((r && is_free (entry_at h i)) || list_any (λ v. is_free (entry h v)) (from (i + 1) true rs)) ≡ list_any (λ v. is_free (entry h v)) (from i true (r ∷ rs))
    by true = ap (λ e. is_free e || list_any (λ v. is_free (entry h v)) (from (i + 1) true rs)) (entry_read h i low)
    by false = refl

pub any_free : (rs : Roles) (h : Entries)
    → list_any (λ v. is_option rs v && is_free (entry_at h v)) (range_with_len 1 (length rs)) ≡ list_any (λ v. is_free (entry h v)) (options rs)
any_free rs h = any_option rs h 1 rs (omega arith) (λ k. ap (is_option rs) (let z : 1 + k ≡ suc k = omega arith in z) ∙ role_at rs k)

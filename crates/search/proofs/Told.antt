-- What an order is told of the free options.
use Rattle.std.specs.List.{list_all, filter}
use Rattle.std.proofs.Common.{◌≡◌, ℕ, suc, ◌+◌, ◌*◌, ◌<◌, ◌≤◌, Bool, true, false, cond, List, [], ◌∷◌, map, length, get_or, Some, refl, ap, ◌∙◌, ap₂, not-suc-le-zero, arith}
use Rattle.std.proofs.lemmas.Bool.{and_from, lt-ltb}
use Rattle.kinds.specs.Semiring.{Semiring}
use Rattle.table.specs.Circuit.{Vars}
use Rattle.passes.specs.Holding.{Entries, entry, is_free}
use Rattle.passes.specs.Passes.{Part}
use Rattle.passes.specs.Rows.{side_place}
use Rattle.search.specs.declared.choice.Choice.{Choice}
use Rattle.search.specs.Listing.{choice_of, choices_from}
use Rattle.search.specs.Orders.{Order, options_of, told, lean_at, placed}
use Rattle.search.specs.Select.{lean_of, named}

module _ (m : Vars) (h : Entries) where
  -- the numbers of the choices are those of the free options
  pub choices_free : (j : ℕ) (vs : List ℕ) → options_of (choices_from m h j vs) ≡ filter (λ v. is_free (entry h v)) vs
  choices_free j [] = refl
  choices_free j (v ∷ vs) = by (is_free (entry h v)) (choices_free (j + 1) vs)
    where
      by : (b : Bool) → options_of (choices_from m h (j + 1) vs) ≡ filter (λ v. is_free (entry h v)) vs
          → options_of (cond b (choice_of m j v ∷ choices_from m h (j + 1) vs) (choices_from m h (j + 1) vs)) ≡ cond b (v ∷ filter (λ v. is_free (entry h v)) vs) (filter (λ v. is_free (entry h v)) vs)
      by true e = ap (λ xs. v ∷ xs) e
      by false e = e

  -- each option's values are in a part of 2k + 1 places
  pub choices_placed : (j : ℕ) (vs : List ℕ) (size : ℕ) → 2 * (j + length vs) + 1 ≤ size → list_all (placed size) (choices_from m h j vs) ≡ true
  choices_placed j [] size l = refl
  choices_placed j (v ∷ vs) size l = by (is_free (entry h v)) (choices_placed (j + 1) vs size (omega arith))
    where
      by : (b : Bool) → list_all (placed size) (choices_from m h (j + 1) vs) ≡ true
          → list_all (placed size) (cond b (choice_of m j v ∷ choices_from m h (j + 1) vs) (choices_from m h (j + 1) vs)) ≡ true
      by true e = and_from _ _ (lt-ltb _ _ (omega arith)) e
      by false e = e

  -- what is read of a part is what the part has for each free option
  pub told_is : {F : Type 0} (R : Semiring F) (part : List F) (p : Part F) (j : ℕ) (vs : List ℕ)
      → ((i : ℕ) (b : Bool) → i < length vs → get_or part (side_place (j + i) b) R.zero ≡ p.side b (get_or vs i 0))
      → told R part (choices_from m h j vs) ≡ map (lean_of p m) (filter (λ v. is_free (entry h v)) vs)
  told_is R part p j [] reads = refl
  told_is {F} R part p j (v ∷ vs) reads = by (is_free (entry h v)) (told_is R part p (j + 1) vs rest)
    where
      later : (i : ℕ) (b : Bool) → side_place (j + 1 + i) b ≡ side_place (j + suc i) b
      later i b = let e : j + 1 + i ≡ j + suc i = omega arith in ap (λ n. side_place n b) e

      rest : (i : ℕ) (b : Bool) → i < length vs → get_or part (side_place (j + 1 + i) b) R.zero ≡ p.side b (get_or vs i 0)
      rest i b l = ap (λ n. get_or part n R.zero) (later i b) ∙ reads (suc i) b (omega arith)

      here : (b : Bool) (n : ℕ) → n ≡ side_place (j + 0) b → get_or part n R.zero ≡ p.side b v
      here b n e = ap (λ k. get_or part k R.zero) e ∙ reads 0 b (omega arith)

      lean : lean_at R part (choice_of m j v) ≡ lean_of p m v
      lean = ap₂ (λ (x y : F). record { option = v; mentioned = m v; on = x; off = y }) (here true (2 * j + 1) (omega arith)) (here false (2 * j + 1 + 1) (omega arith))

      by : (b : Bool) → told R part (choices_from m h (j + 1) vs) ≡ map (lean_of p m) (filter (λ x. is_free (entry h x)) vs)
          → told R part (cond b (choice_of m j v ∷ choices_from m h (j + 1) vs) (choices_from m h (j + 1) vs))
          ≡ map (lean_of p m) (cond b (v ∷ filter (λ x. is_free (entry h x)) vs) (filter (λ x. is_free (entry h x)) vs))
      by true e = ap₂ (λ x xs. x ∷ xs) lean e
      by false e = e

-- an order that is told of some option is asked
pub told_some : {F : Type 0} (pick : Order F) (R : Semiring F) (part : List F) (cs : List Choice) → 0 < length cs → Some (pick (told R part cs)) ≡ named pick (told R part cs)
told_some pick R part [] l = absurd (not-suc-le-zero l)
told_some pick R part (x ∷ xs) l = refl

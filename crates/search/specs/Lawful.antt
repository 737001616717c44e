-- Number order and strongest lean are lawful; the trait of orders asks each for this proof.
use Rattle.std.specs.Prelude.{◌≡◌, ℕ, true, List, [], ◌∷◌, map, refl}
use Rattle.std.specs.List.{filter}
use Rattle.std.proofs.Common.{sym, ap, subst, inl, inr}
use Rattle.std.proofs.lemmas.Bool.{cond_both}
use Rattle.kinds.specs.Semiring.{Semiring}
use Rattle.table.specs.Facts.{Among}
use Rattle.passes.proofs.Filters.{kept}
use Rattle.search.specs.Orders.{Lean, numbers, Lawful, lowest, weaker, strongest_of, strongest_or, strongest}

pub lawful_lowest : {F : Type 0} → Lawful (lowest {F = F})
lawful_lowest l ls r = inl refl

pub among_map : {A : Type 0} (f : A → ℕ) (x : A) (xs : List A) → Among x xs → Among (f x) (map f xs)
among_map f x [] m = absurd m
among_map f x (y ∷ ys) (inl e) = inl (ap f e)
among_map f x (y ∷ ys) (inr m) = inr (among_map f x ys m)

-- those that the root mentions
abbrev pub mentioned_of : {F : Type 0} → List (Lean F) → List (Lean F)
mentioned_of ls = filter (λ l. l.mentioned) ls

module _ {F : Type 0} (R : Semiring F) where
  strongest_among : (l : Lean F) (ls : List (Lean F)) → Among (strongest_of R l ls) (l ∷ ls)
  strongest_among l [] = inl refl
  strongest_among l (x ∷ xs) = cond_both (R.upto (weaker R l) (weaker R x)) l x (λ z. Among (strongest_of R z xs) (l ∷ x ∷ xs))
      (λ _. behind (strongest_of R l xs) (strongest_among l xs))
      (λ _. inr (strongest_among x xs))
    where
      behind : (w : Lean F) → Among w (l ∷ xs) → Among w (l ∷ x ∷ xs)
      behind w (inl e) = inl e
      behind w (inr m) = inr (inr m)

  -- the strongest of the mentioned ones is one of them
  pub strongest_kept : (ls : List (Lean F)) (y : Lean F) (ys : List (Lean F)) → mentioned_of ls ≡ y ∷ ys
      → Among (strongest_of R y ys) ls × ((strongest_of R y ys).mentioned ≡ true)
  strongest_kept ls y ys e = kept (λ l. l.mentioned) (strongest_of R y ys) ls (subst (Among (strongest_of R y ys)) (sym e) (strongest_among y ys))

  strongest_named : (l : Lean F) (ls zs : List (Lean F)) → mentioned_of (l ∷ ls) ≡ zs → Among (strongest_or R l.option zs) (numbers (l ∷ ls))
  strongest_named l ls [] e = inl refl
  strongest_named l ls (y ∷ ys) e = among_map (λ x. x.option) (strongest_of R y ys) (l ∷ ls) (strongest_kept (l ∷ ls) y ys e).0

  pub lawful_strongest : Lawful (strongest R)
  lawful_strongest l ls r = strongest_named l ls (mentioned_of (l ∷ ls)) refl

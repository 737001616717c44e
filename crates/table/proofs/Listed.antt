-- Elements of a list, and what tests of all or some of them decide.
use Rattle.std.proofs.Common.{◌≡◌, Bool, true, false, ◌&&◌, ◌||◌, List, [], ◌∷◌, Decides, sym, refl, subst, ap₂, inl, inr}
use Rattle.std.specs.List.{AllByRecursion, list_all, list_any}
use Rattle.std.proofs.lemmas.Bool.{false≢true, or_left, or_right, or_cases}
use Rattle.std.proofs.lemmas.Bool.Decides.{Decides-and, Decides-like}
use Rattle.table.specs.Circuit.{same}
use Rattle.table.specs.Facts.{Among}

pub decides_same : (a b : Bool) → Decides (same a b) (a ≡ b)
decides_same true b = (sym, sym)
decides_same false true = (λ e. e, λ e. e)
decides_same false false = (λ _. refl, λ _. refl)

module _ {A : Type 0} where
  pub all_at : (P : A → Type 0) (xs : List A) → AllByRecursion P xs → (x : A) → Among x xs → P x
  all_at P [] h x m = absurd m
  all_at P (y ∷ ys) h x (inl e) = subst P e h.0
  all_at P (y ∷ ys) h x (inr m) = all_at P ys h.1 x m

  pub all_among : (P : A → Type 0) (xs : List A) → ((x : A) → Among x xs → P x) → AllByRecursion P xs
  all_among P [] h = tt
  all_among P (y ∷ ys) h = (h y (inl refl), all_among P ys (λ x m. h x (inr m)))

  decides_all : (p : A → Bool) (P : A → Type 0) → ((x : A) → Decides (p x) (P x)) → (xs : List A) → Decides (list_all p xs) (AllByRecursion P xs)
  decides_all p P each [] = (λ _. tt, λ _. refl)
  decides_all p P each (x ∷ xs) = Decides-and (p x) (list_all p xs) (each x) (decides_all p P each xs)

  pub decides_every : (p : A → Bool) (P : A → Type 0) → ((x : A) → Decides (p x) (P x)) → (xs : List A)
      → Decides (list_all p xs) ((x : A) → Among x xs → P x)
  decides_every p P each xs =
      Decides-like (list_all p xs) (all_at P xs) (all_among P xs) (decides_all p P each xs)

  pub every_at : (p : A → Bool) (xs : List A) → list_all p xs ≡ true → (x : A) → Among x xs → p x ≡ true
  every_at p xs = (decides_every p (λ x. p x ≡ true) (λ x. (λ e. e, λ e. e)) xs).0

  pub some_at : (p : A → Bool) (xs : List A) → list_any p xs ≡ true → (x : A) × Among x xs × (p x ≡ true)
  some_at p [] e = absurd (false≢true e)
  some_at p (y ∷ ys) e = elim (or_cases (p y) (list_any p ys) e) [
    | inl t ↦ (y, inl refl, t)
    | inr t ↦ let rest = some_at p ys t in (rest.0, inr rest.1, rest.2)
  ]

  pub some_among : (p : A → Bool) (xs : List A) (x : A) → Among x xs → p x ≡ true → list_any p xs ≡ true
  some_among p [] x m t = absurd m
  some_among p (y ∷ ys) x (inl e) t = or_left (p y) (list_any p ys) (rw e t)
  some_among p (y ∷ ys) x (inr m) t = or_right (p y) (list_any p ys) (some_among p ys x m t)

  -- two tests that agree on the elements
  pub every_same : (p q : A → Bool) (xs : List A) → ((x : A) → Among x xs → p x ≡ q x) → list_all p xs ≡ list_all q xs
  every_same p q [] h = refl
  every_same p q (y ∷ ys) h = ap₂ ◌&&◌ (h y (inl refl)) (every_same p q ys (λ x m. h x (inr m)))

  pub some_same : (p q : A → Bool) (xs : List A) → ((x : A) → Among x xs → p x ≡ q x) → list_any p xs ≡ list_any q xs
  some_same p q [] h = refl
  some_same p q (y ∷ ys) h = ap₂ ◌||◌ (h y (inl refl)) (some_same p q ys (λ x m. h x (inr m)))

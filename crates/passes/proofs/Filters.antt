-- What a filter keeps.
use Rattle.std.proofs.Common.{◌≡◌, Bool, true, false, cond, List, [], ◌∷◌, refl, ◌∙◌, inl, inr}
use Rattle.std.specs.List.{filter}
use Rattle.std.proofs.lemmas.Bool.{cond-false}
use Rattle.table.specs.Facts.{Among}

module _ {A : Type 0} (p : A → Bool) where
  kept_step : (v x : A) (xs ys : List A) (b : Bool) → p x ≡ b → (Among v ys → Among v xs × (p v ≡ true)) → Among v (cond b (x ∷ ys) ys)
      → Among v (x ∷ xs) × (p v ≡ true)
  kept_step v x xs ys true e rest (inl same) = (inl same, rw same at e)
  kept_step v x xs ys true e rest (inr m) = (inr (rest m).0, (rest m).1)
  kept_step v x xs ys false e rest m = (inr (rest m).0, (rest m).1)

  -- what a filter keeps was there, and passes
  pub kept : (v : A) (xs : List A) → Among v (filter p xs) → Among v xs × (p v ≡ true)
  kept v [] m = absurd m
  kept v (x ∷ xs) m = kept_step v x xs (filter p xs) (p x) refl (kept v xs) m

  pub filter_empty : (xs : List A) → ((x : A) → Among x xs → p x ≡ false) → filter p xs ≡ []
  filter_empty [] h = refl
  filter_empty (x ∷ xs) h = cond-false (p x) _ _ (h x (inl refl)) ∙ filter_empty xs (λ y m. h y (inr m))

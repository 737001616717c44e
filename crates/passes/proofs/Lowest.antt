-- The least of some figures, one option after the other.
use Rattle.std.proofs.Common.{◌≡◌, ℕ, ◌+◌, Bool, true, false, cond, ◌&&◌, List, [], ◌∷◌, ◌++◌, map, Some, None, Option, refl, ap, ◌∙◌, inl, inr}
use Rattle.std.specs.List.{filter}
use Rattle.kinds.specs.Semiring.{Semiring, greater}
use Rattle.table.specs.Facts.{Among}
use Rattle.passes.specs.Passes.{Part, least, sides}
use Rattle.passes.specs.Rows.{side_place, sides_by, lower, lowered, least_in_row}

pub filter_both : (q r : ℕ → Bool) (vs : List ℕ) → filter q (filter r vs) ≡ filter (λ v. r v && q v) vs
filter_both q r [] = refl
filter_both q r (v ∷ vs) = by (filter_both q r vs) (r v)
  where
    by : filter q (filter r vs) ≡ filter (λ u. r u && q u) vs → (b : Bool) → filter q (cond b (v ∷ filter r vs) (filter r vs)) ≡ cond (b && q v) (v ∷ filter (λ u. r u && q u) vs) (filter (λ u. r u && q u) vs)
    by rest true = ap (λ xs. cond (q v) (v ∷ xs) xs) rest
    by rest false = rest

module _ {F : Type 0} (R : Semiring F) where
  -- the least so far and some more figures
  abbrev pub least_with : Option F → List F → Option F
  least_with None [] = None
  least_with None (x ∷ xs) = Some (least R x xs)
  least_with (Some y) xs = Some (least R y xs)

  least_step : (best : Option F) (x : F) (xs : List F) → least_with (Some (lower R best x)) xs ≡ least_with best (x ∷ xs)
  least_step None x xs = refl
  least_step (Some y) x xs = refl

  module _ (part : Part F) (p : ℕ → Bool) (e : ℕ → F) where
    pub least_is : (best : Option F) (vs : List ℕ) → ((v : ℕ) → Among v vs → p v ≡ true → greater R (part.side true v) (part.side false v) ≡ e v)
        → least_in_row R p (sides part vs) best vs ≡ least_with best (map e (filter p vs))
    least_is None [] h = refl
    least_is (Some y) [] h = refl
    least_is best (v ∷ vs) h = by (λ o. least_is o vs (λ u m. h u (inr m))) (p v) refl
      where
        by : ((o : Option F) → least_in_row R p (sides part vs) o vs ≡ least_with o (map e (filter p vs))) → (b : Bool) → p v ≡ b
            → least_in_row R p (sides part vs) (cond b (Some (lower R best (greater R (part.side true v) (part.side false v)))) best) vs ≡ least_with best (map e (cond b (v ∷ filter p vs) (filter p vs)))
        by rest true t = rest _ ∙ least_step best _ (map e (filter p vs)) ∙ ap (λ x. least_with best (x ∷ map e (filter p vs))) (h v (inl refl) t)
        by rest false t = rest best

  -- one option more
  pub least_push : (p : ℕ → Bool) (s : Bool → ℕ → ℕ → F) (j : ℕ) (vs : List ℕ) (v : ℕ) (x y : F) (best : Option F)
      → least_in_row R p (sides_by s j vs ++ (x ∷ y ∷ [])) best (vs ++ (v ∷ [])) ≡ lowered R (least_in_row R p (sides_by s j vs) best vs) (p v) x y
  least_push p s j [] v x y best = refl
  least_push p s j (u ∷ vs) v x y best = least_push p s (j + 1) vs v x y (lowered R best (p u) (s true u (side_place j true)) (s false u (side_place j false)))

-- What `reduce` gives in a chain, and what `fill_with` writes, by closures that compute a function.
-- What stands behind the first places of a slice once the part behind them is written.
use Rattle.std.proofs.Common.{◌≡◌, ℕ, ◌-◌, ◌≤◌, List, [], ◌∷◌, ◌++◌, length, take, drop, replicate, Some, None, Option, sym, subst, ap₂, refl, ap, ◌∙◌, arith}
use Rattle.std.proofs.Math.Seq.{drop-append_seam}
use Rattle.std.proofs.lemmas.Iterator.{YieldsList, items_from_drains}
use Rattle.std.proofs.lemmas.List.{map-id, drop_all, length-take-le, length-drop, append-nil}
use Rattle.std.specs.Fn.{Called}
use Rattle.std.specs.Iterator.{Drains, DrainsIf, FoldTurn, ReducesItems}
use Rattle.std.specs.List.{fold, reduce, FoldsTo}
use denote.Param.Members.{Mut}

-- what `reduce` gives by a closure f that computes h
module _ {A S G : Type 0} (steps : S → Option A → S → Type 0) (g : Mut G (A × (A × Unit {0})) A) (f : G) (h : A → A → A)
    (gives : (b c r : A) (q : G) → Called g f (b, (c, tt)) r q → (q ≡ f) × (r ≡ h b c)) where
  folded : (xs : List A) (p q : G × A) → p.0 ≡ f → FoldsTo (FoldTurn g) p xs q → q.1 ≡ fold h p.1 xs
  folded [] p q e d = sym (ap (λ r. r.1) d)
  folded (z ∷ zs) p q e d =
      let turn = gives p.1 z d.0.1 d.0.0 (subst (λ k. Called g k (p.1, (z, tt)) d.0.1 d.0.0) e d.1) in
      folded zs d.0 q turn.0 d.2 ∙ ap (λ b. fold h b zs) turn.1

  drained : (s : S) (xs : List A) → Drains steps s xs → DrainsIf steps (Unit {0}) s xs
  drained s xs d = (d.1.0, d.1.1, λ _. (d.0, d.1.2))

  pub reduce_given : {s : S} (all : List A) → YieldsList steps (λ c. c) s all → (r : Option A) → ReducesItems steps g s f r → r ≡ reduce h all
  reduce_given {s} all road None d = ap (reduce h) (items_from_drains [] (drained s [] d) road)
  reduce_given {s} all road (Some y) d =
      ap Some (folded d.1 (f, d.0) (d.2, y) refl d.4) ∙ ap (reduce h) (sym (map-id (d.0 ∷ d.1)) ∙ items_from_drains (d.0 ∷ d.1) (drained s (d.0 ∷ d.1) d.3) road)

-- what was filled with one value
pub filled : {S X : Type 0} (R : S → X → S → Type 0) (f : S) (y : X) (xs : List X) (last : S) → ((x : X) (q : S) → R f x q → (q ≡ f) × (x ≡ y)) → FoldsTo R f xs last → xs ≡ replicate (length xs) y
filled R f y [] last same runs = refl
filled R f y (x ∷ xs) last same runs =
    let here = same x runs.0 runs.1 in ap₂ ◌∷◌ here.1 (filled R f y xs last same (subst (λ j. FoldsTo R j xs last) here.0 runs.2))

-- what stands behind the first n places once the part behind them is written
pub put_behind : {X : Type 0} (n : ℕ) (xs ys : List X) → n ≤ length xs → drop n (take n xs ++ (ys ++ drop (length xs - n) (drop n xs))) ≡ ys
put_behind n xs ys few =
    let rest = drop (length xs - n) (drop n xs) in
    ap (λ k. drop k (take n xs ++ (ys ++ rest))) (sym (length-take-le n xs few)) ∙ drop-append_seam (take n xs) _
    ∙ ap (λ r. ys ++ r) (drop_all (length xs - n) (drop n xs) (omega (arith, length-drop n xs))) ∙ append-nil ys

use Rattle.std.proofs.Common.{rules, ◌≡◌, ℕ, List, [], ◌++◌, length, take, replicate, sym, ap, ◌∙◌}
use Rattle.std.specs.List.{FoldsTo}
use Rattle.passes.proofs.Chains.{filled}
use Rattle.report.proofs.plant.zeros.Goals as goal

-- what so many calls appended to nothing, if each gives one value
appended : {S X : Type 0} (R : S → X → S → Type 0) (f : S) (y : X) (n : ℕ) (before new ys : List X) (last : S) → before ≡ [] → new ≡ take n before ++ ys → FoldsTo R f ys last → length new ≡ n
    → ((x : X) (q : S) → R f x q → (q ≡ f) × (x ≡ y)) → new ≡ replicate n y
appended R f y n before new ys last empty is ran long same =
    let whole : new ≡ ys = is ∙ ap (λ l. take n l ++ ys) empty ∙ none n in
    whole ∙ filled R f y ys last same ran ∙ ap (λ k. replicate k y) (sym (ap length whole) ∙ long)
  where
    none : (k : ℕ) → take k [] ++ ys ≡ ys
    none k = search rules

pub returns : goal.returns
returns g c =
    let made = c.in_ok-resize_with.ensures.items in
    appended _ _ g.K.Figure.ring.zero c.args.count c.new-store.result.items c.resize_with.new.self.items made.0 made.1
    c.new-store.ensures.items made.2 made.3 (search (rules, c.in_ok-resize_with.ensures.len)) (λ x q k. search rules)

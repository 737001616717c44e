-- A product along the children.
use Rattle.std.specs.List.{list_all}
use Rattle.std.proofs.Common.{◌≡◌, ℕ, ◌≤◌, Bool, true, List, map, length, drop, sym, ap, ◌∙◌}
use Rattle.std.proofs.lemmas.List.{at_drop_all}
use Rattle.kinds.specs.Semiring.{Semiring, Laws}
use Rattle.passes.specs.Passes.{times}

-- what is left to multiply: the children from number i on
pub record Left {F : Type 0} (R : Semiring F) (value : ℕ → F) (reads : ℕ → Bool) (children : List ℕ) (all : F) (i : ℕ) : Type 0 where
  pub product : R.product all (times R (map value (drop i children))) ≡ times R (map value children)
  pub below : list_all reads (drop i children) ≡ true

-- with no child left, what is multiplied is the product
pub product_all : {F : Type 0} {R : Semiring F} → Laws R → (f : ℕ → F) (cs : List ℕ) (i : ℕ) (all whole : F) → length cs ≤ i
    → R.product all (times R (map f (drop i cs))) ≡ whole → all ≡ whole
product_all {R = R} L f cs i all whole h inv =
    sym (L.one_product all) ∙ L.product_comm _ _ ∙ sym (ap (R.product all) (at_drop_all (λ xs. times R (map f xs)) cs i h)) ∙ inv

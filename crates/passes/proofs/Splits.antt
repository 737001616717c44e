-- A sum over one variable: where each literal's value is split over the variable's two settings, so is each node's.
use Rattle.std.proofs.Common.{◌≡◌, ℕ, suc, ◌<◌, Bool, true, false, ◌||◌, eqb, List, [], ◌∷◌, map, length, get_or, sym, refl, ap, ◌∙◌, subst, ap₂, inl, inr, true≢false, arith}
use Rattle.std.specs.List.{AllByRecursion, list_any}
use Rattle.kinds.specs.Semiring.{Semiring, Laws}
use Rattle.kinds.proofs.Algebra.{weigh_sum, weigh_left, weigh_right}
use Rattle.table.specs.Circuit.{Shape, lit, all, fork, top, bottom, mention, mentions, node, about}
use Rattle.table.specs.Facts.{Among, Proper}
use Rattle.table.specs.Sound.{Roles, chances, children}
use Rattle.table.proofs.Listed.{all_at, some_at}
use Rattle.table.proofs.Truths.{about_at}
use Rattle.table.proofs.Upward.{by_children}
use Rattle.passes.specs.Passes.{times}
use Rattle.passes.specs.Ways.{made, sums}

-- what holds at each place of a list holds of each element
from_places : {A : Type 0} (P : A → Type 0) (xs : List A) (d : A) → ((i : ℕ) → i < length xs → P (get_or xs i d)) → AllByRecursion P xs
from_places P [] d h = tt
from_places P (x ∷ xs) d h = (h 0 (omega arith), from_places P xs d (λ i l. h (suc i) (omega arith)))

module _ {F : Type 0} (R : Semiring F) where
  -- x gives each node what the way that adds branches makes of it
  abbrev pub Solves : List Shape → (ℕ → Bool → F) → (ℕ → F) → Type 0
  Solves ss leaf x = (i : ℕ) → x i ≡ made R (sums R leaf) x (node ss i)

  -- a is the weighted sum of f's two values if the test holds, else each of them
  abbrev pub Split : (Bool → F) → Bool → F → (Bool → F) → Type 0
  Split c true a f = a ≡ R.sum (R.product (c true) (f true)) (R.product (c false) (f false))
  Split c false a f = (b : Bool) → a ≡ f b

module _ {F : Type 0} {R : Semiring F} (laws : Laws R) (c : Bool → F) where
  split_product : (s t : Bool) → (s ≡ true → t ≡ true → ⊥) → (x y : F) (f g : Bool → F) → Split R c s x f → Split R c t y g
      → Split R c (s || t) (R.product x y) (λ b. R.product (f b) (g b))
  split_product true true apart x y f g p q = absurd (apart refl refl)
  split_product true false apart x y f g p q =
      ap (λ a. R.product a y) p ∙ weigh_right laws _ _ _ _ y
      ∙ ap₂ (λ a b. R.sum (R.product (c true) (R.product (f true) a)) (R.product (c false) (R.product (f false) b))) (q true) (q false)
  split_product false true apart x y f g p q =
      ap (R.product x) q ∙ weigh_left laws _ _ x _ _
      ∙ ap₂ (λ a b. R.sum (R.product (c true) (R.product a (g true))) (R.product (c false) (R.product b (g false)))) (p true) (p false)
  split_product false false apart x y f g p q = λ b. ap₂ R.product (p b) (q b)

  split_sum : (s t : Bool) → s ≡ t → (x y : F) (f g : Bool → F) → Split R c s x f → Split R c t y g
      → Split R c (s || t) (R.sum x y) (λ b. R.sum (f b) (g b))
  split_sum true true e x y f g p q = ap₂ R.sum p q ∙ weigh_sum laws _ _ _ _ _ _
  split_sum true false e x y f g p q = absurd (true≢false e)
  split_sum false true e x y f g p q = absurd (true≢false (sym e))
  split_sum false false e x y f g p q = λ b. ap₂ R.sum (p b) (q b)

  module _ (rs : Roles) (ss : List Shape) (proper : Proper rs ss) (v : ℕ) (chance : Among v (chances rs)) (x : ℕ → F) (y : Bool → ℕ → F) where
    -- node i's value is split if the node mentions v
    abbrev SplitAt : ℕ → Type 0
    SplitAt i = Split R c (about ss i v) (x i) (λ b. y b i)

    split_all : (cs : List ℕ)
        → ((j k : ℕ) → j < k → k < length cs → about ss (get_or cs j 0) v ≡ true → about ss (get_or cs k 0) v ≡ true → ⊥)
        → ((d : ℕ) → Among d cs → SplitAt d) → Split R c (list_any (λ d. about ss d v) cs) (times R (map x cs)) (λ b. times R (map (y b) cs))
    split_all [] apart h = λ b. refl
    split_all (d ∷ cs) apart h =
        split_product (about ss d v) (list_any (λ e. about ss e v) cs)
        (λ here there.
        let other = some_at (λ e. about ss e v) cs there in
        all_at (λ e. about ss e v ≡ true → ⊥) cs
        (from_places (λ e. about ss e v ≡ true → ⊥) cs 0 (λ k l. apart 0 (suc k) (omega arith) (omega arith) here)) other.0 other.1 other.2)
        (x d) (times R (map x cs)) (λ b. y b d) (λ b. times R (map (y b) cs)) (h d (inl refl))
        (split_all cs (λ j k l m. apart (suc j) (suc k) (omega arith) (omega arith)) (λ e m. h e (inr m)))

    module _ (g : ℕ → Bool → F) (k : Bool → ℕ → Bool → F) (leaves : (u : ℕ) (on : Bool) → Split R c (eqb v u) (g u on) (λ b. k b u on)) where
      split_shape : (i : ℕ) (s : Shape) → node ss i ≡ s → ((d : ℕ) → Among d (children s) → SplitAt d)
          → Split R c (mention (mentions ss) s v) (made R (sums R g) x s) (λ b. made R (sums R (k b)) (y b) s)
      split_shape i (lit u on) is h = leaves u on
      split_shape i (all cs) is h = split_all cs (λ j k l m. proper.decomposable i cs is j k l m v) h
      split_shape i (fork u a b) is h =
          split_sum (about ss a v) (about ss b v) (proper.even i u a b is v chance) (x a) (x b) (λ t. y t a) (λ t. y t b) (h a (inl refl)) (h b (inr (inl refl)))
      split_shape i top is h = λ b. refl
      split_shape i bottom is h = λ b. refl

      pub split_nodes : Solves R ss g x → ((b : Bool) → Solves R ss (k b) (y b)) → (i : ℕ) → SplitAt i
      split_nodes x-at y-at = by_children ss proper.ordered SplitAt (λ i below.
          let moved : Split R c (mention (mentions ss) (node ss i) v) (x i) (λ b. y b i)
          = subst (λ a. Split R c (mention (mentions ss) (node ss i) v) a (λ b. y b i)) (sym (x-at i))
          (subst (Split R c (mention (mentions ss) (node ss i) v) (made R (sums R g) x (node ss i))) (λ j b. sym (y-at b i) j)
          (split_shape i (node ss i) refl below))
          in subst (λ (m : ℕ → Bool). Split R c (m v) (x i) (λ b. y b i)) (sym (about_at ss proper.ordered i)) moved)

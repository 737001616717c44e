-- What is kept from the children of a node to the node, and the steps of the passes as ways.
use Rattle.std.proofs.Common.{◌≡◌, ℕ, Bool, List, [], ◌∷◌, map, get_or, sym, refl, ◌∙◌, ap₂, inl, inr}
use Rattle.kinds.specs.Semiring.{Semiring, Laws}
use Rattle.kinds.proofs.Ranks.{Upto, upto_refl, product_monotone}
use Rattle.table.specs.Circuit.{Shape, lit, all, fork, top, bottom, World, upward, node}
use Rattle.table.specs.Facts.{Among, Ordered}
use Rattle.table.specs.Sound.{children}
use Rattle.table.proofs.Upward.{upward_at}
use Rattle.passes.specs.Passes.{Part, times, value_at, count, plain, under, side_of}
use Rattle.passes.specs.Problem.{Problem}
use Rattle.passes.specs.Ways.{Way, made, count_way, plain_way, side_way}

-- a relation that products keep
pub record Kept {F : Type 0} (R : Semiring F) (Rel : F → F → Type 0) : Type 0 where
  pub ones : Rel R.one R.one
  pub zeros : Rel R.zero R.zero
  pub products : (a b c d : F) → Rel a c → Rel b d → Rel (R.product a b) (R.product c d)

pub equal : {F : Type 0} (R : Semiring F) → Kept R ◌≡◌
equal R = record { ones = refl; zeros = refl; products = λ a b c d. ap₂ R.product }

pub ranked : {F : Type 0} {R : Semiring F} → Laws R → Kept R (Upto R)
ranked {R = R} laws = record { ones = upto_refl laws R.one; zeros = upto_refl laws R.zero; products = product_monotone laws }

module _ {F : Type 0} {R : Semiring F} {Rel : F → F → Type 0} (kept : Kept R Rel) (f g : ℕ → F) where
  times_related : (cs : List ℕ) → ((c : ℕ) → Among c cs → Rel (f c) (g c)) → Rel (times R (map f cs)) (times R (map g cs))
  times_related [] h = kept.ones
  times_related (c ∷ cs) h = kept.products _ _ _ _ (h c (inl refl)) (times_related cs (λ d m. h d (inr m)))

  -- two ways that are so related at a node whose children are
  pub made_related : (x y : Way F) (s : Shape) → ((v : ℕ) (on : Bool) → s ≡ lit v on → Rel (x.leaf v on) (y.leaf v on))
      → ((v a b : ℕ) → s ≡ fork v a b → Rel (f a) (g a) → Rel (f b) (g b) → Rel (x.join v (f a) (f b)) (y.join v (g a) (g b)))
      → (s ≡ top → Rel x.edge y.edge) → ((c : ℕ) → Among c (children s) → Rel (f c) (g c)) → Rel (made R x f s) (made R y g s)
  made_related x y (lit v on) leaves forks edges h = leaves v on refl
  made_related x y (all cs) leaves forks edges h = times_related cs h
  made_related x y (fork v a b) leaves forks edges h = forks v a b refl (h a (inl refl)) (h b (inr (inl refl)))
  made_related x y top leaves forks edges h = edges refl
  made_related x y bottom leaves forks edges h = kept.zeros

module _ {F : Type 0} (R : Semiring F) where
  pub made_same : (x : Way F) (f g : ℕ → F) (s : Shape) → ((c : ℕ) → Among c (children s) → f c ≡ g c) → made R x f s ≡ made R x g s
  made_same x f g s = made_related (equal R) f g x x s (λ v on _. refl) (λ v a b _. ap₂ (x.join v)) (λ _. refl)

  -- a pass that goes one way: each node's value, from those of its children
  pub upward_made : (x : Way F) (step : List F → Shape → F) → ((done : List F) (s : Shape) → step done s ≡ made R x (value_at R done) s)
      → (ss : List Shape) → Ordered ss → (i : ℕ) → get_or (upward step ss) i R.zero ≡ made R x (value_at R (upward step ss)) (node ss i)
  upward_made x step is ss ordered i =
      upward_at step R.zero
      (record {
        by_values = λ xs ys s h. is xs s ∙ made_same x (value_at R xs) (value_at R ys) s h ∙ sym (is ys s);
        at_bottom = λ xs. is xs bottom;
      }) ss ordered i
      ∙ is (upward step ss) (node ss i)

  module _ (p : Problem F) where
    pub count_made : (w : World) (done : List F) (s : Shape) → count R p w done s ≡ made R (count_way R p w) (value_at R done) s
    count_made w done (lit v on) = refl
    count_made w done (all cs) = refl
    count_made w done (fork v a b) = refl
    count_made w done top = refl
    count_made w done bottom = refl

    pub plain_made : (done : List F) (s : Shape) → plain R p done s ≡ made R (plain_way R p) (value_at R done) s
    plain_made done (lit v on) = refl
    plain_made done (all cs) = refl
    plain_made done (fork v a b) = refl
    plain_made done top = refl
    plain_made done bottom = refl

    pub side_made : (done : List (Part F)) (b : Bool) (v : ℕ) (s : Shape)
        → side_of R p done s b v ≡ made R (side_way R p.roles b) (under R p done b v) s
    side_made done b v (lit x on) = refl
    side_made done b v (all cs) = refl
    side_made done b v (fork x c d) = refl
    side_made done b v top = refl
    side_made done b v bottom = refl

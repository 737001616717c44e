-- What the laws of a semiring give: the laws from the other side, and weighted sums.
use Rattle.std.proofs.Common.{◌≡◌, sym, ap, ◌∙◌, ap₂}
use Rattle.kinds.specs.Semiring.{Semiring, Laws}

module _ {F : Type 0} {R : Semiring F} (laws : Laws R) where
  sum_left_comm : (a b c : F) → R.sum a (R.sum b c) ≡ R.sum b (R.sum a c)
  sum_left_comm a b c = sym (laws.sum_assoc a b c) ∙ ap (λ x. R.sum x c) (laws.sum_comm a b) ∙ laws.sum_assoc b a c

  product_left_comm : (a b c : F) → R.product a (R.product b c) ≡ R.product b (R.product a c)
  product_left_comm a b c = sym (laws.product_assoc a b c) ∙ ap (λ x. R.product x c) (laws.product_comm a b) ∙ laws.product_assoc b a c

  distributes_right : (a b c : F) → R.product (R.sum a b) c ≡ R.sum (R.product a c) (R.product b c)
  distributes_right a b c = laws.product_comm (R.sum a b) c ∙ laws.distributes c a b ∙ ap₂ R.sum (laws.product_comm c a) (laws.product_comm c b)

  pub sum_zero : (a : F) → R.sum a R.zero ≡ a
  sum_zero a = laws.sum_comm a R.zero ∙ laws.zero_sum a

  pub product_one : (a : F) → R.product a R.one ≡ a
  product_one a = laws.product_comm a R.one ∙ laws.one_product a

  pub product_zero : (a : F) → R.product a R.zero ≡ R.zero
  product_zero a = laws.product_comm a R.zero ∙ laws.zero_product a

  -- two weighted sums, added part by part
  pub weigh_sum : (p q a b c d : F) → R.sum (R.sum (R.product p a) (R.product q b)) (R.sum (R.product p c) (R.product q d))
      ≡ R.sum (R.product p (R.sum a c)) (R.product q (R.sum b d))
  weigh_sum p q a b c d = simp (laws.distributes, laws.sum_assoc, sum_left_comm)

  -- a factor on the right, or on the left, of both parts of a weighted sum
  pub weigh_right : (p q a b x : F) → R.product (R.sum (R.product p a) (R.product q b)) x ≡ R.sum (R.product p (R.product a x)) (R.product q (R.product b x))
  weigh_right p q a b x = simp (distributes_right, laws.product_assoc)

  pub weigh_left : (p q x a b : F) → R.product x (R.sum (R.product p a) (R.product q b)) ≡ R.sum (R.product p (R.product x a)) (R.product q (R.product x b))
  weigh_left p q x a b = simp (laws.distributes, product_left_comm)

-- What the laws give of the ranking: sums, products, the greater and the lesser.
use Rattle.std.proofs.Common.{◌≡◌, Bool, true, false, cond, refl, ⊎_elim}
use Rattle.std.proofs.lemmas.Bool.{both_ways, cond_both}
use Rattle.kinds.specs.Semiring.{Semiring, Laws, greater, lesser}

-- a ranks no higher than b
abbrev pub Upto : {F : Type 0} → Semiring F → F → F → Type 0
Upto R a b = R.upto a b ≡ true

module _ {F : Type 0} {R : Semiring F} (laws : Laws R) where
  pub upto_refl : (a : F) → Upto R a a
  upto_refl a = ⊎_elim (λ h. h) (λ h. h) (laws.total a a)

  -- equal figures rank alike
  pub upto_same : {a b : F} → a ≡ b → Upto R a b
  upto_same {a} e = rw (← e) (upto_refl a)

  -- what does not rank up to b ranks above it
  pub upto_other : {a b : F} → R.upto a b ≡ false → Upto R b a
  upto_other {a} {b} above = ⊎_elim (λ h. absurd (both_ways _ above h)) (λ h. h) (laws.total a b)

  pub sum_monotone : (a b c d : F) → Upto R a c → Upto R b d → Upto R (R.sum a b) (R.sum c d)
  sum_monotone a b c d p q =
      laws.trans _ _ _ (laws.sum_mono a c b p) (rw (laws.sum_comm c b, laws.sum_comm c d) (laws.sum_mono b d c q))

  pub product_monotone : (a b c d : F) → Upto R a c → Upto R b d → Upto R (R.product a b) (R.product c d)
  product_monotone a b c d p q =
      laws.trans _ _ _ (laws.product_mono a c b p) (rw (laws.product_comm c b, laws.product_comm c d) (laws.product_mono b d c q))

  -- each side of a figure ranks no higher than the greater
  pub upto_greater : (f : Bool → F) (b : Bool) → Upto R (f b) (greater R (f true) (f false))
  upto_greater f true = cond_both (R.upto (f false) (f true)) (f true) (f false) (Upto R (f true)) (λ _. upto_refl (f true)) (λ above. upto_other above)
  upto_greater f false = cond_both (R.upto (f false) (f true)) (f true) (f false) (Upto R (f false)) (λ h. h) (λ _. upto_refl (f false))

  pub greater_upto : (a b c : F) → Upto R a c → Upto R b c → Upto R (greater R a b) c
  greater_upto a b c p q = cond_both (R.upto b a) a b (λ x. Upto R x c) (λ _. p) (λ _. q)

  pub lesser_upto : (a b : F) → Upto R (lesser R a b) a
  lesser_upto a b = cond_both (R.upto a b) a b (λ x. Upto R x a) (λ _. upto_refl a) (λ above. upto_other above)

  pub upto_lesser : (a b c : F) → Upto R c a → Upto R c b → Upto R c (lesser R a b)
  upto_lesser a b c p q = cond_both (R.upto a b) a b (Upto R c) (λ _. p) (λ _. q)

  -- the greater of two figures ranks no higher than their sum
  pub greater_upto_sum : (a b : F) → Upto R (greater R a b) (R.sum a b)
  greater_upto_sum a b = greater_upto a b (R.sum a b)
      (rw (laws.sum_comm a b) (rw (laws.zero_sum a) at (laws.sum_mono R.zero b a (laws.zero_least b))))
      (rw (laws.zero_sum b) at (laws.sum_mono R.zero a b (laws.zero_least a)))

  -- two branches joined as an option's, by the greater, or as a chance's, by the sum
  pub joined_monotone : (o : Bool) (a b c d : F) → Upto R a c → Upto R b d → Upto R (cond o (greater R a b) (R.sum a b)) (cond o (greater R c d) (R.sum c d))
  joined_monotone true a b c d p q =
      let side : Bool → F = λ t. cond t c d in
      greater_upto a b _ (laws.trans _ _ _ p (upto_greater side true)) (laws.trans _ _ _ q (upto_greater side false))
  joined_monotone false a b c d p q = sum_monotone a b c d p q

  pub test_upto_one : (t : Bool) → Upto R (cond t R.one R.zero) R.one
  test_upto_one true = upto_refl R.one
  test_upto_one false = laws.zero_least R.one

  -- two values that differ in the first case alone
  pub first_monotone : (o : Bool) (a b c : F) → (o ≡ true → Upto R a b) → Upto R (cond o a c) (cond o b c)
  first_monotone true a b c h = h refl
  first_monotone false a b c h = upto_refl c

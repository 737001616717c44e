-- A commutative semiring with a total preorder: what every kind of figure is.
use Rattle.std.specs.Prelude.{◌≡◌, Bool, true, ◌⊎◌, if◌then◌else◌}

-- the operations of a kind of figure; `upto a b` is that a ranks no higher than b
pub record Semiring (F : Type 0) : Type 0 where
  pub zero : F
  pub one : F
  pub sum : F → F → F
  pub product : F → F → F
  pub upto : F → F → Bool

-- sum and product are a commutative semiring; `upto` is a total preorder with zero at its foot, and sum and product keep it
pub record Laws {F : Type 0} (R : Semiring F) : Type 0 where
  pub sum_assoc : (a b c : F) → R.sum (R.sum a b) c ≡ R.sum a (R.sum b c)
  pub sum_comm : (a b : F) → R.sum a b ≡ R.sum b a
  pub product_assoc : (a b c : F) → R.product (R.product a b) c ≡ R.product a (R.product b c)
  pub product_comm : (a b : F) → R.product a b ≡ R.product b a
  pub distributes : (a b c : F) → R.product a (R.sum b c) ≡ R.sum (R.product a b) (R.product a c)
  pub zero_sum : (a : F) → R.sum R.zero a ≡ a
  pub one_product : (a : F) → R.product R.one a ≡ a
  pub zero_product : (a : F) → R.product R.zero a ≡ R.zero
  pub total : (a b : F) → (R.upto a b ≡ true) ⊎ (R.upto b a ≡ true)
  pub trans : (a b c : F) → R.upto a b ≡ true → R.upto b c ≡ true → R.upto a c ≡ true
  pub zero_least : (a : F) → R.upto R.zero a ≡ true
  pub sum_mono : (a b c : F) → R.upto a b ≡ true → R.upto (R.sum a c) (R.sum b c) ≡ true
  pub product_mono : (a b c : F) → R.upto a b ≡ true → R.upto (R.product a c) (R.product b c) ≡ true

-- the greater of two figures: b if a ranks below b, else a
abbrev pub greater : {F : Type 0} → Semiring F → F → F → F
greater R a b = if R.upto b a then a else b

-- the lesser of two figures: b if b ranks below a, else a
abbrev pub lesser : {F : Type 0} → Semiring F → F → F → F
lesser R a b = if R.upto a b then a else b

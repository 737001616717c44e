-- Sums and products that stop at a cap, and the order of numbers.
use Rattle.std.specs.Prelude.{◌≡◌, ℕ, zero, suc, ◌+◌, ◌*◌, ◌≤◌, min, true, ◌⊎◌, nat_le}
use Rattle.std.proofs.Common.{sym, ap, ◌∙◌, inl, inr, mul-zero, mul-suc, mul_comm, mul-add, mul_assoc, mul-le-mul_right, arith}
use Rattle.std.proofs.lemmas.Bool.{cases_lt, le-leb}

module _ (cap : ℕ) where
  capped_mul : (x c : ℕ) → min (min x cap * c) cap ≡ min (x * c) cap
  capped_mul x zero = simp mul-zero
  capped_mul x (suc d) = elim (cases_lt cap x) [
    | inl h ↦ (let a : min x cap ≡ cap = omega arith in
        let l : min (min x cap * suc d) cap ≡ cap = rw (a, mul-suc) (omega arith) in
        let r : min (x * suc d) cap ≡ cap = rw mul-suc (omega arith) in
        l ∙ sym r)
    | inr h ↦ (let a : min x cap ≡ x = omega arith in ap (λ n. min (n * suc d) cap) a)
  ]

  pub capped_assoc : (a b c : ℕ) → min (min (a * b) cap * c) cap ≡ min (a * min (b * c) cap) cap
  capped_assoc a b c =
      capped_mul (a * b) c ∙ ap (λ n. min n cap) (mul_assoc a b c ∙ mul_comm a (b * c)) ∙ sym (capped_mul (b * c) a)
      ∙ ap (λ n. min n cap) (mul_comm (min (b * c) cap) a)

  pub capped_distributes : (a b c : ℕ) → min (a * min (b + c) cap) cap ≡ min (min (a * b) cap + min (a * c) cap) cap
  capped_distributes a b c =
      ap (λ n. min n cap) (mul_comm a (min (b + c) cap)) ∙ capped_mul (b + c) a
      ∙ ap (λ n. min n cap) (mul_comm (b + c) a ∙ mul-add a b c) ∙ omega arith

  pub capped_mono : (a b c : ℕ) → a ≤ b → min (a * c) cap ≤ min (b * c) cap
  capped_mono a b c h = let m : a * c ≤ b * c = mul-le-mul_right c h in omega arith

pub leb_total : (a b : ℕ) → (nat_le a b ≡ true) ⊎ (nat_le b a ≡ true)
leb_total a b = elim (cases_lt a b) [ inl h ↦ inl (le-leb a b (omega arith)) | inr h ↦ inr (le-leb b a h) ]

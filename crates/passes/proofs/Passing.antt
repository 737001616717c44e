-- A pass that writes one place for each node.
use Rattle.std.proofs.Common.{◌≡◌, ℕ, ◌+◌, ◌<◌, ◌≤◌, List, [], ◌∷◌, ◌++◌, length, get_or, take, drop, set, sym, ap, ◌∙◌, ap₂, append_assoc, arith}
use Rattle.std.proofs.lemmas.List.{length-take-le, take_all, take_at, drop_more, set_at}
use Rattle.table.specs.Circuit.{Shape, upward, node}
use Rattle.table.proofs.Upward.{upward_more, upward_length}

module _ {F : Type 0} (f : List F → Shape → F) (ss : List Shape) (start : List F) where
  -- the work table with the values of the first i nodes
  abbrev so_far : ℕ → List F
  so_far i = take i (upward f ss) ++ drop i start

  -- what a loop over the n nodes keeps
  pub record Passed (n : ℕ) (work : List F) (i : ℕ) : Type 0 where
    pub values : work ≡ so_far i
    pub many : n ≡ length ss

  front : (i : ℕ) → i ≤ length ss → length (take i (upward f ss)) ≡ i
  front i h = length-take-le i (upward f ss) (omega (arith, upward_length f ss))

  pass_more : (i : ℕ) (v : F) → i < length ss → length ss ≤ length start → v ≡ f (take i (upward f ss)) (node ss i) → set (so_far i) i v ≡ so_far (i + 1)
  pass_more i v h room e =
      ap (λ xs. set (take i (upward f ss) ++ xs) i v) (drop_more start i v (omega arith))
      ∙ set_at (take i (upward f ss)) (get_or start i v) (drop (i + 1) start) v i (front i (omega arith))
      ∙ sym (append_assoc (take i (upward f ss)) (v ∷ []) (drop (i + 1) start))
      ∙ ap (λ xs. xs ++ drop (i + 1) start) (ap (λ x. take i (upward f ss) ++ (x ∷ [])) e ∙ sym (upward_more f ss i h))

  module _ (n i : ℕ) (work : List F) (p : Passed n work i) where
    passed_done : i < n → take i work ≡ take i (upward f ss)
    passed_done h = ap (take i) p.values ∙ take_at (take i (upward f ss)) (drop i start) i (front i (let e = p.many in omega arith))

    pub passed_more : (v : F) → i < n → length ss ≤ length start → v ≡ f (take i work) (node ss i) → Passed n (set work i v) (i + 1)
    passed_more v h room e = record {
      values = ap (λ w. set w i v) p.values ∙ pass_more i v (let q = p.many in omega arith) room (e ∙ ap (λ d. f d (node ss i)) (passed_done h));
      many = p.many;
    }

    pub passed_all : i ≤ n → n ≤ i → work ≡ upward f ss ++ drop (length ss) start
    passed_all l h =
        let e : i ≡ length ss = let q = p.many in omega arith in
        p.values ∙ ap₂ (λ xs n. xs ++ drop n start) (take_all i (upward f ss) (omega (arith, upward_length f ss))) e

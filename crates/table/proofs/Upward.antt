-- What `upward` gives at each node, where a node's children come before it.
use Rattle.std.proofs.Common.{◌≡◌, ℕ, zero, suc, ◌+◌, ◌-◌, ◌<◌, ◌≤◌, List, [], ◌∷◌, ◌++◌, length, get_or, take, drop, sym, refl, ap, ◌∙◌, ⊎_elim, not-suc-le-zero, zero-add, arith}
use Rattle.std.proofs.lemmas.List.{get_or_past, get_or-take, get_or_push, length-append, length-take-le, take_all, take-append-drop, take-append-le, take_more}
use Rattle.std.proofs.lemmas.Bool.{cases_lt}
use Rattle.table.specs.Circuit.{Shape, bottom, onward, upward, root, node}
use Rattle.table.specs.Sound.{children}
use Rattle.table.specs.Facts.{Among, Ordered}

-- what holds of a node if it holds of its children holds of each node
pub by_children : (ss : List Shape) → Ordered ss → (P : ℕ → Type 0) → ((i : ℕ) → ((c : ℕ) → Among c (children (node ss i)) → P c) → P i) → (i : ℕ) → P i
by_children ss ordered P step i = below (suc i) i (omega arith)
  where
    below : (n : ℕ) (j : ℕ) → j < n → P j
    below zero j h = absurd (not-suc-le-zero h)
    below (suc n) j h = step j (λ c m. below n c (omega (arith, ordered j c m)))

-- a step that reads its children's values alone, an absent one as d, and gives d at `bottom`
pub record Local {A : Type 0} (f : List A → Shape → A) (d : A) : Type 0 where
  pub by_values : (xs ys : List A) (s : Shape) → ((c : ℕ) → Among c (children s) → get_or xs c d ≡ get_or ys c d) → f xs s ≡ f ys s
  pub at_bottom : (xs : List A) → f xs bottom ≡ d

module _ {A : Type 0} (f : List A → Shape → A) where
  onward_append : (done : List A) (xs ys : List Shape) → onward f done (xs ++ ys) ≡ onward f (onward f done xs) ys
  unfolding onward
  onward_append done [] ys = refl
  onward_append done (x ∷ xs) ys = onward_append (done ++ (f done x ∷ [])) xs ys

  onward_length : (done : List A) (ss : List Shape) → length (onward f done ss) ≡ length done + length ss
  unfolding onward
  onward_length done [] = omega arith
  onward_length done (s ∷ ss) = onward_length (done ++ (f done s ∷ [])) ss ∙ simp length-append (omega arith)

  onward_keeps : (done : List A) (ss : List Shape) (n : ℕ) → n ≤ length done → take n (onward f done ss) ≡ take n done
  unfolding onward
  onward_keeps done [] n h = refl
  onward_keeps done (s ∷ ss) n h =
      onward_keeps (done ++ (f done s ∷ [])) ss n (simp length-append (omega arith)) ∙ take-append-le n done (f done s ∷ []) h

  pub upward_length : (ss : List Shape) → length (upward f ss) ≡ length ss
  upward_length ss = onward_length [] ss ∙ zero-add (length ss)

  pub root_last : (d : A) (ss : List Shape) → root d (upward f ss) ≡ get_or (upward f ss) (length ss - 1) d
  root_last d ss = ap (λ n. get_or (upward f ss) (n - 1) d) (upward_length ss)

  -- the values of the first nodes are the first of the values
  pub upward_take : (ss : List Shape) (i : ℕ) → i ≤ length ss → take i (upward f ss) ≡ upward f (take i ss)
  upward_take ss i h =
      let size : length (upward f (take i ss)) ≡ i = upward_length (take i ss) ∙ length-take-le i ss h in
      ap (λ xs. take i (upward f xs)) (sym (take-append-drop i ss))
      ∙ ap (take i) (onward_append [] (take i ss) (drop i ss))
      ∙ onward_keeps (upward f (take i ss)) (drop i ss) i (omega arith)
      ∙ take_all i (upward f (take i ss)) (omega arith)

  -- one more node
  pub upward_push : (ss : List Shape) (s : Shape) → upward f (ss ++ (s ∷ [])) ≡ upward f ss ++ (f (upward f ss) s ∷ [])
  unfolding onward
  upward_push ss s = onward_append [] ss (s ∷ [])

  -- one more of the values, from those before it
  pub upward_more : (ss : List Shape) (i : ℕ) → i < length ss → take (i + 1) (upward f ss) ≡ take i (upward f ss) ++ (f (take i (upward f ss)) (node ss i) ∷ [])
  upward_more ss i h =
      upward_take ss (i + 1) (omega arith) ∙ ap (upward f) (take_more ss i bottom h) ∙ upward_push (take i ss) (node ss i)
      ∙ ap (λ xs. xs ++ (f xs (node ss i) ∷ [])) (sym (upward_take ss i (omega arith)))

  -- a node's value, from those before it
  pub upward_here : (ss : List Shape) (i : ℕ) (d : A) → i < length ss → get_or (upward f ss) i d ≡ f (take i (upward f ss)) (node ss i)
  upward_here ss i d h =
      let size : length (take i (upward f ss)) ≡ i = length-take-le i (upward f ss) (omega (arith, upward_length ss)) in
      sym (get_or-take (i + 1) (upward f ss) i d (omega arith))
      ∙ ap (λ xs. get_or xs i d) (upward_more ss i h)
      ∙ get_or_push (take i (upward f ss)) (f (take i (upward f ss)) (node ss i)) d i size

  module _ (d : A) (local : Local f d) (ss : List Shape) (ordered : Ordered ss) (i : ℕ) where
    upward_within : i < length ss → get_or (upward f ss) i d ≡ f (upward f ss) (node ss i)
    upward_within h =
        upward_here ss i d h
        ∙ local.by_values (take i (upward f ss)) (upward f ss) (node ss i) (λ c m. get_or-take i (upward f ss) c d (ordered i c m))

    upward_past : length ss ≤ i → get_or (upward f ss) i d ≡ f (upward f ss) (node ss i)
    upward_past past =
        get_or_past (upward f ss) i d (rw (upward_length ss) past)
        ∙ sym (local.at_bottom (upward f ss)) ∙ ap (f (upward f ss)) (sym (get_or_past ss i bottom past))

    -- a node's value is what the step makes of the finished list
    pub upward_at : get_or (upward f ss) i d ≡ f (upward f ss) (node ss i)
    upward_at = ⊎_elim upward_within upward_past (cases_lt i (length ss))

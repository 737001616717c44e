-- A node's truth and what it mentions, from its children.
use Rattle.std.proofs.Common.{◌≡◌, ℕ, Bool, true, false, ◌||◌, List, get_or, sym, refl, ap, ◌∙◌, ap₂, inl, inr, true≢false}
use mathlib.Core.Path.{fun_ext}
use Rattle.std.proofs.lemmas.Bool.{false≢true, or_left, or_right, or_cases, eqb-true, eq-eqb}
use Rattle.table.specs.Circuit.{Shape, lit, all, fork, top, bottom, World, Vars, none, upward, same, truth, mention, mentions, node, about, true_at}
use Rattle.table.specs.Sound.{Roles, children}
use Rattle.table.specs.Facts.{Among, Ordered, Known, KnownVariables, HasLiteral, Decisions, Deterministic, LocalTruth}
use Rattle.table.proofs.Listed.{decides_same, every_at, every_same, some_same, some_at, some_among}
use Rattle.table.proofs.Upward.{by_children, upward_at}

truth_by_values : (w : World) (xs ys : List Bool) (s : Shape) → ((c : ℕ) → Among c (children s) → get_or xs c false ≡ get_or ys c false) → truth w xs s ≡ truth w ys s
truth_by_values w xs ys (lit v on) h = refl
truth_by_values w xs ys (all cs) h = every_same _ _ cs h
truth_by_values w xs ys (fork v a b) h = ap₂ ◌||◌ (h a (inl refl)) (h b (inr (inl refl)))
truth_by_values w xs ys top h = refl
truth_by_values w xs ys bottom h = refl

mention_by_values : (xs ys : List Vars) (s : Shape) → ((c : ℕ) → Among c (children s) → get_or xs c none ≡ get_or ys c none) → mention xs s ≡ mention ys s
mention_by_values xs ys (lit v on) h = refl
mention_by_values xs ys (all cs) h = fun_ext (λ x. some_same _ _ cs (λ c m. ap (λ (s : Vars). s x) (h c m)))
mention_by_values xs ys (fork v a b) h = fun_ext (λ x. ap₂ (λ (s t : Vars). s x || t x) (h a (inl refl)) (h b (inr (inl refl))))
mention_by_values xs ys top h = refl
mention_by_values xs ys bottom h = refl

module _ (ss : List Shape) (ordered : Ordered ss) where
  pub holds_at : (w : World) (i : ℕ) → true_at ss w i ≡ truth w (upward (truth w) ss) (node ss i)
  holds_at w = upward_at (truth w) false (record { by_values = truth_by_values w; at_bottom = λ _. refl }) ss ordered

  pub about_at : (i : ℕ) → about ss i ≡ mention (mentions ss) (node ss i)
  about_at = upward_at mention none (record { by_values = mention_by_values; at_bottom = λ _. refl }) ss ordered

  -- a node mentions variables of the table alone
  pub about_known : (rs : Roles) → KnownVariables rs ss → (i v : ℕ) → about ss i v ≡ true → Known rs v
  about_known rs known = by_children ss ordered (λ i. (v : ℕ) → about ss i v ≡ true → Known rs v)
      (λ i below v e. step i (node ss i) refl below v (rw (about_at i) at e))
    where
      step : (i : ℕ) (s : Shape) → node ss i ≡ s → ((c : ℕ) → Among c (children s) → (v : ℕ) → about ss c v ≡ true → Known rs v)
          → (v : ℕ) → mention (mentions ss) s v ≡ true → Known rs v
      step i (lit x on) is below v e = rw (eqb-true v x e) (known.0 i x on is)
      step i (all cs) is below v e = let one = some_at (λ c. about ss c v) cs e in below one.0 one.1 v one.2
      step i (fork x a b) is below v e =
          elim (or_cases (about ss a v) (about ss b v) e) [ inl t ↦ below a (inl refl) v t | inr t ↦ below b (inr (inl refl)) v t ]
      step i top is below v e = absurd (false≢true e)
      step i bottom is below v e = absurd (false≢true e)

  -- two worlds that agree on what s mentions give it one truth, if that holds of its children
  shape_local : (u w : World) (s : Shape) → ((c : ℕ) → Among c (children s) → ((x : ℕ) → about ss c x ≡ true → u x ≡ w x) → true_at ss u c ≡ true_at ss w c)
      → ((x : ℕ) → mention (mentions ss) s x ≡ true → u x ≡ w x) → truth u (upward (truth u) ss) s ≡ truth w (upward (truth w) ss) s
  shape_local u w (lit v on) h g = ap (λ b. same b on) (g v (eq-eqb v v refl))
  shape_local u w (all cs) h g = every_same _ _ cs (λ c m. h c m (λ x e. g x (some_among (λ d. about ss d x) cs c m e)))
  shape_local u w (fork v a b) h g =
      ap₂ ◌||◌ (h a (inl refl) (λ x e. g x (or_left _ _ e))) (h b (inr (inl refl)) (λ x e. g x (or_right (about ss a x) _ e)))
  shape_local u w top h g = refl
  shape_local u w bottom h g = refl

  pub ordered_local : LocalTruth ss
  ordered_local i u w = by_children ss ordered (λ j. ((x : ℕ) → about ss j x ≡ true → u x ≡ w x) → true_at ss u j ≡ true_at ss w j) (λ j below g.
      holds_at u j
      ∙ shape_local u w (node ss j) below (λ x e. g x (ap (λ (m : Vars). m x) (about_at j) ∙ e))
      ∙ sym (holds_at w j)) i

  -- a true node that is s makes the step true at s
  truth_at : (w : World) (i : ℕ) (s : Shape) → node ss i ≡ s → true_at ss w i ≡ true → truth w (upward (truth w) ss) s ≡ true
  truth_at w i s e t = rw e at (sym (holds_at w i) ∙ t)

  leaf_decides : (w : World) (v : ℕ) (b : Bool) (i : ℕ) → node ss i ≡ lit v b → true_at ss w i ≡ true → w v ≡ b
  leaf_decides w v b i e t = (decides_same (w v) b).0 (truth_at w i (lit v b) e t)

  -- a node with a literal is true only where the literal is
  pub literal_decides : (w : World) (v : ℕ) (b : Bool) (i : ℕ) → HasLiteral ss v b i → true_at ss w i ≡ true → w v ≡ b
  literal_decides w v b i (inl e) t = leaf_decides w v b i e t
  literal_decides w v b i (inr h) t =
      leaf_decides w v b h.1 h.4 (every_at (true_at ss w) h.0 (truth_at w i (all h.0) h.2 t) h.1 h.3)

  pub decisions_exclude : Decisions ss → Deterministic ss
  decisions_exclude decisions w i v a b e on off =
      let d = decisions i v a b e in true≢false (sym (literal_decides w v true a d.0 on) ∙ literal_decides w v false b d.1 off)

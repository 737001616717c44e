-- The counting pass gives the selection's figure: the chances are set one after the other.
use Rattle.std.specs.List.{AllByRecursion, list_all, list_any}
use Rattle.std.proofs.Common.{◌≡◌, ℕ, ◌-◌, Bool, true, false, cond, not, ◌&&◌, ◌||◌, eqb, List, [], ◌∷◌, map, length, sym, refl, ap, ◌∙◌, subst, ap₂, inl, inr}
use Rattle.std.proofs.lemmas.Bool.{both_ways, cases_Bool, cases_eq, cond-true, cond-false, eq-eqb, eqb-true, ne_eqb, or_from}
use Rattle.kinds.specs.Semiring.{Semiring, Laws}
use Rattle.kinds.proofs.Algebra.{sum_zero, product_one, product_zero}
use Rattle.table.specs.Circuit.{Shape, lit, all, fork, top, bottom, World, upward, same, truth, satisfied, node, true_at}
use Rattle.table.specs.Count.{put, sum_over, weight, scenario_weight, figure}
use Rattle.table.specs.Facts.{Among, Known, Proper}
use Rattle.table.specs.Sound.{Roles, is_option, chances, sound, verdict}
use Rattle.table.proofs.Listed.{some_at, some_among}
use Rattle.table.proofs.Numbers.{Distinct, listed_role, role_listed, chances_distinct}
use Rattle.table.proofs.Sounds.{sound_proper}
use Rattle.table.proofs.Truths.{holds_at, decisions_exclude}
use Rattle.table.proofs.Upward.{by_children, root_last}
use Rattle.passes.specs.Bounding.{CountsFigure}
use Rattle.passes.specs.Passes.{times, value_at, count, counts}
use Rattle.passes.specs.Ways.{made, indicator, sums, count_way}
use Rattle.passes.proofs.Made.{equal, made_related, made_same, upward_made, count_made}
use Rattle.passes.proofs.Splits.{Solves, Split, split_nodes}
use Rattle.passes.specs.Problem.{Problem}

some_none : {A : Type 0} (p : A → Bool) (xs : List A) → AllByRecursion (λ x. p x ≡ false) xs → list_any p xs ≡ false
some_none p [] h = refl
some_none p (x ∷ xs) h = or_from (p x) (list_any p xs) h.0 (some_none p xs h.1)

-- an option is not among the chances
option_apart : (rs : Roles) (v : ℕ) → is_option rs v ≡ true → list_any (eqb v) (chances rs) ≡ false
option_apart rs v o = elim (cases_Bool (list_any (eqb v) (chances rs))) [
  | inl t ↦ (let c = some_at (eqb v) (chances rs) t in
      absurd (both_ways (is_option rs v) (rw (eqb-true v c.0 c.2) (listed_role rs false c.0 c.1).1) o))
  | inr f ↦ f
]

module _ {F : Type 0} {R : Semiring F} (laws : Laws R) where
  indicator_every : {A : Type 0} (p : A → Bool) (xs : List A) → indicator R (list_all p xs) ≡ times R (map (λ x. indicator R (p x)) xs)
  indicator_every p [] = refl
  indicator_every p (x ∷ xs) = both (p x) (list_all p xs) ∙ ap (R.product (indicator R (p x))) (indicator_every p xs)
    where
      both : (a b : Bool) → indicator R (a && b) ≡ R.product (indicator R a) (indicator R b)
      both true b = sym (laws.one_product (indicator R b))
      both false b = sym (laws.zero_product (indicator R b))

  indicator_or : (a b : Bool) → (a ≡ true → b ≡ true → ⊥) → indicator R (a || b) ≡ R.sum (indicator R a) (indicator R b)
  indicator_or true true e = absurd (e refl refl)
  indicator_or true false e = sym (sum_zero laws R.one)
  indicator_or false b e = sym (laws.zero_sum (indicator R b))

  one_side : (c : Bool → F) (on : Bool) → c on ≡ R.sum (R.product (c true) (indicator R on)) (R.product (c false) (indicator R (not on)))
  one_side c true = sym (ap₂ R.sum (product_one laws (c true)) (product_zero laws (c false)) ∙ sum_zero laws (c true))
  one_side c false = sym (ap₂ R.sum (product_zero laws (c true)) (product_one laws (c false)) ∙ laws.zero_sum (c false))

  -- a factor goes into a sum over settings that leave v as it is
  over_scaled : (a : F) (v : ℕ) (vs : List ℕ) → AllByRecursion (λ x. eqb v x ≡ false) vs → (f g : World → F) (w : World)
      → ((u : World) → u v ≡ w v → R.product a (f u) ≡ g u) → R.product a (sum_over R vs w f) ≡ sum_over R vs w g
  unfolding sum_over
  over_scaled a v [] apart f g w h = h w refl
  over_scaled a v (x ∷ xs) apart f g w h =
      let more : (b : Bool) → R.product a (sum_over R xs (put w x b) f) ≡ sum_over R xs (put w x b) g
      = λ b. over_scaled a v xs apart.1 f g (put w x b) (λ u e. h u (e ∙ cond-false (eqb v x) b (w v) apart.0)) in
      laws.distributes a _ _ ∙ ap₂ R.sum (more true) (more false)

module _ {F : Type 0} (R : Semiring F) (laws : Laws R) (sheet : List F) where
  -- a literal's value where the variables vs have their weights, and the others are as in w
  abbrev leaf : List ℕ → World → ℕ → Bool → F
  leaf vs w x on = cond (list_any (eqb x) vs) (weight R sheet x on) (indicator R (same (w x) on))

  leaf_split : (v : ℕ) (vs : List ℕ) → Distinct (v ∷ vs) → (w : World) (u : ℕ) (on : Bool)
      → Split R (weight R sheet v) (eqb v u) (leaf (v ∷ vs) w u on) (λ b. leaf vs (put w v b) u on)
  leaf_split v vs distinct w u on = elim (cases_eq v u) [
    | inl e ↦ subst (λ x. Split R (weight R sheet v) (eqb v x) (leaf (v ∷ vs) w x on) (λ b. leaf vs (put w v b) x on)) e here
    | inr d ↦ (let apart : eqb u v ≡ false = ne_eqb u v (λ q. d (sym q)) in rw (ne_eqb v u d) (λ b. rw apart refl))
  ]
    where
      here : Split R (weight R sheet v) (eqb v v) (leaf (v ∷ vs) w v on) (λ b. leaf vs (put w v b) v on)
      here = rw (eq-eqb v v refl, some_none (eqb v) vs distinct.0) (one_side laws (weight R sheet v) on)

  -- what `figure` adds up
  abbrev weighed : List Shape → List ℕ → World → F
  weighed ss vs u = cond (satisfied ss u) (scenario_weight R sheet vs u) R.zero

  weighed_more : (v : ℕ) (vs : List ℕ) (b : Bool) (u : World) → u v ≡ b → (t : Bool) →
      R.product (weight R sheet v b) (cond t (scenario_weight R sheet vs u) R.zero) ≡ cond t (scenario_weight R sheet (v ∷ vs) u) R.zero
  unfolding scenario_weight
  weighed_more v vs b u e true = ap (λ t. R.product (weight R sheet v t) (scenario_weight R sheet vs u)) (sym e)
  weighed_more v vs b u e false = product_zero laws (weight R sheet v b)

  module _ (rs : Roles) (ss : List Shape) (proper : Proper rs ss) where
    -- each node's value, with the values that g gives to literals
    abbrev total : (ℕ → Bool → F) → ℕ → F
    total g = value_at R (upward (λ done. made R (sums R g) (value_at R done)) ss)

    total_solves : (g : ℕ → Bool → F) → Solves R ss g (total g)
    total_solves g = upward_made R (sums R g) (λ done. made R (sums R g) (value_at R done)) (λ _ _. refl) ss proper.ordered

    one_solution : (g : ℕ → Bool → F) (x y : ℕ → F) → Solves R ss g x → Solves R ss g y → (i : ℕ) → x i ≡ y i
    one_solution g x y x-at y-at = by_children ss proper.ordered (λ i. x i ≡ y i) (λ i below.
        x-at i ∙ made_same R (sums R g) x y (node ss i) below ∙ sym (y-at i))

    -- with every variable as in w, a node counts one where it is true
    truth_solves : (w : World) → Solves R ss (leaf [] w) (λ i. indicator R (true_at ss w i))
    truth_solves w i = ap (indicator R) (holds_at ss proper.ordered w i) ∙ at (node ss i) refl
      where
        at : (s : Shape) → node ss i ≡ s → indicator R (truth w (upward (truth w) ss) s) ≡ made R (sums R (leaf [] w)) (λ c. indicator R (true_at ss w c)) s
        at (lit v on) is = refl
        at (all cs) is = indicator_every laws (true_at ss w) cs
        at (fork v a b) is = indicator_or laws (true_at ss w a) (true_at ss w b) (decisions_exclude ss proper.ordered proper.decisions w i v a b is)
        at top is = refl
        at bottom is = refl

    root_figure : (vs : List ℕ) → Distinct vs → ((v : ℕ) → Among v vs → Among v (chances rs)) → (w : World) (x : ℕ → F)
        → Solves R ss (leaf vs w) x → x (length ss - 1) ≡ sum_over R vs w (weighed ss vs)
    unfolding sum_over scenario_weight
    root_figure [] distinct among w x x-at =
        one_solution (leaf [] w) x (λ i. indicator R (true_at ss w i)) x-at (truth_solves w) (length ss - 1)
        ∙ ap (indicator R) (sym (root_last (truth w) false ss))
    root_figure (v ∷ vs) distinct among w x x-at =
        let chance = among v (inl refl) in
        let y : Bool → ℕ → F = λ b. total (leaf vs (put w v b)) in
        let split = split_nodes laws (weight R sheet v) rs ss proper v chance x y (leaf (v ∷ vs) w) (λ b. leaf vs (put w v b))
        (leaf_split v vs distinct w) x-at (λ b. total_solves (leaf vs (put w v b))) (length ss - 1) in
        let mentioned = subst (λ t. Split R (weight R sheet v) t (x (length ss - 1)) (λ b. y b (length ss - 1))) (proper.total v chance) split in
        let side : (b : Bool) → R.product (weight R sheet v b) (y b (length ss - 1)) ≡ sum_over R vs (put w v b) (weighed ss (v ∷ vs))
        = λ b. ap (R.product (weight R sheet v b)) (root_figure vs distinct.1 (λ u m. among u (inr m)) (put w v b) (y b) (total_solves (leaf vs (put w v b))))
        ∙ over_scaled laws (weight R sheet v b) v vs distinct.0 (weighed ss vs) (weighed ss (v ∷ vs)) (put w v b)
        (λ u e. weighed_more v vs b u (e ∙ cond-true _ b (w v) (eq-eqb v v refl)) (satisfied ss u)) in
        mentioned ∙ ap₂ R.sum (side true) (side false)

    -- before any chance is set
    first_leaf : (w : World) (v : ℕ) (on : Bool) → Known rs v
        → cond (is_option rs v) (indicator R (same (w v) on)) (weight R sheet v on) ≡ leaf (chances rs) w v on
    first_leaf w v on known = elim (cases_Bool (is_option rs v)) [
      | inl o ↦ rw (o, option_apart rs v o) refl
      | inr c ↦ rw (c, some_among (eqb v) (chances rs) v (role_listed rs false v known c) (eq-eqb v v refl)) refl
    ]

module _ {F : Type 0} (R : Semiring F) (laws : Laws R) (p : Problem F) (accepted : verdict p.roles p.circuit ≡ sound) where
  abbrev proper : Proper p.roles p.circuit
  proper = sound_proper p.roles p.circuit accepted

  count_solves : (w : World) → Solves R p.circuit (leaf R laws p.sheet (chances p.roles) w) (value_at R (counts R p w))
  count_solves w i =
      let x = value_at R (counts R p w) in
      upward_made R (count_way R p w) (count R p w) (count_made R p w) p.circuit proper.ordered i
      ∙ made_related (equal R) x x (count_way R p w) (sums R (leaf R laws p.sheet (chances p.roles) w)) (node p.circuit i)
      (λ v on is. first_leaf R laws p.sheet p.roles p.circuit proper w v on (proper.known_variables.0 i v on is))
      (λ v a b _. ap₂ R.sum) (λ _. refl) (λ c _. refl)

  pub counts_figure : CountsFigure R p
  unfolding figure
  counts_figure w =
      root_last (count R p w) R.zero p.circuit
      ∙ root_figure R laws p.sheet p.roles p.circuit proper (chances p.roles) (chances_distinct p.roles) (λ v m. m) w (value_at R (counts R p w)) (count_solves w)

-- The figure of a selection that keeps the holds ranks no higher than the bound.
use Rattle.std.proofs.Common.{◌≡◌, ℕ, ◌-◌, Bool, true, false, cond, List, [], ◌∷◌, map, length, sym, refl, ap, ◌∙◌, subst, subst₂, inl, inr}
use Rattle.std.proofs.lemmas.Bool.{eqb-true, false≢true, true≢false, cond_both, cond-true, cond-false}
use Rattle.kinds.specs.Semiring.{Semiring, Laws, greater}
use Rattle.kinds.proofs.Algebra.{sum_zero, product_zero}
use Rattle.kinds.proofs.Ranks.{Upto, upto_refl, upto_same, upto_greater, upto_lesser, sum_monotone, first_monotone, test_upto_one}
use Rattle.table.specs.Circuit.{Shape, lit, all, top, World, same, node, about}
use Rattle.table.specs.Facts.{Among, Ordered, HasLiteral, Proper}
use Rattle.table.specs.Sound.{is_option, children, sound, verdict}
use Rattle.table.proofs.Sounds.{sound_proper}
use Rattle.table.proofs.Upward.{by_children, root_last}
use Rattle.passes.specs.declared.holds.Entry.{Entry}
use Rattle.passes.specs.declared.holds.Entry.TheVariants.{Free, On, Off}
use Rattle.passes.specs.Holding.{entry, is_free, denies, Keeps}
use Rattle.passes.specs.Passes.{times, value_at, count, counts, bound}
use Rattle.passes.specs.Bounding.{Covers}
use Rattle.passes.specs.Ways.{Way, made, joined, count_way, plain_way, side_way}
use Rattle.passes.proofs.Made.{ranked, made_related, upward_made, count_made}
use Rattle.passes.proofs.PairParts.{FreeIn, worth, beneath, side_here, bound_last, free_mentioned, side_is, value_above}
use Rattle.passes.proofs.Figures.{counts_figure}
-- a product with a zero factor
use Rattle.passes.specs.Problem.{Problem}

times_zero : {F : Type 0} {R : Semiring F} → Laws R → (f : ℕ → F) (cs : List ℕ) (c : ℕ) → Among c cs → f c ≡ R.zero → times R (map f cs) ≡ R.zero
times_zero laws f [] c m e = absurd m
times_zero {R = R} laws f (d ∷ cs) c (inl is) e = ap (λ x. R.product x (times R (map f cs))) (ap f is ∙ e) ∙ laws.zero_product _
times_zero {R = R} laws f (d ∷ cs) c (inr m) e = ap (R.product (f d)) (times_zero laws f cs c m e) ∙ product_zero laws (f d)

-- a literal's count, where the selection keeps the entry e of its variable
kept_literal : {F : Type 0} {R : Semiring F} → Laws R → (e : Entry) (x on : Bool) → (e ≡ On → x ≡ true) × (e ≡ Off → x ≡ false)
    → Upto R (cond (same x on) R.one R.zero) (cond (denies e on) R.zero R.one)
kept_literal laws Free x on keeps = test_upto_one laws (same x on)
kept_literal laws On true true keeps = upto_refl laws _
kept_literal laws On true false keeps = upto_refl laws _
kept_literal laws On false on keeps = absurd (false≢true (keeps.0 refl))
kept_literal laws Off true on keeps = absurd (true≢false (keeps.1 refl))
kept_literal laws Off false true keeps = upto_refl laws _
kept_literal laws Off false false keeps = upto_refl laws _

module _ {F : Type 0} (R : Semiring F) (p : Problem F) (w : World) where
  -- node i's count
  abbrev pub counted : ℕ → F
  counted = value_at R (counts R p w)

  module _ (ordered : Ordered p.circuit) where
    pub count_at : (i : ℕ) → counted i ≡ made R (count_way R p w) counted (node p.circuit i)
    count_at = upward_made R (count_way R p w) (count R p w) (count_made R p w) p.circuit ordered

    count_is : (i : ℕ) (s : Shape) → node p.circuit i ≡ s → counted i ≡ made R (count_way R p w) counted s
    count_is i s is = count_at i ∙ ap (made R (count_way R p w) counted) is

    -- a branch with the literal of an option that is selected the other way counts nothing
    module _ (laws : Laws R) (v : ℕ) (b : Bool) (option : is_option p.roles v ≡ true) (other : same (w v) b ≡ false) where
      leaf_zero : (c : ℕ) → node p.circuit c ≡ lit v b → counted c ≡ R.zero
      leaf_zero c is = count_is c (lit v b) is ∙ cond-true _ _ _ option ∙ cond-false _ _ _ other

      branch_zero : (c : ℕ) → HasLiteral p.circuit v b c → counted c ≡ R.zero
      branch_zero c (inl is) = leaf_zero c is
      branch_zero c (inr has) = count_is c (all has.0) has.2 ∙ times_zero laws counted has.0 has.1 has.3 (leaf_zero has.1 has.4)

    -- a fork, with bounds on its branches' counts
    fork_upto : Laws R → (v a b : ℕ) → HasLiteral p.circuit v true a × HasLiteral p.circuit v false b → (x y : F) → Upto R (counted a) x → Upto R (counted b) y
        → Upto R (R.sum (counted a) (counted b)) (cond (is_option p.roles v) (greater R x y) (R.sum x y))
    fork_upto laws v a b has x y low-a low-b =
        cond_both (is_option p.roles v) _ _ (Upto R (R.sum (counted a) (counted b))) (λ option. by option (w v) refl) (λ _. sum_monotone laws _ _ _ _ low-a low-b)
      where
        side : Bool → F
        side t = cond t x y

        by : is_option p.roles v ≡ true → (t : Bool) → w v ≡ t → Upto R (R.sum (counted a) (counted b)) (greater R x y)
        by option true e =
            rw (branch_zero laws v false option (ap (λ t. same t false) e) b has.1, sum_zero laws (counted a))
            (laws.trans _ _ _ low-a (upto_greater laws side true))
        by option false e =
            rw (branch_zero laws v true option (ap (λ t. same t true) e) a has.0, laws.zero_sum (counted b))
            (laws.trans _ _ _ low-b (upto_greater laws side false))

module _ {F : Type 0} (R : Semiring F) (laws : Laws R) (p : Problem F) (proper : Proper p.roles p.circuit) (w : World)
    (keeps : Keeps p.roles p.holds w) where
  abbrev amount : ℕ → F
  amount = counted R p w

  -- node i's count ranks no higher than its value, and than its value under the selection's side of each free option
  abbrev Covered : ℕ → Type 0
  Covered i =
      Upto R (amount i) (worth R p i)
      × ((v : ℕ) → is_option p.roles v ≡ true → is_free (entry p.holds v) ≡ true → Upto R (amount i) (beneath R p (w v) v i))

  module _ (i : ℕ) (below : (c : ℕ) → Among c (children (node p.circuit i)) → Covered c) where
    -- what a way makes of the node, with the fork's step that both ways share
    amount_upto : (way : Way F) (f : ℕ → F) → way.join ≡ joined R p.roles → ((c : ℕ) → Among c (children (node p.circuit i)) → Upto R (amount c) (f c))
        → ((x : ℕ) (on : Bool) → node p.circuit i ≡ lit x on → Upto R ((count_way R p w).leaf x on) (way.leaf x on))
        → (node p.circuit i ≡ top → Upto R R.one way.edge) → Upto R (amount i) (made R way f (node p.circuit i))
    amount_upto way f joins low leaves edges = laws.trans _ _ _ (upto_same laws (count_at R p w proper.ordered i))
        (made_related (ranked laws) amount f (count_way R p w) way (node p.circuit i) leaves
        (λ x a b is low-a low-b. subst (λ (j : ℕ → F → F → F). Upto R (R.sum (amount a) (amount b)) (j x (f a) (f b))) (sym joins)
        (fork_upto R p w proper.ordered laws x a b (proper.decisions i x a b is) (f a) (f b) low-a low-b))
        edges low)

    side_covers : (v : ℕ) → FreeIn p i v → Upto R (amount i) (side_here R p i (w v) v)
    side_covers v f = amount_upto (side_way R p.roles (w v)) (beneath R p (w v) v) refl
        (λ c m. (below c m).1 v f.of_option f.of_free)
        (λ x on is.
        let here : v ≡ x = eqb-true v x (free_mentioned R p proper.ordered i v f (lit x on) is) in
        rw (← here) (upto_same laws (cond-true _ _ _ f.of_option)))
        (λ is. absurd (false≢true (free_mentioned R p proper.ordered i v f top is)))

    value_covers : Upto R (amount i) (worth R p i)
    value_covers = value_above R p proper.ordered i laws (amount i)
        (amount_upto (plain_way R p) (worth R p) refl (λ c m. (below c m).0)
        (λ x on _. first_monotone laws (is_option p.roles x) _ _ _ (λ option. kept_literal laws (entry p.holds x) (w x) on (keeps x option)))
        (λ _. upto_refl laws _))
        (λ v f. (w v, side_covers v f))

    covered_here : Covered i
    covered_here = (
      value_covers,
      λ v option untaken. cond_both (about p.circuit i v) _ _ (Upto R (amount i))
          (λ mentioned.
          let f : FreeIn p i v = record { of_option = option; of_free = untaken; of_node = mentioned } in
          upto_lesser laws _ _ _ value_covers (subst (Upto R _) (sym (side_is R p proper.ordered i v f (w v))) (side_covers v f)))
          (λ _. value_covers),
    )

  covered : (i : ℕ) → Covered i
  covered = by_children p.circuit proper.ordered Covered covered_here

pub covers : {F : Type 0} (R : Semiring F) → Laws R → (p : Problem F) → verdict p.roles p.circuit ≡ sound → Covers R p (bound R p)
covers R laws p accepted w keeps =
    subst₂ (Upto R) (sym (root_last (count R p w) R.zero p.circuit) ∙ counts_figure R laws p accepted w) (sym (bound_last R p))
    (covered R laws p (sound_proper p.roles p.circuit accepted) w keeps (length p.circuit - 1)).0

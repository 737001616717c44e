-- The bound ranks no higher than the plain bound, nor, where every option is held, than the figure; without free options
-- it is the plain bound.
use Rattle.std.proofs.Common.{◌≡◌, ℕ, ◌-◌, Bool, true, false, cond, List, length, sym, refl, ap, ◌∙◌, subst, subst₂, inl, inr}
use Rattle.std.proofs.lemmas.Bool.{eqb-true, false≢true, both_ways, cases_Bool, cond_both, or_left, or_right}
use Rattle.kinds.specs.Semiring.{Semiring, Laws}
use Rattle.kinds.proofs.Ranks.{Upto, upto_refl, greater_upto_sum, lesser_upto, sum_monotone, joined_monotone, first_monotone, test_upto_one}
use Rattle.table.specs.Circuit.{Shape, lit, all, fork, top, bottom, Vars, same, mention, mentions, node, about}
use Rattle.table.specs.Facts.{Among, Ordered}
use Rattle.table.specs.Sound.{is_option, children, sound, verdict}
use Rattle.table.proofs.Listed.{some_among}
use Rattle.table.proofs.Sounds.{sound_proper}
use Rattle.table.proofs.Truths.{about_at}
use Rattle.table.proofs.Upward.{by_children, root_last}
use Rattle.passes.specs.declared.holds.Entry.{Entry}
use Rattle.passes.specs.declared.holds.Entry.TheVariants.{Free, On, Off}
use Rattle.passes.specs.Holding.{entry, is_free, denies, held_on, selected, free, Complete}
use Rattle.passes.specs.Passes.{value_at, count, plain, plains, bound}
use Rattle.passes.specs.Bounding.{Tightens, Meets, PlainWhereHeld, Bounded}
use Rattle.passes.specs.Ways.{Way, made, joined, count_way, plain_way, side_way}
use Rattle.passes.proofs.Made.{ranked, made_related, made_same, upward_made, plain_made}
use Rattle.passes.proofs.PairParts.{part, worth, beneath, bound_last, free_mentioned, value_plain, value_below}
use Rattle.passes.proofs.Figures.{counts_figure}
use Rattle.passes.proofs.Above.{counted, count_at, covers}
use Rattle.passes.specs.Problem.{Problem}

free_denies : (e : Entry) (b : Bool) → is_free e ≡ true → denies e b ≡ false
free_denies Free b f = refl
free_denies On b f = absurd (false≢true f)
free_denies Off b f = absurd (false≢true f)

-- a literal of an option that is held
held_literal : {F : Type 0} {R : Semiring F} → Laws R → (e : Entry) (on : Bool) → is_free e ≡ false
    → Upto R (cond (denies e on) R.zero R.one) (cond (same (held_on e) on) R.one R.zero)
held_literal laws Free on f = absurd (false≢true (sym f))
held_literal laws On true f = upto_refl laws _
held_literal laws On false f = upto_refl laws _
held_literal laws Off true f = upto_refl laws _
held_literal laws Off false f = upto_refl laws _

-- a node mentions what its children mention
child_mentions : (ss : List Shape) (v : ℕ) (s : Shape) (c : ℕ) → Among c (children s) → about ss c v ≡ true → mention (mentions ss) s v ≡ true
child_mentions ss v (lit x on) c m e = absurd m
child_mentions ss v (all cs) c m e = some_among (λ d. about ss d v) cs c m e
child_mentions ss v (fork x a b) c (inl is) e = or_left (about ss a v) _ (rw is e)
child_mentions ss v (fork x a b) c (inr (inl is)) e = or_right (about ss a v) _ (rw is e)
child_mentions ss v (fork x a b) c (inr (inr m)) e = absurd m
child_mentions ss v top c m e = absurd m
child_mentions ss v bottom c m e = absurd m

module _ {F : Type 0} (R : Semiring F) (p : Problem F) (ordered : Ordered p.circuit) where
  -- node i's value in the pair pass, and in the plain pass
  abbrev value : ℕ → F
  value = worth R p

  abbrev plainly : ℕ → F
  plainly = value_at R (plains R p)

  plain_at : (i : ℕ) → plainly i ≡ made R (plain_way R p) plainly (node p.circuit i)
  plain_at = upward_made R (plain_way R p) (plain R p) (plain_made R p) p.circuit ordered

  value_same : (i : ℕ) → ((v : ℕ) → Among v (free p.roles p.holds) → about p.circuit i v ≡ false) → value i ≡ plainly i
  value_same = by_children p.circuit ordered (λ i. ((v : ℕ) → Among v (free p.roles p.holds) → about p.circuit i v ≡ false) → value i ≡ plainly i) (λ i below absent.
      value_plain R p ordered i absent
      ∙ made_same R (plain_way R p) value plainly (node p.circuit i) (λ c m. below c m (λ v among.
      elim (cases_Bool (about p.circuit c v)) [
        | inl on ↦ absurd (both_ways _ (absent v among) (ap (λ (s : Vars). s v) (about_at p.circuit ordered i) ∙ child_mentions p.circuit v (node p.circuit i) c m on))
        | inr off ↦ off
      ]))
      ∙ sym (plain_at i))

  module _ (laws : Laws R) where
    -- a way that joins branches as the plain pass does, and ranks no higher than it at the leaves
    plain_above : (i : ℕ) (way : Way F) (f : ℕ → F) → way.join ≡ joined R p.roles → ((c : ℕ) → Among c (children (node p.circuit i)) → Upto R (f c) (plainly c))
        → ((x : ℕ) (on : Bool) → node p.circuit i ≡ lit x on → Upto R (way.leaf x on) ((plain_way R p).leaf x on))
        → Upto R way.edge R.one → Upto R (made R way f (node p.circuit i)) (plainly i)
    plain_above i way f joins low leaves edges = subst (Upto R _) (sym (plain_at i))
        (made_related (ranked laws) f plainly way (plain_way R p) (node p.circuit i) leaves
        (λ x a b _ low-a low-b. subst (λ (j : ℕ → F → F → F). Upto R (j x (f a) (f b)) (joined R p.roles x (plainly a) (plainly b))) (sym joins)
        (joined_monotone laws (is_option p.roles x) _ _ _ _ low-a low-b))
        (λ _. edges) low)

    under_upto : (b : Bool) (v c : ℕ) → Upto R (beneath R p b v c) (value c)
    under_upto b v c =
        cond_both (about p.circuit c v) _ _ (λ x. Upto R x (value c)) (λ _. lesser_upto laws (value c) ((part R p c).side b v)) (λ _. upto_refl laws _)

    value_upto : (i : ℕ) → Upto R (value i) (plainly i)
    value_upto = by_children p.circuit ordered (λ i. Upto R (value i) (plainly i)) (λ i below. value_below R p ordered i laws (plainly i)
        (plain_above i (plain_way R p) value refl below (λ _ _ _. upto_refl laws _) (upto_refl laws _))
        (λ v f b. plain_above i (side_way R p.roles b) (beneath R p b v) refl (λ c m. laws.trans _ _ _ (under_upto b v c) (below c m))
        (λ x on is.
        let here : v ≡ x = eqb-true v x (free_mentioned R p ordered i v f (lit x on) is) in
        rw (← here, f.of_option, free_denies (entry p.holds v) on f.of_free) (test_upto_one laws (same b on)))
        (laws.zero_least _)))

    -- with every option held, the plain value ranks no higher than the count
    plain_upto : Complete p.roles p.holds → (i : ℕ) → Upto R (plainly i) (counted R p (selected p.holds) i)
    plain_upto complete = by_children p.circuit ordered (λ i. Upto R (plainly i) (counted R p (selected p.holds) i)) (λ i below.
        subst₂ (Upto R) (sym (plain_at i)) (sym (count_at R p (selected p.holds) ordered i))
        (made_related (ranked laws) plainly (counted R p (selected p.holds)) (plain_way R p) (count_way R p (selected p.holds)) (node p.circuit i)
        (λ v on _. first_monotone laws (is_option p.roles v) _ _ _ (λ option. held_literal laws (entry p.holds v) on (complete v option)))
        (λ v a b _ low-a low-b. laws.trans _ _ _
        (cond_both (is_option p.roles v) _ _ (λ x. Upto R x (R.sum (plainly a) (plainly b))) (λ _. greater_upto_sum laws _ _) (λ _. upto_refl laws _))
        (sum_monotone laws _ _ _ _ low-a low-b))
        (λ _. upto_refl laws _) below))

pub plain_where_held : {F : Type 0} (R : Semiring F) (p : Problem F) → verdict p.roles p.circuit ≡ sound → PlainWhereHeld R p
plain_where_held R p accepted = value_same R p (sound_proper p.roles p.circuit accepted).ordered

module _ {F : Type 0} (R : Semiring F) (laws : Laws R) (p : Problem F) (accepted : verdict p.roles p.circuit ≡ sound) where
  pub tightens : Tightens R p (bound R p)
  tightens =
      subst₂ (Upto R) (sym (bound_last R p)) (sym (root_last (plain R p) R.zero p.circuit))
      (value_upto R p (sound_proper p.roles p.circuit accepted).ordered laws (length p.circuit - 1))

  pub meets : Meets R p (bound R p)
  meets complete = laws.trans _ _ _ tightens
      (subst₂ (Upto R) (sym (root_last (plain R p) R.zero p.circuit))
      (sym (root_last (count R p (selected p.holds)) R.zero p.circuit) ∙ counts_figure R laws p accepted (selected p.holds))
      (plain_upto R p (sound_proper p.roles p.circuit accepted).ordered laws complete (length p.circuit - 1)))

  -- all that is said of the bound
  pub bounded : Bounded R p (bound R p)
  bounded = record { is_bound = refl; covers = covers R laws p accepted; tight = tightens }

-- What number order and strongest lean answer.
use Rattle.std.specs.Prelude.{◌≡◌, ℕ, ◌<◌, ◌≤◌, Bool, true, false, ltb, List, [], ◌∷◌, nat_lt, refl}
use Rattle.std.specs.List.{list_all, filter}
use Rattle.std.proofs.Common.{sym, ap, subst, inl, inr, arith}
use Rattle.std.proofs.lemmas.Bool.{both_ways, and_parts, and_from, cond-true, cond_both, ltb-true}
use Rattle.kinds.specs.Semiring.{Semiring, Laws}
use Rattle.kinds.proofs.Ranks.{Upto, upto_refl, upto_other}
use Rattle.table.specs.Facts.{Among}
use Rattle.passes.proofs.Filters.{filter_empty}
use Rattle.search.specs.Orders.{Lean, numbers, rising, lowest, LowestAnswers, weaker, strongest_of, strongest_or, strongest, Strongest, StrongestAnswers}
use Rattle.search.specs.Lawful.{mentioned_of, strongest_kept}
use Rattle.search.proofs.Rising.{first_below, rising_filter}

pub lowest_answers : (F : Type 0) → LowestAnswers F
lowest_answers F l ls r = (inl refl, least)
  where
    least : (v : ℕ) → Among v (numbers (l ∷ ls)) → l.option ≤ v
    least v (inl e) = omega arith
    least v (inr m) = omega (arith, first_below l.option (numbers ls) r v m)

-- what passes stays in a filter
stays : {A : Type 0} (p : A → Bool) (v : A) (xs : List A) → p v ≡ true → Among v xs → Among v (filter p xs)
stays p v [] t m = m
stays p v (x ∷ xs) t (inl e) = subst (Among v) (sym (cond-true (p x) (x ∷ filter p xs) (filter p xs) (rw e t))) (inl e)
stays p v (x ∷ xs) t (inr m) =
    let rest : Among v (filter p xs) = stays p v xs t m in
    cond_both (p x) (x ∷ filter p xs) (filter p xs) (Among v) (λ _. inr rest) (λ _. rest)

module _ {F : Type 0} (R : Semiring F) where
  -- w ranks no higher than l, and has no higher number if they rank alike
  pub record Before (w l : Lean F) : Type 0 where
    pub upto : Upto R (weaker R w) (weaker R l)
    pub number : Upto R (weaker R l) (weaker R w) → w.option ≤ l.option

  abbrev Leads : Lean F → List (Lean F) → Type 0
  Leads w ls = (x : Lean F) → Among x ls → Before w x

module _ {F : Type 0} {R : Semiring F} (laws : Laws R) where
  -- y comes behind l, which ranks no higher
  leads_behind : (w l y : Lean F) (ys : List (Lean F)) → Upto R (weaker R l) (weaker R y) → l.option < y.option → Leads R w (l ∷ ys) → Leads R w (l ∷ y ∷ ys)
  leads_behind w l y ys low h rest x (inl e) = rest x (inl e)
  leads_behind w l y ys low h rest x (inr (inl e)) =
      let first : Before R w l = rest l (inl refl) in
      subst (Before R w) e (record {
        upto = laws.trans _ _ _ first.upto low;
        number = λ up. omega (arith, first.number (laws.trans _ _ _ low up));
      })
  leads_behind w l y ys low h rest x (inr (inr m)) = rest x (inr m)

  -- l comes before y, which ranks lower
  leads_over : (w l y : Lean F) (ys : List (Lean F)) → R.upto (weaker R l) (weaker R y) ≡ false → Leads R w (y ∷ ys) → Leads R w (l ∷ y ∷ ys)
  leads_over w l y ys above rest x (inl e) =
      let first : Before R w y = rest y (inl refl) in
      subst (Before R w) e (record {
        upto = laws.trans _ _ _ first.upto (upto_other laws above);
        number = λ up. absurd (both_ways _ above (laws.trans _ _ _ up first.upto));
      })
  leads_over w l y ys above rest x (inr m) = rest x m

  strongest_leads : (l : Lean F) (ls : List (Lean F)) → rising (numbers (l ∷ ls)) ≡ true → Leads R (strongest_of R l ls) (l ∷ ls)
  strongest_leads l [] r x (inl e) = subst (Before R l) e (record { upto = upto_refl laws (weaker R l); number = λ _. omega arith })
  strongest_leads l [] r x (inr m) = absurd m
  strongest_leads l (y ∷ ys) r x m =
      let both = and_parts (list_all (ltb l.option) (numbers (y ∷ ys))) (rising (numbers (y ∷ ys))) r in
      let above = and_parts (nat_lt l.option y.option) (list_all (ltb l.option) (numbers ys)) both.0 in
      let rest = and_parts (list_all (ltb y.option) (numbers ys)) (rising (numbers ys)) both.1 in
      cond_both (R.upto (weaker R l) (weaker R y)) l y (λ z. Before R (strongest_of R z ys) x)
      (λ low. leads_behind (strongest_of R l ys) l y ys low (ltb-true _ _ above.0) (strongest_leads l ys (and_from _ _ above.1 rest.1)) x m)
      (λ high. leads_over (strongest_of R y ys) l y ys high (strongest_leads y ys both.1) x m)

  strongest_leans : (ls : List (Lean F)) → rising (numbers ls) ≡ true → (x : Lean F) → Among x ls → x.mentioned ≡ true
      → (zs : List (Lean F)) → mentioned_of ls ≡ zs → (l : Lean F) × Strongest R l ls × (strongest R ls ≡ l.option)
  strongest_leans ls r x m t [] e = absurd (subst (Among x) e (stays (λ l. l.mentioned) x ls t m))
  strongest_leans ls r x m t (y ∷ ys) e =
      let there = strongest_kept R ls y ys e in
      let order : rising (numbers (y ∷ ys)) ≡ true =
      subst (λ zs. rising (numbers zs) ≡ true) e (rising_filter (λ l. l.option) (λ l. l.mentioned) ls r) in
      let leads : Leads R (strongest_of R y ys) (mentioned_of ls) = subst (Leads R (strongest_of R y ys)) (sym e) (strongest_leads y ys order) in (
        strongest_of R y ys,
        record {
          given = there.0;
          by_root = there.1;
          least = λ z n u. (leads z (stays (λ l. l.mentioned) z ls u n)).upto;
          first = λ z n u. (leads z (stays (λ l. l.mentioned) z ls u n)).number;
        },
        ap (strongest_or R (lowest ls)) e,
      )

  pub strongest_answers : StrongestAnswers R
  strongest_answers = record {
    leans = λ ls r x m t. strongest_leans ls r x m t (mentioned_of ls) refl;
    levels = λ ls h. ap (strongest_or R (lowest ls)) (filter_empty (λ l. l.mentioned) ls h);
  }

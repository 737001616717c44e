-- A circuit is found sound if it is proper, and only then.
use Rattle.std.specs.List.{list_all, range_with_len}
use Rattle.std.proofs.Common.{◌≡◌, ℕ, zero, suc, ◌+◌, ◌-◌, ◌<◌, Bool, true, false, List, [], ◌∷◌, length, get_or, Some, None, Decides, Option, refl, subst, inl, inr, add-zero, zero-add, arith}
use Rattle.std.proofs.lemmas.Bool.{false≢true, cases_Bool, cond-true, cond-false}
use Rattle.std.proofs.lemmas.Bool.Decides.{Decides-and, Decides-ltb}
use Rattle.table.specs.declared.fault.Flaw.{Flaw}
use Rattle.table.specs.Circuit.{Shape, lit, all, fork, top, bottom, node, about}
use Rattle.table.specs.Sound.{Roles, Verdict, sound, chances, children, unless, flaw_first, flaw_at, verdict_from, verdict}
use Rattle.table.specs.Facts.{Among, Ordered, Known, Total, KnownVariables, HasLiteral, Proper, Deterministic, LocalTruth}
use Rattle.table.proofs.Listed.{decides_same, decides_every}
use Rattle.table.proofs.Truths.{about_known, ordered_local, decisions_exclude}
use Rattle.table.proofs.Decided.{decides_known, decides_has, Apart, decides_apart, among_known}

-- no flaw is found if P holds, and only then
abbrev Clear : Option Flaw → Type 0 → Type 0
Clear o P = (o ≡ None → P) × (P → o ≡ None)

shown : (f : Flaw) → Some f ≡ None → ⊥
shown f e = let z : ◌≡◌ {A = ℕ} 0 1 = cc in omega arith

clear_unless : {P Q : Type 0} (ok : Bool) (f : Flaw) (rest : Option Flaw) → Decides ok P → Clear rest Q → Clear (unless ok f rest) (P × Q)
clear_unless true f rest p q = (λ e. (p.0 refl, q.0 e), λ h. q.1 h.1)
clear_unless false f rest p q = (λ e. absurd (shown f e), λ h. absurd (false≢true (p.1 h.0)))

clear_last : {P : Type 0} (ok : Bool) (f : Flaw) → Decides ok P → Clear (unless ok f None) P
clear_last true f p = (λ _. p.0 refl, λ _. refl)
clear_last false f p = (λ e. absurd (shown f e), λ h. absurd (false≢true (p.1 h)))

clear_first : (i : ℕ) (o : Option Flaw) (rest : Verdict) → flaw_first i o rest ≡ sound → (o ≡ None) × (rest ≡ sound)
clear_first i None rest e = (refl, e)
clear_first i (Some f) rest e = absurd (let z : ◌≡◌ {A = ℕ} 0 1 = cc in omega arith)

module _ (rs : Roles) (ss : List Shape) where
  -- what node i is if it has no flaw
  abbrev Fine : ℕ → Shape → Type 0
  Fine i (lit v b) = Known rs v
  Fine i (all cs) = ((c : ℕ) → Among c cs → c < i) × Apart (range_with_len 1 (length rs)) ss cs
  Fine i (fork v a b) =
      ((a < i) × (b < i)) × (Known rs v × ((HasLiteral ss v true a × HasLiteral ss v false b) × ((x : ℕ) → Among x (chances rs) → about ss a x ≡ about ss b x)))
  Fine i top = Unit {0}
  Fine i bottom = Unit {0}

  clear_at : (i : ℕ) (s : Shape) → Clear (flaw_at rs ss i s) (Fine i s)
  clear_at i (lit v b) = clear_last _ _ (decides_known rs v)
  clear_at i (all cs) =
      clear_unless _ _ _ (decides_every _ _ (λ c. Decides-ltb c i) cs) (clear_last _ _ (decides_apart (range_with_len 1 (length rs)) ss cs))
  clear_at i (fork v a b) =
      clear_unless _ _ _ (Decides-and _ _ (Decides-ltb a i) (Decides-ltb b i))
      (clear_unless _ _ _ (decides_known rs v)
      (clear_unless _ _ _ (Decides-and _ _ (decides_has ss v true a) (decides_has ss v false b))
      (clear_last _ _ (decides_every _ _ (λ x. decides_same (about ss a x) (about ss b x)) (chances rs)))))
  clear_at i top = (λ _. tt, λ _. refl)
  clear_at i bottom = (λ _. tt, λ _. refl)

  decides_total : Decides (list_all (about ss (length ss - 1)) (chances rs)) (Total rs ss)
  decides_total = decides_every _ _ (λ x. (λ e. e, λ e. e)) (chances rs)

  fine_from : (k : ℕ) (xs : List Shape) → verdict_from rs ss k xs ≡ sound → (j : ℕ) → Fine (k + j) (node xs j)
  unfolding verdict_from
  fine_from k [] e j = tt
  fine_from k (x ∷ xs) e zero = rw add-zero ((clear_at k x).0 (clear_first k (flaw_at rs ss k x) (verdict_from rs ss (k + 1) xs) e).0)
  fine_from k (x ∷ xs) e (suc j) =
      let moved : k + 1 + j ≡ k + suc j = omega arith in
      rw moved at (fine_from (k + 1) xs (clear_first k (flaw_at rs ss k x) (verdict_from rs ss (k + 1) xs) e).1 j)

  total_from : (k : ℕ) (xs : List Shape) → verdict_from rs ss k xs ≡ sound → Total rs ss
  unfolding verdict_from
  total_from k [] e = decides_total.0 (elim (cases_Bool (list_all (about ss (length ss - 1)) (chances rs))) [ inl t ↦ t | inr f ↦ cc (cond-false _ sound _ f) ])
  total_from k (x ∷ xs) e = total_from (k + 1) xs (clear_first k (flaw_at rs ss k x) (verdict_from rs ss (k + 1) xs) e).1

  sound_from : Total rs ss → (k : ℕ) (xs : List Shape) → ((j : ℕ) → Fine (k + j) (node xs j)) → verdict_from rs ss k xs ≡ sound
  unfolding verdict_from
  sound_from total k [] h = cond-true _ _ _ (decides_total.1 total)
  sound_from total k (x ∷ xs) h =
      rw ((clear_at k x).1 (rw add-zero at (h 0)))
      (sound_from total (k + 1) xs (λ j. let moved : k + suc j ≡ k + 1 + j = omega arith in rw moved at (h (suc j))))

  fine_below : (i : ℕ) (s : Shape) → Fine i s → (c : ℕ) → Among c (children s) → c < i
  fine_below i (lit v b) h c m = absurd m
  fine_below i (all cs) h c m = h.0 c m
  fine_below i (fork v a b) h c (inl e) = omega arith
  fine_below i (fork v a b) h c (inr (inl e)) = omega arith
  fine_below i (fork v a b) h c (inr (inr m)) = absurd m
  fine_below i top h c m = absurd m
  fine_below i bottom h c m = absurd m

  proper_fine : Proper rs ss → (i : ℕ) (s : Shape) → node ss i ≡ s → Fine i s
  proper_fine p i (lit v b) e = p.known_variables.0 i v b e
  proper_fine p i (all cs) e = (λ c m. p.ordered i c (rw e m), λ j k l h v _. p.decomposable i cs e j k l h v)
  proper_fine p i (fork v a b) e = (
    (p.ordered i a (rw e (inl refl)), p.ordered i b (rw e (inr (inl refl)))),
    (p.known_variables.1 i v a b e, (p.decisions i v a b e, p.even i v a b e)),
  )
  proper_fine p i top e = tt
  proper_fine p i bottom e = tt

  pub proper_sound : Proper rs ss → verdict rs ss ≡ sound
  proper_sound p = sound_from p.total 0 ss (λ j. rw zero-add (proper_fine p j (node ss j) refl))

  fine_proper : ((i : ℕ) → Fine i (node ss i)) → Total rs ss → Proper rs ss
  fine_proper fine total =
      let below : Ordered ss = λ i. fine_below i (node ss i) (fine i) in
      let named : KnownVariables rs ss = (λ i v b e. subst (Fine i) e (fine i), λ i v a b e. (subst (Fine i) e (fine i)).1.0) in
      record {
        ordered = below;
        known_variables = named;
        decomposable = λ i cs e j k l h v on.
            (subst (Fine i) e (fine i)).1 j k l h v (among_known rs v (about_known ss below rs named (get_or cs j 0) v on)) on;
        decisions = λ i v a b e. (subst (Fine i) e (fine i)).1.1.0;
        even = λ i v a b e. (subst (Fine i) e (fine i)).1.1.1;
        total = total;
      }

  pub sound_proper : verdict rs ss ≡ sound → Proper rs ss
  sound_proper e = fine_proper (λ i. rw zero-add at (fine_from 0 ss e i)) (total_from 0 ss e)

  -- in a sound circuit no world makes both branches of a fork true
  pub deterministic : verdict rs ss ≡ sound → Deterministic ss
  deterministic e = let p = sound_proper e in decisions_exclude ss p.ordered p.decisions

  pub local_truth : verdict rs ss ≡ sound → LocalTruth ss
  local_truth e = ordered_local ss (sound_proper e).ordered

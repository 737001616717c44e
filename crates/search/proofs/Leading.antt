-- Strongest lean, one choice after the other.
use Rattle.std.specs.List.{list_all, filter, fold, reduce, FoldsTo}
use Rattle.std.specs.Iterator.{AfterFirst, AlwaysYields, CallableInFold, FoldTurn, Yields}
use Rattle.std.specs.Fn.{Takes, Called}
use denote.Param.Members.{Mut}
use Rattle.std.proofs.lemmas.Iterator.{YieldsList}
use Rattle.std.proofs.lemmas.Bool.{and_from, and_parts, cond_both}
use Rattle.std.proofs.Common.{◌≡◌, ℕ, ◌<◌, Bool, true, false, cond, List, [], ◌∷◌, length, get_or, Some, Option, sym, refl, ap, ◌∙◌, subst, not-suc-le-zero}
use Rattle.std.specs.Option.{unwrap_or}
use Rattle.kinds.specs.Semiring.{Semiring}
use Rattle.search.specs.declared.choice.Choice.{Choice}
use Rattle.search.specs.Orders.{lowest, weaker, strongest_of, strongest_or, strongest, lean_at, told, placed, stronger}

module _ {F : Type 0} (R : Semiring F) (part : List F) where
  pub lowest_told : (cs : List Choice) → 0 < length cs → (d : Choice) → (get_or cs 0 d).option ≡ lowest (told R part cs)
  lowest_told [] h d = absurd (not-suc-le-zero h)
  lowest_told (c ∷ cs) h d = refl

  mentioned_told : (cs : List Choice) → filter (λ l. l.mentioned) (told R part cs) ≡ told R part (filter (λ c. c.mentioned) cs)
  mentioned_told [] = refl
  mentioned_told (c ∷ cs) = ap (λ ls. cond c.mentioned (lean_at R part c ∷ ls) ls) (mentioned_told cs) ∙ by c.mentioned (filter (λ c. c.mentioned) cs)
    where
      by : (b : Bool) (ms : List Choice) → cond b (lean_at R part c ∷ told R part ms) (told R part ms) ≡ told R part (cond b (c ∷ ms) ms)
      by true ms = refl
      by false ms = refl

  strongest_of_told : (b : Choice) (cs : List Choice) → strongest_of R (lean_at R part b) (told R part cs) ≡ lean_at R part (fold (stronger R part) b cs)
  strongest_of_told b [] = refl
  strongest_of_told b (c ∷ cs) = ap (λ l. strongest_of R l (told R part cs)) (by (R.upto (weaker R (lean_at R part b)) (weaker R (lean_at R part c)))) ∙ strongest_of_told (stronger R part b c) cs
    where
      by : (t : Bool) → cond t (lean_at R part b) (lean_at R part c) ≡ lean_at R part (cond t b c)
      by true = refl
      by false = refl

  strongest_or_told : (v : ℕ) (d : Choice) → d.option ≡ v → (ms : List Choice) → (unwrap_or (reduce (stronger R part) ms) d).option ≡ strongest_or R v (told R part ms)
  strongest_or_told v d e [] = e
  strongest_or_told v d e (m ∷ ms) = ap (λ l. l.option) (sym (strongest_of_told m ms))

  stronger_placed : (size : ℕ) (b c : Choice) → placed size b ≡ true → placed size c ≡ true → placed size (stronger R part b c) ≡ true
  stronger_placed size b c p q = cond_both (R.upto (weaker R (lean_at R part b)) (weaker R (lean_at R part c))) b c (λ x. placed size x ≡ true) (λ _. p) (λ _. q)

  -- `reduce` may call a closure f that gives the stronger of two choices in the part, if all choices stand in it.
  module _ {S G : Type 0} (steps : S → Option Choice → S → Type 0) (g : Mut G (Choice × (Choice × Unit {0})) Choice) (f : G) (size : ℕ)
      (may : (b c : Choice) → placed size b ≡ true → placed size c ≡ true → Takes g f (b, (c, tt)))
      (gives : (b c r : Choice) (q : G) → Called g f (b, (c, tt)) r q → (q ≡ f) × (r ≡ stronger R part b c)) where
    callable_at : (all xs : List Choice) (s t u : S) (p q : G × Choice) (x : Choice) → AlwaysYields steps (λ c. c) s all → list_all (placed size) all ≡ true
        → p.0 ≡ f → placed size p.1 ≡ true → Yields steps s xs t → FoldsTo (FoldTurn g) p xs q → steps t (Some x) u → Takes g q.0 (q.1, (x, tt))
    callable_at [] [] s t u p q x a h e best c d n = absurd (a x u (subst (λ r. steps r (Some x) u) (sym c) n))
    callable_at [] (z ∷ zs) s t u p q x a h e best c d n = absurd (a z c.0 c.1)
    callable_at (y ∷ ys) [] s t u p q x a h e best c d n =
        let same : x ≡ y = (a.1 x u (subst (λ r. steps r (Some x) u) (sym c) n)).0 in
        let here : placed size x ≡ true = ap (placed size) same ∙ (and_parts _ _ h).0 in
        subst (λ r. Takes g r.0 (r.1, (x, tt))) d (subst (λ k. Takes g k (p.1, (x, tt))) (sym e) (may p.1 x best here))
    callable_at (y ∷ ys) (z ∷ zs) s t u p q x a h e best c d n =
        let next = a.1 z c.0 c.1 in
        let here : placed size z ≡ true = ap (placed size) next.0 ∙ (and_parts _ _ h).0 in
        let turn = gives p.1 z d.0.1 d.0.0 (subst (λ k. Called g k (p.1, (z, tt)) d.0.1 d.0.0) e d.1) in
        callable_at ys zs c.0 t u d.0 q x next.1 (and_parts _ _ h).1 turn.0 (ap (placed size) turn.1 ∙ stronger_placed size p.1 z best here) c.2 d.2 n

    pub reduce_callable : {s : S} (all : List Choice) → YieldsList steps (λ c. c) s all → list_all (placed size) all ≡ true → AfterFirst steps s (λ x t. CallableInFold steps g t f x)
    reduce_callable [] road h x t first = absurd (road.runs x t first)
    reduce_callable (y ∷ ys) road h x t first =
        let next = road.runs.1 x t first in
        record { at = λ xs t' q z u c d n. callable_at ys xs t t' u (f, x) q z next.1 (and_parts _ _ h).1 refl (ap (placed size) next.0 ∙ (and_parts _ _ h).0) c d n }

  -- the strongest of the choices that the root mentions, or else the first of all
  pub strongest_told : (cs : List Choice) → 0 < length cs → (d x : Choice) (r : Option Choice) → x ≡ unwrap_or r (get_or cs 0 d)
      → r ≡ reduce (stronger R part) (filter (λ c. c.mentioned) cs) → x.option ≡ strongest R (told R part cs)
  strongest_told cs some d x r e is =
      ap (λ c. c.option) (e ∙ ap (λ o. unwrap_or o (get_or cs 0 d)) is)
      ∙ strongest_or_told (lowest (told R part cs)) (get_or cs 0 d) (lowest_told cs some d) (filter (λ c. c.mentioned) cs)
      ∙ sym (ap (strongest_or R (lowest (told R part cs))) (mentioned_told cs))

pub filter_placed : (size : ℕ) (cs : List Choice) → list_all (placed size) cs ≡ true → list_all (placed size) (filter (λ c. c.mentioned) cs) ≡ true
filter_placed size [] h = refl
filter_placed size (c ∷ cs) h =
    let parts = and_parts (placed size c) (list_all (placed size) cs) h in
    let rest : list_all (placed size) (filter (λ c. c.mentioned) cs) ≡ true = filter_placed size cs parts.1 in
    cond_both c.mentioned (c ∷ filter (λ c. c.mentioned) cs) (filter (λ c. c.mentioned) cs) (λ xs. list_all (placed size) xs ≡ true) (λ _. and_from _ _ parts.0 rest) (λ _. rest)

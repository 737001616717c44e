-- What each test of a node decides.
use Rattle.std.specs.List.{list_all, range_with_len}
use Rattle.std.proofs.Common.{◌≡◌, ℕ, zero, suc, ◌+◌, ◌<◌, ◌≤◌, Bool, true, false, not, ◌&&◌, eqb, ltb, leb, ◌⊎◌, List, [], ◌∷◌, length, get_or, Decides, All, refl, inl, inr, not-suc-le-zero, arith}
use Rattle.std.proofs.lemmas.List.Elements.{All-get_or, All-from_get_or}
use Rattle.std.proofs.lemmas.Bool.{false≢true, leb-true, le-leb, cases_eq}
use Rattle.std.proofs.lemmas.Bool.Decides.{Decides-by_and, Decides-like, Decides-and, Decides-ltb, Decides-eqb}
use Rattle.table.specs.Circuit.{Shape, lit, all, fork, top, bottom, Vars, same, node, about}
use Rattle.table.specs.Sound.{Roles, is_literal, has_literal, disjoint, apart, known}
use Rattle.table.specs.Facts.{Among, Known, HasLiteral}
use Rattle.table.proofs.Listed.{decides_same, decides_every, some_at, some_among}

pub decides_known : (rs : Roles) (v : ℕ) → Decides (known (length rs) v) (Known rs v)
decides_known rs v = Decides-and (ltb 0 v) (leb v (length rs)) (Decides-ltb 0 v) (leb-true v (length rs), le-leb v (length rs))

among_up_to : (i n v : ℕ) → i ≤ v → v < i + n → Among v (range_with_len i n)
among_up_to i zero v l h = absurd (omega arith)
among_up_to i (suc n) v l h = elim (cases_eq i v) [ inl e ↦ inl e | inr d ↦ inr (among_up_to (i + 1) n v (omega arith) (omega arith)) ]

pub among_known : (rs : Roles) (v : ℕ) → Known rs v → Among v (range_with_len 1 (length rs))
among_known rs v h = among_up_to 1 (length rs) v h.0 (omega arith)

pub decides_leaf : (v : ℕ) (b : Bool) (s : Shape) → Decides (is_literal v b s) (s ≡ lit v b)
decides_leaf v b (lit x on) =
    Decides-like (eqb x v && same on b) (λ h. cc) (λ e. (cc, cc)) (Decides-and (eqb x v) (same on b) (Decides-eqb x v) (decides_same on b))
decides_leaf v b (all cs) = (λ e. absurd (false≢true e), λ e. cc)
decides_leaf v b (fork x p q) = (λ e. absurd (false≢true e), λ e. cc)
decides_leaf v b top = (λ e. absurd (false≢true e), λ e. cc)
decides_leaf v b bottom = (λ e. absurd (false≢true e), λ e. cc)

pub decides_has : (ss : List Shape) (v : ℕ) (b : Bool) (i : ℕ) → Decides (has_literal ss v b (node ss i)) (HasLiteral ss v b i)
decides_has ss v b i = by (node ss i)
  where
    by : (s : Shape) → Decides (has_literal ss v b s) ((s ≡ lit v b) ⊎ ((cs : List ℕ) × (c : ℕ) × (s ≡ all cs) × Among c cs × (node ss c ≡ lit v b)))
    by (lit x on) = Decides-like (is_literal v b (lit x on)) inl (λ h. elim h [ inl e ↦ e | inr h ↦ cc h.2 ]) (decides_leaf v b (lit x on))
    by (all cs) = (
      λ e. let l = some_at (λ c. is_literal v b (node ss c)) cs e in inr (cs, l.0, refl, l.1, (decides_leaf v b (node ss l.0)).0 l.2),
      λ h. elim h [
        | inl e ↦ cc
        | inr h ↦ some_among (λ c. is_literal v b (node ss c)) cs h.1 (let e : h.0 ≡ cs = cc h.2 in rw e at h.3) ((decides_leaf v b (node ss h.1)).1 h.4)
      ],
    )
    by (fork x p q) = (λ e. absurd (false≢true e), λ h. elim h [ inl e ↦ cc | inr h ↦ cc h.2 ])
    by top = (λ e. absurd (false≢true e), λ h. elim h [ inl e ↦ cc | inr h ↦ cc h.2 ])
    by bottom = (λ e. absurd (false≢true e), λ h. elim h [ inl e ↦ cc | inr h ↦ cc h.2 ])

-- no variable of vs is in both sets
abbrev pub Disjoint : List ℕ → Vars → Vars → Type 0
Disjoint vs a b = (v : ℕ) → Among v vs → a v ≡ true → b v ≡ true → ⊥

pub decides_disjoint : (vs : List ℕ) (a b : Vars) → Decides (disjoint vs a b) (Disjoint vs a b)
decides_disjoint vs a b = decides_every _ _ (λ v. not_both (a v) (b v)) vs
  where
    not_both : (p q : Bool) → Decides (not (p && q)) (p ≡ true → q ≡ true → ⊥)
    not_both true true = (λ e _ _. false≢true e, λ h. absurd (h refl refl))
    not_both true false = (λ _ _ e. false≢true e, λ _. refl)
    not_both false q = (λ _ e _. false≢true e, λ _. refl)

module _ (vs : List ℕ) (ss : List Shape) where
  -- no two of the nodes cs mention one variable of vs
  abbrev pub Apart : List ℕ → Type 0
  Apart cs = (j k : ℕ) → j < k → k < length cs → Disjoint vs (about ss (get_or cs j 0)) (about ss (get_or cs k 0))

  apart_more : (c : ℕ) (cs : List ℕ) → All (λ d. Disjoint vs (about ss c) (about ss d)) cs × Apart cs → Apart (c ∷ cs)
  apart_more c cs h zero zero l m = absurd (omega arith)
  apart_more c cs h zero (suc k) l m = All-get_or (λ d. Disjoint vs (about ss c) (about ss d)) cs k 0 (omega arith) h.0
  apart_more c cs h (suc j) zero l m = absurd (omega arith)
  apart_more c cs h (suc j) (suc k) l m = h.1 j k (omega arith) (omega arith)

  pub decides_apart : (cs : List ℕ) → Decides (apart vs ss cs) (Apart cs)
  decides_apart [] = (λ _ j k l h. absurd (not-suc-le-zero h), λ _. refl)
  decides_apart (c ∷ cs) =
      Decides-like (apart vs ss (c ∷ cs)) (apart_more c cs)
      (λ h. (All-from_get_or (λ d. Disjoint vs (about ss c) (about ss d)) cs 0 (λ k l. h 0 (suc k) (omega arith) (omega arith)), λ j k l m. h (suc j) (suc k) (omega arith) (omega arith)))
      (Decides-and (list_all (λ d. disjoint vs (about ss c) (about ss d)) cs) (apart vs ss cs)
      (Decides-by_and _ _ (list_all (λ d. disjoint vs (about ss c) (about ss d))) (λ d. decides_disjoint vs (about ss c) (about ss d)) refl (λ _ _. refl) cs)
      (decides_apart cs))

-- Holding one free option: which options are free then, and which selections keep the holds.
use Rattle.std.proofs.Common.{◌≡◌, ℕ, suc, ◌+◌, ◌-◌, ◌<◌, ◌≤◌, Bool, true, false, cond, eqb, List, [], ◌∷◌, length, set, sym, refl, ap, ◌∙◌, inl, inr, arith, length-set, get_or-set_other, get_or-set_same}
use Rattle.std.specs.List.{filter}
use Rattle.std.proofs.lemmas.Bool.{cases_Bool, cases_eq, cond_both, eqb-false, true≢false, false≢true, ne_eqb, cond-false}
use Rattle.table.specs.Circuit.{World}
use Rattle.table.specs.Facts.{Among}
use Rattle.table.specs.Sound.{Roles, is_option, options}
use Rattle.table.proofs.Numbers.{listed_role, role_listed, option_known}
use Rattle.passes.specs.Holding.{Entries, entry, is_free, held_on, selected, free, Keeps, Complete}
use Rattle.passes.specs.Marks.{with_entry, held}
use Rattle.passes.specs.declared.holds.Entry.{Entry}
use Rattle.passes.specs.declared.holds.Entry.TheVariants.{Free, On, Off}
use Rattle.passes.proofs.Filters.{kept}

pub entry_put : (h : Entries) (v : ℕ) (e : Entry) → 1 ≤ v → v ≤ length h → entry (with_entry h v e) v ≡ e
entry_put h v e low room = ap (λ g. entry g v) (cond-false (eqb v 0) h _ (ne_eqb v 0 (λ z. omega arith))) ∙ get_or-set_same h (v - 1) e Free (omega arith)

pub entry_apart : (h : Entries) (v u : ℕ) (e : Entry) → 1 ≤ u → (u ≡ v → ⊥) → entry (with_entry h v e) u ≡ entry h u
entry_apart h v u e low other = cond_both (eqb v 0) h (set h (v - 1) e) (λ g. entry g u ≡ entry h u) (λ _. refl)
    (λ some. get_or-set_other h (v - 1) (u - 1) e Free (λ same. eqb-false v 0 some (omega arith)))

pub entries_length : (h : Entries) (v : ℕ) (e : Entry) → length (with_entry h v e) ≡ length h
entries_length h v e = cond_both (eqb v 0) h (set h (v - 1) e) (λ g. length g ≡ length h) (λ _. refl) (λ _. length-set h (v - 1) e)

-- d fewer, hence with one element more on both sides, or on the greater alone
one_more : (d x : ℕ) (ys zs : List ℕ) (b c : Bool) → (b ≡ true → c ≡ true) → d + length ys ≤ length zs → d + length (cond b (x ∷ ys) ys) ≤ length (cond c (x ∷ zs) zs)
one_more d x ys zs true true less l = omega arith
one_more d x ys zs true false less l = absurd (false≢true (less refl))
one_more d x ys zs false true less l = omega arith
one_more d x ys zs false false less l = l

-- a filter q that passes less than p keeps no more, and fewer if it passes v no more
module _ (q p : ℕ → Bool) where
  no_more : (xs : List ℕ) → ((x : ℕ) → Among x xs → q x ≡ true → p x ≡ true) → 0 + length (filter q xs) ≤ length (filter p xs)
  no_more [] less = omega arith
  no_more (x ∷ xs) less = one_more 0 x _ _ (q x) (p x) (less x (inl refl)) (no_more xs (λ y m. less y (inr m)))

  fewer : (v : ℕ) (xs : List ℕ) → ((x : ℕ) → Among x xs → q x ≡ true → p x ≡ true) → q v ≡ false → p v ≡ true → Among v xs
      → 1 + length (filter q xs) ≤ length (filter p xs)
  fewer v [] less out before m = absurd m
  fewer v (x ∷ xs) less out before (inl same) = let l = no_more xs (λ y m. less y (inr m)) in rw (same, out, before) (omega arith)
  fewer v (x ∷ xs) less out before (inr m) = one_more 1 x _ _ (q x) (p x) (less x (inl refl)) (fewer v xs (λ y n. less y (inr n)) out before m)

filter_length : (p : ℕ → Bool) (xs : List ℕ) → length (filter p xs) ≤ length xs
filter_length p [] = omega arith
filter_length p (x ∷ xs) =
    let l = filter_length p xs in cond_both (p x) (x ∷ filter p xs) (filter p xs) (λ ys. length ys ≤ suc (length xs)) (λ _. omega arith) (λ _. omega arith)

module _ (rs : Roles) (h : Entries) where
  pub free_option : (v : ℕ) → Among v (free rs h) → (is_option rs v ≡ true) × (is_free (entry h v) ≡ true)
  free_option v m = let both = kept (λ x. is_free (entry h x)) v (options rs) m in ((listed_role rs true v both.0).1, both.1)

  pub free_within : length (free rs h) ≤ length (options rs)
  free_within = filter_length (λ x. is_free (entry h x)) (options rs)

  pub all_held : ((v : ℕ) → Among v (options rs) → is_free (entry h v) ≡ true → ⊥) → Complete rs h
  all_held none v o = elim (cases_Bool (is_free (entry h v))) [
    | inl e ↦ absurd (none v (role_listed rs true v (option_known rs v o) o) e)
    | inr e ↦ e
  ]

  -- without free options every option is held
  pub none_free : length (free rs h) ≤ 0 → Complete rs h
  none_free none = all_held (λ v m e.
      let l = fewer (λ _. false) (λ x. is_free (entry h x)) v (options rs) (λ x _ f. absurd (false≢true f)) refl e m in omega arith)

  -- the selection that the holds make keeps them
  pub selected_keeps : Keeps rs h (selected h)
  selected_keeps v o = (ap held_on, ap held_on)

  -- a selection that keeps complete holds has their options
  pub keeps_complete : Complete rs h → (w : World) → Keeps rs h w → (v : ℕ) → is_option rs v ≡ true → w v ≡ selected h v
  keeps_complete complete w keeps v o = as_held (entry h v) (complete v o) (keeps v o)
    where
      as_held : (e : Entry) → is_free e ≡ false → (e ≡ On → w v ≡ true) × (e ≡ Off → w v ≡ false) → w v ≡ held_on e
      as_held Free f k = absurd (false≢true (sym f))
      as_held On f k = k.0 refl
      as_held Off f k = k.1 refl

  -- v is a free option, and h has an entry for each variable
  module _ (room : length rs ≤ length h) (v : ℕ) (option : is_option rs v ≡ true) (untaken : is_free (entry h v) ≡ true) where
    here : (e : Entry) → entry (with_entry h v e) v ≡ e
    here e = let n = option_known rs v option in entry_put h v e n.0 (omega arith)

    others : (e : Entry) (u : ℕ) → is_option rs u ≡ true → (u ≡ v → ⊥) → entry (with_entry h v e) u ≡ entry h u
    others e u o = entry_apart h v u e (option_known rs u o).0

    pub fewer_free : (e : Entry) → is_free e ≡ false → length (free rs (with_entry h v e)) < length (free rs h)
    fewer_free e taken =
        let l = fewer (λ x. is_free (entry (with_entry h v e) x)) (λ x. is_free (entry h x)) v (options rs)
        (λ u m f. elim (cases_eq u v) [ inl same ↦ rw same untaken | inr other ↦ sym (ap is_free (others e u (listed_role rs true u m).1 other)) ∙ f ])
        (ap is_free (here e) ∙ taken) untaken (role_listed rs true v (option_known rs v option) option) in
        omega arith

    -- what keeps v held keeps h
    pub keeps_before : (e : Entry) (w : World) → Keeps rs (with_entry h v e) w → Keeps rs h w
    keeps_before e w keeps u o = elim (cases_eq u v) [
      | inl same ↦ (λ on. absurd (false≢true (sym (ap is_free on) ∙ rw same untaken)), λ off. absurd (false≢true (sym (ap is_free off) ∙ rw same untaken)))
      | inr other ↦ rw (others e u o other) at (keeps u o)
    ]

    -- what keeps h keeps v held on or off too, as v is in it
    pub keeps_held : (b : Bool) (w : World) → Keeps rs h w → w v ≡ b → Keeps rs (with_entry h v (held b)) w
    keeps_held b w keeps is u o = elim (cases_eq u v) [
      | inl same ↦ rw (same, here (held b)) (as_held b is)
      | inr other ↦ rw (others (held b) u o other) (keeps u o)
    ]
      where
        as_held : (b : Bool) → w v ≡ b → (held b ≡ On → w v ≡ true) × (held b ≡ Off → w v ≡ false)
        as_held true is = (λ _. is, λ off. absurd (true≢false (ap held_on off)))
        as_held false is = (λ on. absurd (false≢true (ap held_on on)), λ _. is)

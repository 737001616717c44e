-- How many branches are opened.
use Rattle.std.proofs.Common.{◌≡◌, ℕ, zero, suc, ◌+◌, ◌^◌, ◌<◌, ◌≤◌, Some, None, Option, sym, refl, subst, not-suc-le-zero, arith}
use Rattle.std.proofs.lemmas.Bool.{cond_both}
use Rattle.passes.specs.Holding.{Entries}
use Rattle.passes.specs.Marks.{with_entry}
use Rattle.passes.specs.declared.holds.Entry.TheVariants.{On, Off}
use Rattle.search.specs.declared.found.Found.{Found}
use Rattle.search.specs.Select.{Branching, opened, counted, explored}

-- how many branches k free options can open
unfoldable pub nodes : ℕ → ℕ
nodes zero = 1
nodes (suc k) = nodes k + nodes k + 1

nodes_up : (k m : ℕ) → k ≤ m → nodes k ≤ nodes m
unfolding nodes
nodes_up zero zero l = omega arith
nodes_up zero (suc m) l = let e = nodes_up zero m (omega arith) in omega arith
nodes_up (suc k) zero l = absurd (not-suc-le-zero l)
nodes_up (suc k) (suc m) l = let e = nodes_up k m (omega arith) in omega arith

-- 20 options open far fewer branches than a count of 64 bits has room for
pub nodes_few : (k : ℕ) → k ≤ 20 → nodes k < 2 ^ 63
unfolding nodes
nodes_few k l = let e : nodes k ≤ 2097151 = nodes_up k 20 l in omega arith

either_way : {A : Type 0} (o : Option ℕ) (leaf : A) (both : ℕ → A) (P : A → Type 0) → P leaf → ((v : ℕ) → P (both v)) → P (elim o [ None ↦ leaf | Some v ↦ both v ])
either_way None leaf both P a b = a
either_way (Some v) leaf both P a b = b v

module _ {F : Type 0} (plan : Branching F) where
  counted_openings : (h : Entries) (s : Found F) → (counted plan h s).openings ≡ s.openings
  counted_openings h s =
      cond_both (plan.replaces (plan.figure_at h) s.best) _ s (λ x. x.openings ≡ s.openings) (λ e. refl) (λ e. refl)

  -- what is true of the count at a leaf and below a fork is true of the count
  no_fork : (P : ℕ → Type 0) (h : Entries) (s : Found F) → P (s.openings + 1) → P (explored plan zero h s).openings
  unfolding explored
  no_fork P h s leaf =
      cond_both (plan.cuts h s.best) (opened s) _ (λ x. P x.openings) (λ e. leaf)
      (λ e. subst P (sym (counted_openings h (opened s))) leaf)

  fork : (P : ℕ → Type 0) (k : ℕ) (h : Entries) (s : Found F) → P (s.openings + 1)
      → ((v : ℕ) → P (explored plan k (with_entry h v Off) (explored plan k (with_entry h v On) (opened s))).openings)
      → P (explored plan (suc k) h s).openings
  unfolding explored
  fork P k h s leaf both =
      cond_both (plan.cuts h s.best) (opened s) _ (λ x. P x.openings) (λ e. leaf)
      (λ e. either_way {A = Found F} (plan.next h) _ (λ v. explored plan k (with_entry h v Off) (explored plan k (with_entry h v On) (opened s)))
      (λ x. P x.openings) (subst P (sym (counted_openings h (opened s))) leaf) both)

  -- at least one branch is opened
  pub explored_more : (k : ℕ) (h : Entries) (s : Found F) → s.openings < (explored plan k h s).openings
  explored_more zero h s = no_fork (λ n. s.openings < n) h s (omega arith)
  explored_more (suc k) h s =
      fork (λ n. s.openings < n) k h s (omega arith) (λ v.
      let on = explored_more k (with_entry h v On) (opened s) in
      let off = explored_more k (with_entry h v Off) (explored plan k (with_entry h v On) (opened s)) in
      omega arith)

  -- and at most so many
  pub explored_few : (k : ℕ) (h : Entries) (s : Found F) → (explored plan k h s).openings ≤ s.openings + nodes k
  unfolding nodes
  explored_few zero h s = no_fork (λ n. n ≤ s.openings + 1) h s (omega arith)
  explored_few (suc k) h s =
      fork (λ n. n ≤ s.openings + (nodes k + nodes k + 1)) k h s (omega arith) (λ v.
      let on = explored_few k (with_entry h v On) (opened s) in
      let off = explored_few k (with_entry h v Off) (explored plan k (with_entry h v On) (opened s)) in
      omega arith)

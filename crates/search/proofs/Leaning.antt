-- What the work table tells of the root, after the pair pass.
use Rattle.std.proofs.Common.{◌≡◌, ℕ, ◌+◌, ◌-◌, ◌*◌, ◌<◌, ◌≤◌, Bool, true, false, List, ◌++◌, length, get_or, take, drop, sym, refl, ap, ◌∙◌, zero-add, mul-one, mul-add, arith}
use Rattle.std.proofs.lemmas.List.{get_or-take, get_or-drop, get_or_append_left}
use Rattle.std.proofs.lemmas.Slice.{drop-append-drop}
use Rattle.kinds.specs.Semiring.{Semiring}
use Rattle.table.specs.Circuit.{World}
use Rattle.table.specs.Sound.{options}
use Rattle.table.proofs.Upward.{upward_length, root_last}
use Rattle.passes.specs.Passes.{no_part, count, counts, pair, pairs, root_part, work}
use Rattle.passes.specs.Places.{stride as stride_of, pair_places}
use Rattle.passes.specs.Rows.{side_place}
use Rattle.passes.proofs.Roots.{last_part}
use Rattle.passes.proofs.Rowing.{work_length, side_there}
use Rattle.search.specs.Listing.{choices, root_mentions}
use Rattle.search.specs.Orders.{told}
use Rattle.search.specs.Select.{leans}
use Rattle.search.proofs.Told.{told_is}
use Rattle.passes.specs.Problem.{Problem}

module _ {F : Type 0} (R : Semiring F) (p : Problem F) where
  -- what stands behind the parts is kept
  pub parts_kept : (store before : List F) → store ≡ work p.roles (pairs R p) ++ drop (pair_places p.roles p.circuit) before
      → drop (pair_places p.roles p.circuit) store ≡ drop (pair_places p.roles p.circuit) before
  parts_kept store before is =
      let wide = stride_of p.roles in
      ap (drop (pair_places p.roles p.circuit)) is
      ∙ drop-append-drop (pair_places p.roles p.circuit) before (work p.roles (pairs R p)) (pair_places p.roles p.circuit) (omega arith)
      (work_length R p.roles wide refl (pairs R p) ∙ ap (λ n. n * wide) (upward_length (pair R p) p.circuit))

  pub counts_kept : (w : World) (store before : List F) → store ≡ counts R p w ++ drop (length p.circuit) before
      → drop (pair_places p.roles p.circuit) store ≡ drop (pair_places p.roles p.circuit) before
  counts_kept w store before is =
      ap (drop (pair_places p.roles p.circuit)) is
      ∙ drop-append-drop (length p.circuit) before (counts R p w) (pair_places p.roles p.circuit)
      (omega (arith, mul-add (length p.circuit) (2 * length (options p.roles)) 1, mul-one (length p.circuit))) (upward_length (count R p w) p.circuit)

module _ {F : Type 0} (R : Semiring F) (p : Problem F) (stride base : ℕ) (rest store : List F) where
  abbrev parts : List F
  parts = work p.roles (pairs R p)

  abbrev part : List F
  part = take (base + stride - base) (drop base store)

  within : (i : ℕ) (b : Bool) → stride ≡ stride_of p.roles → i < length (options p.roles) → side_place i b < stride
  within i true wide l = omega arith
  within i false wide l = omega arith

  -- the root's part tells what an order is told
  pub told_leans : stride ≡ stride_of p.roles → 1 ≤ length p.circuit → base ≡ (length p.circuit - 1) * stride → store ≡ work p.roles (pairs R p) ++ rest
      → told R (take (base + stride - base) (drop base store)) (choices p.roles p.circuit p.holds) ≡ leans R p
  told_leans wide some at is = told_is (root_mentions p.circuit) p.holds R part (root_part R p) 0 (options p.roles) reads
    where
      reads : (i : ℕ) (b : Bool) → i < length (options p.roles) → get_or part (side_place (0 + i) b) R.zero ≡ (root_part R p).side b (get_or (options p.roles) i 0)
      reads i b l =
          let k : ℕ = side_place i b in
          let short : k < stride = within i b wide l in
          let last = last_part (length p.circuit) stride some in
          let size : length parts ≡ length p.circuit * stride =
          work_length R p.roles stride wide (pairs R p) ∙ ap (λ n. n * stride) (upward_length (pair R p) p.circuit) in
          ap (λ n. get_or part (side_place n b) R.zero) (zero-add i)
          ∙ get_or-take (base + stride - base) (drop base store) k R.zero (omega arith)
          ∙ get_or-drop base store k R.zero
          ∙ ap (λ xs. get_or xs (base + k) R.zero) is
          ∙ get_or_append_left parts rest R.zero (base + k) (omega arith)
          ∙ ap (λ n. get_or parts (n + k) R.zero) at
          ∙ side_there R p.roles stride wide (pairs R p) (length p.circuit - 1) i b l
          ∙ sym (ap (λ q. q.side b (get_or (options p.roles) i 0)) (root_last (pair R p) (no_part R) p.circuit))

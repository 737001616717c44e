-- What the pair pass computes of one node, from the parts before it as they lie in the work table.
use Rattle.std.specs.Prelude.{ℕ, ◌+◌, ◌*◌, Bool, true, false, ◌&&◌, List, [], ◌∷◌, Some, None, Option, slice_index_or, if◌then◌else◌}
use Rattle.kinds.specs.Semiring.{Semiring, greater, lesser}
use Rattle.table.specs.Circuit.{Vars, node, about}
use Rattle.passes.specs.Holding.{Entries, entry, is_free}
use Rattle.passes.specs.NodeReads.{value_in}
use Rattle.passes.specs.Problem.{Problem}
use Rattle.passes.specs.Ways.{made, side_way, plain_way}

-- where option j's on (or off) value stands in a part
abbrev pub side_place : ℕ → Bool → ℕ
side_place j b = 2 * j + (if b then 1 else 2)

-- whether a node that mentions m has values for an option
abbrev pub open_at : Entries → Vars → ℕ → Bool
open_at h m v = is_free (entry h v) && m v

-- whether node i has values for an option
abbrev pub open_in : {F : Type 0} → Problem F → (i v : ℕ) → Bool
open_in p i v = open_at p.holds (about p.circuit i) v

-- the on and the off value of each option, from the one with index j on
abbrev pub sides_by : {F : Type 0} → (Bool → ℕ → ℕ → F) → ℕ → List ℕ → List F
sides_by s j [] = []
sides_by s j (v ∷ vs) = s true v (side_place j true) ∷ s false v (side_place j false) ∷ sides_by s (j + 1) vs

-- the lesser of the least so far and one more figure
abbrev pub lower : {F : Type 0} → Semiring F → Option F → F → F
lower R None x = x
lower R (Some y) x = lesser R y x

-- the least so far, with one more option
abbrev pub lowered : {F : Type 0} → Semiring F → Option F → Bool → F → F → Option F
lowered R best taken on off = if taken then Some (lower R best (greater R on off)) else best

-- the least so far, with the options vs, whose values stand in a row
abbrev pub least_in_row : {F : Type 0} → Semiring F → (ℕ → Bool) → List F → Option F → List ℕ → Option F
least_in_row R p (x ∷ y ∷ row) best (v ∷ vs) = least_in_row R p row (lowered R best (p v) x y) vs
least_in_row R p [] best vs = best
least_in_row R p (x ∷ []) best vs = best
least_in_row R p (x ∷ y ∷ row) best [] = best

-- the least, or another figure if there is none
abbrev pub or_else : {F : Type 0} → Option F → F → F
or_else None x = x
or_else (Some y) x = y

-- the work table `done` has the parts of the nodes before node i, with `stride` places for each
module _ {F : Type 0} (R : Semiring F) (p : Problem F) (stride : ℕ) (done : List F) where
  -- the value of node c under v, whose value stands at a place of its part
  abbrev pub under_in : (v place c : ℕ) → F
  under_in v place c =
      if about p.circuit c v
      then lesser R (value_in R stride done c) (slice_index_or done (c * stride + place) R.zero)
      else value_in R stride done c

  module _ (i : ℕ) where
    -- node i's value for an option on (or off), from what stands at a place of its children's parts
    abbrev pub side_in : Bool → (v place : ℕ) → F
    side_in b v place = made R (side_way R p.roles b) (under_in v place) (node p.circuit i)

    -- what stands at a place of the part of node i for an option on (or off)
    abbrev pub side_or_zero : Bool → (v place : ℕ) → F
    side_or_zero b v place = if open_in p i v then side_in b v place else R.zero

    -- each option's values of node i
    abbrev pub row_in : List ℕ → List F
    row_in vs = sides_by side_or_zero 0 vs

    -- the least over the options that it has values for
    abbrev pub least_in : List ℕ → Option F
    least_in vs = least_in_row R (open_in p i) (row_in vs) None vs

    -- the value of node i
    abbrev pub value_by : List ℕ → F
    value_by vs = or_else (least_in vs) (made R (plain_way R p) (value_in R stride done) (node p.circuit i))

    -- the part of node i
    abbrev pub part_in : List ℕ → List F
    part_in vs = value_by vs ∷ row_in vs

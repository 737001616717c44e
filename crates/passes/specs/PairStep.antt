-- What the pair pass's step at a node computes, from what the step is lent.
use Rattle.std.specs.Prelude.{ℕ, Bool, List, map, Option}
use Rattle.text.specs.declared.record.Node.{Node}
use Rattle.kinds.specs.Semiring.{Semiring}
use Rattle.table.specs.Whole.{roles}
use Rattle.passes.specs.NodeReads.{shape_in}
use Rattle.passes.specs.Passes.{times}
use Rattle.passes.specs.Problem.{problem}
use Rattle.passes.specs.Rows.{under_in, side_in, row_in, least_in}
use Rattle.passes.specs.Ways.{made, side_way}
use Rattle.passes.specs.declared.pair.Step.{Step}

module _ {F : Type 0} (R : Semiring F) (s : Step F) where
  -- the value of node c under v, whose value stands at a place of its part
  abbrev pub under_here : (v place c : ℕ) → F
  under_here v place c = under_in R (problem s.query.now) s.values.stride s.values.places.now v place c

  -- the product of such values of some nodes
  abbrev pub product_here : (v place : ℕ) → List ℕ → F
  product_here v place cs = times R (map (under_here v place) cs)

  -- the value of a record's node for an option on (or off)
  abbrev pub side_by_record : Bool → (v place : ℕ) → Node → F
  side_by_record b v place n =
      made R (side_way R (roles s.query.now.table.now) b) (under_here v place) (shape_in s.query.now.table.now n)

  -- the node's value for an option on (or off)
  abbrev pub side_here : Bool → (v place : ℕ) → F
  side_here b v place = side_in R (problem s.query.now) s.values.stride s.values.places.now s.node b v place

  -- each option's values of the node
  abbrev pub row_here : List F
  row_here = row_in R (problem s.query.now) s.values.stride s.values.places.now s.node s.options.now

  -- the least over the options that the node has values for
  abbrev pub least_here : Option F
  least_here = least_in R (problem s.query.now) s.values.stride s.values.places.now s.node s.options.now

-- The circuit that node records and the child store hold.
use Rattle.std.specs.Prelude.{ℕ, ◌+◌, List, [], ◌∷◌, map, length, take, drop, nat_le, slice_index_or, if◌then◌else◌}
use Rattle.text.specs.declared.record.Form.{Form}
use Rattle.text.specs.declared.record.Form.TheVariants.{Literal, And, Fork, True, False}
use Rattle.text.specs.declared.record.Node.{Node}
use Rattle.text.specs.declared.record.Variables.{Variables}
use Rattle.text.specs.Format.{is_option_role, listed}
use Rattle.table.specs.Circuit.{Shape, lit, all, fork, top, bottom}
use Rattle.table.specs.Sound.{Roles}

-- a number that no node has: what a record names that points past the child store
abbrev pub no_node : ℕ
no_node = 65535

-- the children of an and: its stretch of the store
abbrev pub stretch : List ℕ → ℕ → ℕ → List ℕ
stretch store first count = if nat_le (first + count) (length store) then take count (drop first store) else no_node ∷ []

-- the node that a record of this form stands for
abbrev pub shape_by : List ℕ → ℕ → ℕ → Form → Shape
shape_by store first count (Literal v on) = lit v on
shape_by store first count And = all (stretch store first count)
shape_by store first count (Fork v) = fork v (slice_index_or store first no_node) (slice_index_or store (first + 1) no_node)
shape_by store first count True = top
shape_by store first count False = bottom

-- the same, of a record
abbrev pub shape : List ℕ → Node → Shape
shape store n = shape_by store n.first n.count n.form

-- the circuit that the records hold
abbrev pub shapes : List ℕ → List Node → List Shape
shapes store ns = map (shape store) ns

-- the roles of the variables, in order
abbrev pub roles_of : Variables → Roles
roles_of vs = map (λ v. is_option_role v.role) (listed vs)

-- What a step of a pass reads of one node, from a work table in which each node's part has `stride` places, its value
-- first.
use Rattle.std.specs.Prelude.{ℕ, ◌+◌, ◌*◌, Bool, true, ◌&&◌, List, length, nat_le, nat_lt, slice_index_or}
use Rattle.std.specs.List.{list_all}
use Rattle.text.specs.declared.record.Form.{Form}
use Rattle.text.specs.declared.record.Form.TheVariants.{Literal, And, Fork, True, False}
use Rattle.text.specs.declared.record.Node.{Node}
use Rattle.kinds.specs.Semiring.{Semiring}
use Rattle.table.specs.Circuit.{Shape, lit, all, fork, top, bottom}
use Rattle.table.specs.Nodes.{shape}
use Rattle.table.specs.Sound.{known}
use Rattle.table.specs.Whole.{roles}
use Rattle.table.specs.declared.table.Table.{Table}
use Rattle.passes.specs.declared.values.NodeValues.{NodeValues}

-- whether the part of node c is among the first `size` places
abbrev pub inside : (size stride c : ℕ) → Bool
inside size stride c = nat_le (c * stride + stride) size

-- whether a literal is of one of n variables, and the children's parts are among the first `size` places
abbrev pub readable : (n size stride : ℕ) → Shape → Bool
readable n size stride (lit v b) = known n v
readable n size stride (all cs) = list_all (inside size stride) cs
readable n size stride (fork v a b) = inside size stride a && inside size stride b
readable n size stride top = true
readable n size stride bottom = true

-- whether a record's children are in the child store
abbrev pub form_ranged : (size first count : ℕ) → Form → Bool
form_ranged size first count (Literal v on) = true
form_ranged size first count And = nat_le (first + count) size
form_ranged size first count (Fork v) = nat_lt (first + 1) size
form_ranged size first count True = true
form_ranged size first count False = true

abbrev pub ranged : List ℕ → Node → Bool
ranged store n = form_ranged (length store) n.first n.count n.form

-- the value of node c
abbrev pub value_in : {F : Type 0} → Semiring F → ℕ → List F → ℕ → F
value_in R stride done c = slice_index_or done (c * stride) R.zero

-- The same, of a record of a table and the values that are lent to a step.

-- the node that a record of the table stands for
abbrev pub shape_in : Table → Node → Shape
shape_in t n = shape t.children.now n

-- whether a record's children are in the table's child store
abbrev pub ranged_in : Table → Node → Bool
ranged_in t n = ranged t.children.now n

-- whether the values have a node's part
abbrev pub has_part : {F : Type 0} → NodeValues F → ℕ → Bool
has_part values c = inside (length values.places.now) values.stride c

-- whether they have the parts of a node's children
abbrev pub readable_in : {F : Type 0} → Table → NodeValues F → Node → Bool
readable_in t values n = readable (length (roles t)) (length values.places.now) values.stride (shape_in t n)

-- the value of a node among them
abbrev pub value_among : {F : Type 0} → Semiring F → NodeValues F → ℕ → F
value_among R values c = value_in R values.stride values.places.now c

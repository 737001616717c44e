-- What a table holds.
use Rattle.std.specs.Prelude.{◌≡◌, ℕ, List, Ok}
use Rattle.text.specs.declared.record.Node.{Node}
use Rattle.text.specs.declared.record.Variables.{Variables}
use Rattle.table.specs.declared.table.Table.{Table}
use Rattle.table.specs.Circuit.{Shape}
use Rattle.table.specs.Sound.{Roles}
use Rattle.table.specs.Nodes.{shapes, roles_of}
use Rattle.table.specs.Check.{check_says}

-- a table's circuit
abbrev pub circuit : Table → List Shape
circuit t = shapes t.children.now t.nodes.now

-- which of a table's variables are options
abbrev pub roles : Table → Roles
roles t = roles_of t.variables

-- a table has these parts, and the check accepts them with the table's mentions
pub record IsCheckedTable (ns : List Node) (cs : List ℕ) (vs : Variables) (t : Table) : Type 0 where
  pub nodes_are : t.nodes.now ≡ ns
  pub children_are : t.children.now ≡ cs
  pub variables_are : t.variables ≡ vs
  pub is_accepted : check_says vs ns cs ≡ Ok t.mentions

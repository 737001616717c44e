-- What is asked of the passes.
use Rattle.std.specs.Prelude.{List}
use Rattle.kinds.specs.Semiring.{Semiring}
use Rattle.table.specs.Circuit.{Shape, World}
use Rattle.table.specs.Count.{figure}
use Rattle.table.specs.Sound.{Roles}
use Rattle.table.specs.Whole.{circuit, roles}
use Rattle.table.specs.declared.table.Table.{Table}
use Rattle.passes.specs.Holding.{Entries, selected}
use Rattle.passes.specs.declared.query.Query.{Query}

-- which variables are options, the circuit, the weights, and the holds
pub record Problem (F : Type 0) : Type 0 where
  pub roles : Roles
  pub circuit : List Shape
  pub sheet : List F
  pub holds : Entries

-- a table's problem, with weights and holds
abbrev pub problem_of : {F : Type 0} → Table → List F → Entries → Problem F
problem_of t sheet h = record { roles = roles t; circuit = circuit t; sheet = sheet; holds = h }

-- a query's problem
abbrev pub problem : {F : Type 0} → Query F → Problem F
problem q = problem_of q.table.now q.sheet.now q.holds.now.entries

-- the same under other holds
abbrev pub under_holds : {F : Type 0} → Problem F → Entries → Problem F
under_holds p h = record { roles = p.roles; circuit = p.circuit; sheet = p.sheet; holds = h }

module _ {F : Type 0} (R : Semiring F) (p : Problem F) where
  -- the figure of a selection: its weighted model count
  abbrev pub figure_of : World → F
  figure_of w = figure R p.roles p.circuit p.sheet w

  -- the figure of the selection that is held, with every free option off
  abbrev pub held_figure : F
  held_figure = figure_of (selected p.holds)

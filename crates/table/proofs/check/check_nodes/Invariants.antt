use Rattle.table.specs.Nodes.{shapes, roles_of}
use Rattle.table.proofs.Surveys.{Checked}
use Rattle.table.proofs.check.check_nodes.Given as goal

abbrev pub invariant-loop-i : goal.invariant-loop-i
invariant-loop-i l = Checked (roles_of l.variables) (shapes l.children l.nodes) l.i l.known

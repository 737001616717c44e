use Rattle.table.proofs.Yes.{accepted}
use Rattle.table.proofs.table.Table.new.Goals as goal

pub invariant_of-result : goal.invariant_of-result
invariant_of-result c = let yes = accepted c.args.variables c.args.nodes.now c.args.children.now c.args.mentions c.requires in record { counts = yes.0; few = yes.1; sound = yes.2; mentioned = yes.3 }

use Rattle.std.proofs.Common.{◌≡◌, ◌-◌, length}
use Rattle.text.proofs.Runs.{Going}
use Rattle.text.proofs.reader.read_table.Given as goal

abbrev pub invariant-loop-line : goal.invariant-loop-line
invariant-loop-line l = record {
  going : Going l.file l.fn.nodes l.fn.children l.progress;
  nodes : l.progress.node_store.ghost_name ≡ l.initial.progress.node_store.ghost_name;
  children : l.progress.child_store.ghost_name ≡ l.initial.progress.child_store.ghost_name;
}

abbrev pub decreases-loop-line : goal.decreases-loop-line
decreases-loop-line l = length l.initial.file - l.progress.place

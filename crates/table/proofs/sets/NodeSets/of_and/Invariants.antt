use Rattle.std.specs.List.{list_all}
use Rattle.std.proofs.Common.{◌≡◌, ℕ, true, List, length, drop}
use Rattle.text.specs.declared.record.Node.{Node}
use Rattle.table.specs.declared.sets.NodeSets.{NodeSets}
use Rattle.table.specs.Sound.{is_below}
use Rattle.table.specs.NodeSets.{nothing, with_children}
use Rattle.table.proofs.sets.NodeSets.of_and.Given as goal

pub record Left (sets : NodeSets) (i : ℕ) (children : List ℕ) (nodes : List Node) (before : List NodeSets) : Type 0 where
  pub value : with_children sets nodes before (drop i children) ≡ with_children nothing nodes before children
  pub below : list_all (is_below (length before)) (drop i children) ≡ true

abbrev pub invariant-loop-c : goal.invariant-loop-c
invariant-loop-c l = Left l.sets l.c-index l.children l.nodes l.before

use Rattle.std.specs.List.{list_all}
use Rattle.std.proofs.Common.{◌≡◌, ℕ, true, List, length, drop}
use Rattle.table.specs.declared.sets.NodeSets.{NodeSets}
use Rattle.table.specs.Sound.{is_below}
use Rattle.table.specs.NodeSets.{apart_masks}
use Rattle.table.proofs.sets.all_apart.Given as goal

pub record Left (seen i : ℕ) (children : List ℕ) (before : List NodeSets) : Type 0 where
  pub value : apart_masks seen before (drop i children) ≡ apart_masks 0 before children
  pub below : list_all (is_below (length before)) (drop i children) ≡ true

abbrev pub invariant-loop-c : goal.invariant-loop-c
invariant-loop-c l = Left l.seen l.c-index l.children l.before

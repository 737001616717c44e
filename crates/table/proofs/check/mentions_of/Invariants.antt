use Rattle.std.proofs.Common.{◌≡◌, ℕ, ◌<◌, ◌≤◌, List, length, get_or}
use Rattle.table.specs.declared.sets.NodeSets.{NodeSets}
use Rattle.table.specs.NodeSets.{nothing}
use Rattle.table.proofs.check.mentions_of.Given as goal

pub record Filled (known : List NodeSets) (i : ℕ) (sets : List ℕ) : Type 0 where
  pub long : length sets ≡ 4096
  pub at : (c : ℕ) → c < i → get_or sets c 0 ≡ (get_or known c nothing).mentions
  pub behind : (c : ℕ) → i ≤ c → get_or sets c 0 ≡ 0

abbrev pub invariant-loop-i : goal.invariant-loop-i
invariant-loop-i l = Filled l.known l.i l.sets

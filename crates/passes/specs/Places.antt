-- How many places of a work table the pair pass writes.
use Rattle.std.specs.Prelude.{ℕ, ◌+◌, ◌*◌, List, length}
use Rattle.table.specs.Circuit.{Shape}
use Rattle.table.specs.Sound.{Roles, options}

-- the places of a node's part: one for its value, and two for each option
abbrev pub stride : Roles → ℕ
stride rs = 2 * length (options rs) + 1

-- the places of the parts of all nodes
abbrev pub pair_places : Roles → List Shape → ℕ
pair_places rs ss = length ss * stride rs

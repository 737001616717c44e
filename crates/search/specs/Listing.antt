-- The free options, as a branching order is told of them.
use Rattle.std.specs.Prelude.{ℕ, ◌+◌, ◌-◌, ◌*◌, List, [], ◌∷◌, length, if◌then◌else◌}
use Rattle.table.specs.Circuit.{Shape, Vars, about}
use Rattle.table.specs.Sound.{Roles, options}
use Rattle.passes.specs.Holding.{Entries, entry, is_free}
use Rattle.search.specs.declared.choice.Choice.{Choice}

-- an option with index j among all options: its on value stands behind the value and two places for each option before it
abbrev pub choice_of : Vars → ℕ → ℕ → Choice
choice_of m j v = record { option = v; mentioned = m v; place = 2 * j + 1 }

-- the free ones of the options vs, the first of which has index j
abbrev pub choices_from : Vars → Entries → ℕ → List ℕ → List Choice
choices_from m h j [] = []
choices_from m h j (v ∷ vs) = if is_free (entry h v) then choice_of m j v ∷ choices_from m h (j + 1) vs else choices_from m h (j + 1) vs

-- what the root mentions
abbrev pub root_mentions : List Shape → Vars
root_mentions ss = about ss (length ss - 1)

-- the free options, by rising number
abbrev pub choices : Roles → List Shape → Entries → List Choice
choices rs ss h = choices_from (root_mentions ss) h 0 (options rs)

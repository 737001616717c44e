-- What the program prints.
use Rattle.std.specs.Prelude.{ℕ, List}
use Rattle.kinds.specs.Tallies.{tallies, tally_notation}
use Rattle.search.specs.Orders.{lowest}
use Rattle.text.specs.Printed.{Lines}
use Rattle.report.specs.Plant.{plant_report}

-- for a file: its plant's bound and its best selection, in tallies and by number order, or the first refusal
abbrev pub quote : List ℕ → Lines
quote file = plant_report tallies tally_notation lowest file

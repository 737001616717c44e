-- The small tables' cases, by computing.
use Rattle.std.proofs.Common.{refl}
use Rattle.kinds.specs.TallyLaws.{same_count}
use Rattle.table.specs.Circuit.{onward}
use Rattle.table.specs.Count.{figure, sum_over, scenario_weight}
use Rattle.table.specs.Sound.{verdict_from}
use Rattle.search.specs.Select.{explored}
use Rattle.search.specs.Cases.{Worked}

pub worked : Worked
unfolding figure sum_over scenario_weight onward verdict_from explored
worked = record {
  plant_sound = refl;
  on_figure = refl;
  off_figure = refl;
  free_plain = refl;
  free_bound = refl;
  free_select = refl;
  free_select_lean = refl;
  tie_plain = refl;
  tie_bound = refl;
  tie_select = refl;
  zero_select = refl;
  held_select = refl;
  peak_bound = refl;
  peak_select = refl;
  shared = refl;
  exchanged = refl;
  looped = refl;
  missing = refl;
  uneven = refl;
  at_cap = refl;
  past_cap = same_count _ _ refl;
}

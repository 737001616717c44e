-- Plant K and other small tables, worked out.
use Rattle.std.specs.Prelude.{◌≡◌, ℕ, true, false, List, [], ◌∷◌, Some, None, Option}
use Rattle.kinds.specs.Tallies.{tally, tallies}
use Rattle.kinds.specs.Peaks.{load, peaks}
use Rattle.kinds.specs.declared.peak.Peak.{Peak}
use Rattle.kinds.specs.declared.peak.Peak.TheVariants.{Load}
use Rattle.kinds.specs.declared.tally.Tally.{Tally}
use Rattle.table.specs.Circuit.{Shape, lit, all, fork}
use Rattle.table.specs.Count.{figure}
use Rattle.table.specs.Faults.{fault_number, fault_place}
use Rattle.table.specs.Sound.{Roles, Verdict, sound, flawed, verdict}
use Rattle.table.specs.declared.fault.Fault.TheVariants.{Node}
use Rattle.passes.specs.Holding.{Entries, selected}
use Rattle.passes.specs.Marks.{with_entry}
use Rattle.passes.specs.Passes.{plain_bound, bound}
use Rattle.passes.specs.Problem.{Problem}
use Rattle.passes.specs.declared.holds.Entry.{Entry}
use Rattle.passes.specs.declared.holds.Entry.TheVariants.{On, Off}
use Rattle.search.specs.declared.found.Found.{Found}
use Rattle.search.specs.Orders.{lowest, strongest}
use Rattle.search.specs.Select.{select}
use Rattle.search.specs.Study.{unheld}

-- variable 1 is an option, variable 2 a chance
abbrev pub roles : Roles
roles = true ∷ false ∷ []

-- plant K's first five nodes, and others behind them
abbrev pub begun : List Shape → List Shape
begun more = lit 2 true ∷ lit 1 false ∷ all (0 ∷ 1 ∷ []) ∷ lit 2 false ∷ lit 1 true ∷ more

-- plant K: the chance on and the option off, or the chance off and the option on
abbrev pub plant_k : List Shape
plant_k = begun (all (3 ∷ 4 ∷ []) ∷ fork 2 2 5 ∷ [])

-- a table of one chance
abbrev pub coin : List Shape
coin = lit 1 true ∷ lit 1 false ∷ fork 1 0 1 ∷ []

-- sheets in which the chance weighs so much on and off
abbrev pub weighing : ℕ → ℕ → List Tally
weighing on off = tally 1 ∷ tally 1 ∷ tally on ∷ tally off ∷ []

abbrev pub loading : ℕ → ℕ → List Peak
loading on off = Load (load 0) ∷ Load (load 0) ∷ Load (load on) ∷ Load (load off) ∷ []

-- the option alone is held
abbrev pub holding : Entry → Entries
holding e = with_entry unheld 1 e

-- what is asked of plant K with this sheet and these holds
abbrev pub asking : {F : Type 0} → List F → Entries → Problem F
asking sheet h = record { roles = roles; circuit = plant_k; sheet = sheet; holds = h }

-- what select finds: a selection with its figure, or none, and how many branches were opened
abbrev pub found : {F : Type 0} → Entries → F → ℕ → Found F
found h f n = record { best = Some (record { holds = record { entries = h }; figure = f }); openings = n }

abbrev pub found_none : {F : Type 0} → ℕ → Found F
found_none n = record { best = None; openings = n }

-- the number and the node of the refusal, if a table is refused
abbrev pub refused_at : Verdict → Option (ℕ × ℕ)
refused_at sound = None
refused_at (flawed f i) = Some (fault_number (Node f i), fault_place (Node f i))

pub record Worked : Type 0 where
  -- 1: plant K, the chance weighing 3 on and 7 off
  pub plant_sound : verdict roles plant_k ≡ sound
  pub on_figure : figure tallies roles plant_k (weighing 3 7) (selected (holding On)) ≡ tally 7
  pub off_figure : figure tallies roles plant_k (weighing 3 7) (selected (holding Off)) ≡ tally 3
  pub free_plain : plain_bound tallies (asking (weighing 3 7) unheld) ≡ tally 10
  pub free_bound : bound tallies (asking (weighing 3 7) unheld) ≡ tally 7
  pub free_select : select tallies lowest (asking (weighing 3 7) unheld) ≡ found (holding On) (tally 7) 3
  pub free_select_lean : select tallies (strongest tallies) (asking (weighing 3 7) unheld) ≡ found (holding On) (tally 7) 3
  -- 2: weights that tie, so that the option's on side, opened first, stays the best
  pub tie_plain : plain_bound tallies (asking (weighing 5 5) unheld) ≡ tally 10
  pub tie_bound : bound tallies (asking (weighing 5 5) unheld) ≡ tally 5
  pub tie_select : select tallies lowest (asking (weighing 5 5) unheld) ≡ found (holding On) (tally 5) 3
  -- 3: no figure above zero
  pub zero_select : select tallies lowest (asking (weighing 0 0) unheld) ≡ found_none 1
  -- 4: none above zero with the option held off
  pub held_select : select tallies lowest (asking (weighing 0 7) (holding Off)) ≡ found_none 1
  -- 5: peaks of 9,000 W and 4,000 W
  pub peak_bound : bound peaks (asking (loading 9000 4000) unheld) ≡ Load (load 9000)
  pub peak_select : select peaks lowest (asking (loading 9000 4000) unheld) ≡ found (holding Off) (Load (load 9000)) 3
  -- 6: an and of nodes 3 and 0, which both mention the chance
  pub shared : refused_at (verdict roles (begun (all (3 ∷ 0 ∷ []) ∷ fork 2 2 5 ∷ []))) ≡ Some (10, 5)
  -- 7: the root's branches exchanged
  pub exchanged : refused_at (verdict roles (begun (all (3 ∷ 4 ∷ []) ∷ fork 2 5 2 ∷ []))) ≡ Some (11, 6)
  -- 8: the root is a child of itself
  pub looped : refused_at (verdict roles (begun (all (3 ∷ 4 ∷ []) ∷ fork 2 2 6 ∷ []))) ≡ Some (8, 6)
  -- 9: the chance is not mentioned
  pub missing : refused_at (verdict roles (lit 1 true ∷ [])) ≡ Some (13, 0)
  -- 10: one branch of the root mentions the chance, the other does not
  pub uneven : refused_at (verdict roles (lit 1 true ∷ lit 1 false ∷ lit 2 true ∷ all (1 ∷ 2 ∷ []) ∷ fork 1 0 3 ∷ [])) ≡ Some (12, 4)
  -- 11: a sum that reaches the cap, and one that would pass it
  pub at_cap : figure tallies (false ∷ []) coin (tally 9223372036854775808 ∷ tally 9223372036854775807 ∷ []) (selected unheld) ≡ tally 18446744073709551615
  pub past_cap : figure tallies (false ∷ []) coin (tally 9223372036854775808 ∷ tally 9223372036854775808 ∷ []) (selected unheld) ≡ tally 18446744073709551615

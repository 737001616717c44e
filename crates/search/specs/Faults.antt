-- The refusals of a study: each fault's number, turn, place and layer.
use Rattle.std.specs.Prelude.{ℕ}
use Rattle.text.specs.declared.fault.Layer.{Layer}
use Rattle.text.specs.declared.fault.Layer.TheVariants as layer
use Rattle.table.specs.Faults as table
use Rattle.search.specs.declared.fault.Fault.{Fault}
use Rattle.search.specs.declared.fault.Fault.TheVariants.{Table, ShortSheet, StrayHold, NoOption, NoChance, WeightLine, Held, NotHeld, StillFree, ShortWork}

abbrev pub fault_number : Fault → ℕ
fault_number (Table f) = table.fault_number f
fault_number ShortSheet = 14
fault_number StrayHold = 15
fault_number (NoOption v) = 16
fault_number (NoChance v) = 17
fault_number (WeightLine l) = 17
fault_number (Held v) = 18
fault_number (NotHeld v) = 19
fault_number StillFree = 20
fault_number ShortWork = 21

-- when a call tries a refusal: by rising number
abbrev pub turn : Fault → ℕ
turn f = fault_number f

-- the place of a fault of a layer below, the variable that was given, or the line of a weight text, else 0
abbrev pub fault_place : Fault → ℕ
fault_place (Table f) = table.fault_place f
fault_place ShortSheet = 0
fault_place StrayHold = 0
fault_place (NoOption v) = v
fault_place (NoChance v) = v
fault_place (WeightLine l) = l
fault_place (Held v) = v
fault_place (NotHeld v) = v
fault_place StillFree = 0
fault_place ShortWork = 0

abbrev pub fault_layer : Fault → Layer
fault_layer (Table f) = table.fault_layer f
fault_layer ShortSheet = layer.Study
fault_layer StrayHold = layer.Study
fault_layer (NoOption v) = layer.Study
fault_layer (NoChance v) = layer.Study
fault_layer (WeightLine l) = layer.Study
fault_layer (Held v) = layer.Study
fault_layer (NotHeld v) = layer.Study
fault_layer StillFree = layer.Study
fault_layer ShortWork = layer.Study

-- Sets of variables as numbers: bit v - 1 stands for variable v.
use Rattle.std.specs.Prelude.{◌≡◌, ℕ, zero, suc, ◌+◌, ◌-◌, ◌*◌, ◌^◌, Bool, true, not, List, [], ◌∷◌, ◌++◌, map, length, replicate, ◌==◌, bit_and, if◌then◌else◌}
use Rattle.table.specs.declared.sets.Mentions.{Mentions}
use Rattle.table.specs.Circuit.{Shape, Vars, mentions}
use Rattle.table.specs.Sound.{Roles, known, is_option}

-- the set of one variable
abbrev pub bit : ℕ → ℕ
bit v = 2 ^ (v - 1)

-- whether a variable is in a set
abbrev pub has_bit : ℕ → ℕ → Bool
has_bit v set = not (bit_and set (bit v) == 0)

-- the set of the options, all 64 bits of it
abbrev pub OptionSet : Roles → ℕ → Type 0
OptionSet rs set = (v : ℕ) → known 64 v ≡ true → has_bit v set ≡ is_option rs v

-- the set of the chances
unfoldable pub chance_mask : Roles → ℕ
chance_mask [] = 0
chance_mask (r ∷ rs) = chance_mask rs * 2 + (if r then 0 else 1)

-- the variables i to i + k - 1 of a set, the lowest bit first
unfoldable pub packed : ℕ → Vars → ℕ → ℕ
packed i m zero = 0
packed i m (suc k) = packed (i + 1) m k * 2 + (if m i then 1 else 0)

-- the variables 1 to n of a set
abbrev pub mask : ℕ → Vars → ℕ
mask n m = packed 1 m n

-- what each node mentions, of n variables, with zeros behind the last node
abbrev pub mentions_of : ℕ → List Shape → Mentions
mentions_of n ss = record { sets = map (mask n) (mentions ss) ++ replicate (4096 - length ss) 0 }

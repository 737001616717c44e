-- Numbers as text.
use Rattle.std.specs.Prelude.{◌≡◌, ℕ, ◌+◌, ◌-◌, ◌*◌, ◌≤◌, Bool, not, ◌&&◌, ◌||◌, List, [], ◌∷◌, length, Some, None, decimal, Option, ◌==◌, nat_le, slice_index, if◌then◌else◌}
use Rattle.std.specs.Str.{all_ascii_digits}

-- the number that digits write, behind those that write n
abbrev pub value_on : ℕ → List ℕ → ℕ
value_on n [] = n
value_on n (d ∷ ds) = value_on (n * 10 + (d - 48)) ds

-- that number, if all are digits and it is at most `cap`
abbrev pub digits_upto : ℕ → ℕ → List ℕ → Option ℕ
digits_upto cap n ds = if all_ascii_digits ds && nat_le (value_on n ds) cap then Some (value_on n ds) else None

-- 1 to `most` bytes, with no leading zero but in 0 itself
abbrev pub numeral_shaped : ℕ → List ℕ → Bool
numeral_shaped most ds = nat_le 1 (length ds) && nat_le (length ds) most && (not (slice_index ds 0 == 48) || length ds == 1)

-- the number that a field writes in at most `most` digits, if it is at most `cap`
unfoldable pub numeral : ℕ → ℕ → List ℕ → Option ℕ
numeral most cap ds = if numeral_shaped most ds then digits_upto cap 0 ds else None

-- the field is the text of n, has at most `most` digits, and n is at most `cap`
abbrev pub IsTextOf : (most cap n : ℕ) → List ℕ → Type 0
IsTextOf most cap n f = (f ≡ decimal n) × (length f ≤ most) × (n ≤ cap)

-- a number of the table file: at most 65535
abbrev pub number : List ℕ → Option ℕ
number ds = numeral 5 65535 ds

-- Holds, and what it is to keep them.
use Rattle.std.specs.Prelude.{◌≡◌, ℕ, ◌-◌, Bool, true, false, not, List, slice_index_or}
use Rattle.std.specs.List.{filter}
use Rattle.table.specs.Circuit.{World}
use Rattle.table.specs.Sound.{Roles, is_option, options}
use Rattle.passes.specs.declared.holds.Entry.{Entry}
use Rattle.passes.specs.declared.holds.Entry.TheVariants.{Free, On, Off}

-- a list of entries, variable 1 first; what stands behind it is free
abbrev pub Entries : Type 0
Entries = List Entry

abbrev pub entry : Entries → ℕ → Entry
entry h v = slice_index_or h (v - 1) Free

abbrev pub is_free : Entry → Bool
is_free Free = true
is_free On = false
is_free Off = false

-- whether an entry says that the side b is not taken
abbrev pub denies : Entry → Bool → Bool
denies Free b = false
denies On b = not b
denies Off b = b

-- the selection that the holds make, with every free option off
abbrev pub held_on : Entry → Bool
held_on Free = false
held_on On = true
held_on Off = false

abbrev pub selected : Entries → World
selected h = λ v. held_on (entry h v)

-- the free options, by rising number
abbrev pub free : Roles → Entries → List ℕ
free rs h = filter (λ v. is_free (entry h v)) (options rs)

module _ (rs : Roles) where
  -- a selection keeps the holds if each held option is as it is held
  abbrev pub Keeps : Entries → World → Type 0
  Keeps h w = (v : ℕ) → is_option rs v ≡ true → (entry h v ≡ On → w v ≡ true) × (entry h v ≡ Off → w v ≡ false)

  -- each option is held
  abbrev pub Complete : Entries → Type 0
  Complete h = (v : ℕ) → is_option rs v ≡ true → is_free (entry h v) ≡ false

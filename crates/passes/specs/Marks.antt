-- One entry of the holds, read and changed by its variable's number.
use Rattle.std.specs.Prelude.{ℕ, ◌-◌, Bool, true, false, ◌==◌, slice_set, if◌then◌else◌}
use Rattle.passes.specs.declared.holds.Entry.{Entry}
use Rattle.passes.specs.declared.holds.Entry.TheVariants.{Free, On, Off}
use Rattle.passes.specs.Holding.{Entries, entry}

-- the entry of a variable; a number that no variable has is free
abbrev pub entry_at : Entries → ℕ → Entry
entry_at h v = if v == 0 then Free else entry h v

-- the holds with one entry changed, if the variable has one
abbrev pub with_entry : Entries → ℕ → Entry → Entries
with_entry h v e = if v == 0 then h else slice_set h (v - 1) e

-- the entry of an option that is held on (or off)
abbrev pub held : Bool → Entry
held true = On
held false = Off

-- Sets of options as numbers: bit v - 1 stands for variable v.
use Rattle.std.specs.Prelude.{◌≡◌, ℕ, true, ◌&&◌, length}
use Rattle.table.specs.Circuit.{about}
use Rattle.table.specs.Sets.{has_bit}
use Rattle.table.specs.Sound.{known, is_option}
use Rattle.passes.specs.Holding.{Entries, entry, is_free}
use Rattle.passes.specs.Problem.{Problem}
use Rattle.passes.specs.Rows.{open_at}

-- the variables that are not held
abbrev pub FreeVariables : Entries → ℕ → Type 0
FreeVariables h set = (v : ℕ) → known 64 v ≡ true → has_bit v set ≡ is_free (entry h v)

module _ {F : Type 0} (p : Problem F) where
  -- the options among them
  abbrev pub FreeOptions : ℕ → Type 0
  FreeOptions set =
      (v : ℕ) → known (length p.roles) v ≡ true → has_bit v set ≡ (is_option p.roles v && is_free (entry p.holds v))

  -- and of these those that node i mentions
  abbrev pub OpenOptions : (i set : ℕ) → Type 0
  OpenOptions i set =
      (v : ℕ) → known (length p.roles) v ≡ true
      → has_bit v set ≡ (is_option p.roles v && open_at p.holds (about p.circuit i) v)

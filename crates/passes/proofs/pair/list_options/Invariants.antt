use Rattle.std.proofs.Common.{◌≡◌, ℕ, ◌≤◌, List, ◌++◌, take}
use Rattle.table.specs.Sound.{Roles, options}
use Rattle.table.specs.Whole.{roles}
use Rattle.passes.proofs.Options.{rest_from}
use Rattle.passes.proofs.pair.list_options.Given as goal

pub record Listing (rs : Roles) (out : List ℕ) (n i : ℕ) : Type 0 where
  pub listed : take n out ++ rest_from rs i ≡ options rs
  pub few : n ≤ i

abbrev pub invariant-loop-i : goal.invariant-loop-i
invariant-loop-i l = Listing (roles l.table) l.out l.count l.i

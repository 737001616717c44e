use Rattle.std.proofs.Common.{length}
use Rattle.table.specs.Sound.{options}
use Rattle.table.specs.Whole.{circuit, roles}
use Rattle.search.specs.Listing.{root_mentions}
use Rattle.search.proofs.Listing.{Listing}
use Rattle.search.proofs.choice.list_choices.Given as goal

abbrev pub invariant-loop-index : goal.invariant-loop-index
invariant-loop-index l = Listing (root_mentions (circuit l.table)) l.holds.entries (options (roles l.table)) l.out l.count (length l.yielded)

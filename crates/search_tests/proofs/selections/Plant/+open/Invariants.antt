use Rattle.search_tests.proofs.selections.Plant.+open.Given as goal

abbrev pub decreases-open : goal.decreases-open
decreases-open g l = l.levels

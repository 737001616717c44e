use Rattle.kinds.proofs.line.+behind_fields.Given as goal

abbrev pub decreases-behind_fields : goal.decreases-behind_fields
decreases-behind_fields l = l.count

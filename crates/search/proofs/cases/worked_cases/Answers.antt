use Rattle.std.proofs.Common.{refl}
use Rattle.search.proofs.Worked.{worked}
use Rattle.search.proofs.cases.worked_cases.Goals as goal

pub returns : goal.returns
returns c = record { many = refl; met = worked }

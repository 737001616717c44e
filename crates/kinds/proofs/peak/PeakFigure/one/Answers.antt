use Rattle.std.proofs.Common.{refl}
use Rattle.kinds.specs.PeakLaws.{same_peak}
use Rattle.kinds.proofs.peak.PeakFigure.one.Goals as goal

pub returns : goal.returns
returns c = same_peak _ _ refl

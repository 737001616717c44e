use Rattle.std.proofs.Common.{sym, ◌∙◌, ap₂}
use Rattle.kinds.specs.Peaks.{peak_product}
use Rattle.kinds.specs.PeakLaws.{same_peak}
use Rattle.kinds.proofs.peak.PeakFigure.times.Goals as goal

pub returns-in-Load-Load : goal.returns-in-Load-Load
returns-in-Load-Load c = same_peak _ _ c.saturating_add.ensures ∙ sym (ap₂ peak_product c.in-Load-Load.is-0 c.in-Load-Load.is-1)

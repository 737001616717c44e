use Rattle.report.proofs.plant.plant_report.Goals as goal

pub returns : goal.returns
returns g c = c.printed.ensures _ c.file_report.ensures

use Rattle.std.proofs.Common.{string_bytes}
use Rattle.parts.proofs.Filling.{parts_of}
use Rattle.workday.proofs.Telling.{read_told}
use Rattle.workday.proofs.story.tell.Goals as goal

pub returns-in-Ok : goal.returns-in-Ok
returns-in-Ok c =
    read_told string_bytes c.checked.result c.in-Ok.parts c.args.file.now (parts_of _ _ _ _ _ c.largest-room.ensures c.in-Ok.is c.in_ok-parts.ensures) c.checked.ensures

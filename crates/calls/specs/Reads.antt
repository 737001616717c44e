-- What an answer says of a script.
use Rattle.std.specs.Prelude.{◌≡◌, Ok, Err, Result}
use Rattle.calls.specs.Script.{Read}
use Rattle.calls.specs.declared.script.Script.{Script}
use Rattle.calls.specs.declared.script.Malformed.{Malformed}

-- the calls and the file are those that the script says, or the line is its first that has not its form
abbrev pub Reads : {F : Type 0} → Read F → Result (Script F) Malformed → Type 0
Reads said (Ok s) = said ≡ Ok (s.calls.items, s.file.now)
Reads said (Err m) = said ≡ Err m.line

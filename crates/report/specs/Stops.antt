-- What an answer says of the text that is to be printed.
use Rattle.std.specs.Prelude.{◌≡◌, [], ◌∷◌, Ok, Err, Result, IfOk, string_bytes, String}
use Rattle.std.specs.declared.alloc.AllocError.{AllocError}
use Rattle.std.specs.declared.alloc.Global.{Global}
use Rattle.text.specs.Format.{listed}
use Rattle.text.specs.Printed.{Lines, PlainNames, text_of}
use Rattle.text.specs.declared.record.Variables.{Variables}
use Rattle.report.specs.Report.{refusal}
use Rattle.report.specs.declared.stop.Stop.{Stop}
use Rattle.report.specs.declared.stop.Stop.TheVariants.{Refused, NoMemory}

-- if there was memory for it, the text is these lines
abbrev pub Spells : Lines → Result (String Global) AllocError → Type 0
Spells ls answer = IfOk answer (λ s. string_bytes s ≡ text_of ls)

-- and if the names of the variables are of plain bytes
abbrev pub SpellsNames : Variables → Lines → Result (String Global) AllocError → Type 0
SpellsNames vs ls answer = IfOk answer (λ s. PlainNames (listed vs) → string_bytes s ≡ text_of ls)

-- a text is these lines, under what is taken for granted; a refusal is the only line; without memory nothing is said
abbrev pub Prints : Type 0 → Lines → Result (String Global) Stop → Type 0
Prints P ls (Ok s) = P → string_bytes s ≡ text_of ls
Prints P ls (Err (Refused f)) = ls ≡ refusal f ∷ []
Prints P ls (Err (NoMemory e)) = Unit {0}

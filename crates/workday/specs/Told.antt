-- What the program prints for a refused file, as bytes.
use Rattle.std.specs.Prelude.{◌≡◌, ℕ, List, ◌++◌, Some, None, Ok, Err, codes, Option, Result}
use Rattle.parts.specs.Parts.{largest, read_from}
use Rattle.text.specs.declared.fault.Fault as text
use Rattle.text.specs.declared.record.Node.{Node}
use Rattle.text.specs.declared.record.Contents.{Contents}
use Rattle.table.specs.Check.{check_says}
use Rattle.table.specs.declared.fault.Fault as table
use Rattle.table.specs.declared.fault.Fault.TheVariants.{Text}
use Rattle.table.specs.declared.sets.Mentions.{Mentions}
use Rattle.search.specs.declared.fault.Fault.{Fault}
use Rattle.search.specs.declared.fault.Fault.TheVariants.{Table}
use Rattle.workday.specs.Words.{refusal_words}

-- the line for a part of the input that is refused
abbrev pub refused_words : List ℕ → Fault → List ℕ
refused_words part f = codes "The " ++ (part ++ (codes " is refused: " ++ (refusal_words f ++ codes ".\n")))

-- the refusal in an answer of the check, if there is one
abbrev pub check_refusal : Result Mentions table.Fault → Option table.Fault
check_refusal (Ok m) = None
check_refusal (Err f) = Some f

-- the refusal in an answer of the reader, or of the check of the nodes and children read
abbrev pub read_refusal : Result Contents text.Fault → List Node → List ℕ → Option table.Fault
read_refusal (Ok c) ns cs = check_refusal (check_says c.variables ns cs)
read_refusal (Err f) ns cs = Some (Text f)

-- the refusal of a file by the reader or the check, if there is one
abbrev pub refusal_of : List ℕ → Option table.Fault
refusal_of file = read_refusal (read_from largest file).answer (read_from largest file).nodes (read_from largest file).children

-- a text says this refusal and nothing else, if there is one
abbrev pub SaysRefusal : Option table.Fault → List ℕ → Type 0
SaysRefusal (Some f) text = text ≡ refused_words (codes "plant file") (Table f)
SaysRefusal None text = Unit {0}

-- Refusals, calls and answers in words, as bytes.
use Rattle.std.specs.Prelude.{ℕ, Bool, List, [], ◌++◌, ◌==◌, Some, None, Ok, Err, codes, decimal, Option, if◌then◌else◌}
use Rattle.text.specs.declared.fault.Reason.{Reason}
use Rattle.text.specs.declared.fault.Reason.TheVariants as reason
use Rattle.text.specs.declared.fault.Fault.TheVariants as text
use Rattle.table.specs.declared.fault.Flaw.{Flaw}
use Rattle.table.specs.declared.fault.Flaw.TheVariants as flaw
use Rattle.table.specs.declared.fault.Fault.TheVariants as table
use Rattle.kinds.specs.declared.tally.Tally.{Tally}
use Rattle.search.specs.Faults.{fault_number, fault_place}
use Rattle.search.specs.declared.fault.Fault.{Fault}
use Rattle.search.specs.declared.fault.Fault.TheVariants.{Table, ShortSheet, StrayHold, NoOption, NoChance, WeightLine, Held, NotHeld, StillFree, ShortWork}
use Rattle.search.specs.declared.call.Call.{Call}
use Rattle.search.specs.declared.call.Call.TheVariants as call
use Rattle.search.specs.Day.{Answer}
use Rattle.search.specs.declared.call.Reply.TheVariants as reply
use Rattle.search.specs.declared.found.Selection.{Selection}

-- why a line is refused
abbrev pub reason_meaning : Reason → List ℕ
reason_meaning reason.Line = codes "a line is missing, not closed, not due, has not its fields, or has a byte that may not stand there"
reason_meaning reason.Number = codes "a number, literal or weight has not its form"
reason_meaning reason.Limit = codes "a count of the first line is outside its limits"
reason_meaning reason.Store = codes "there are more nodes or children than there is room for"
reason_meaning reason.Variable = codes "a variable's number, letter or name, or the count of options, breaks its rule"
reason_meaning reason.Children = codes "there are more or fewer children than the first line says"

-- why a node is refused
abbrev pub flaw_meaning : Flaw → List ℕ
flaw_meaning flaw.Order = codes "a child's number is not below its node's"
flaw_meaning flaw.Variable = codes "the variable of a literal or fork is not one of the plant's"
flaw_meaning flaw.Shared = codes "two parts that should stand apart mention one variable"
flaw_meaning flaw.Branch = codes "a branch of a fork lacks the literal of its side"
flaw_meaning flaw.Uneven = codes "the two branches of a fork mention different chances"
flaw_meaning flaw.Missing = codes "the root does not mention every chance"

-- what a refusal of any layer means
abbrev pub meaning_of : Fault → List ℕ
meaning_of (Table (table.Text text.Length)) = codes "the file is empty, or longer than 65,536 bytes"
meaning_of (Table (table.Text (text.Line r line))) = reason_meaning r
meaning_of (Table (table.Node f node)) = flaw_meaning f
meaning_of ShortSheet = codes "the sheet has too few figures"
meaning_of StrayHold = codes "something is held that is not an option of this plant"
meaning_of (NoOption v) = codes "this is not an option"
meaning_of (NoChance v) = codes "this is not a chance"
meaning_of (WeightLine l) = codes "what the line weighs is not a chance"
meaning_of (Held v) = codes "the option is held already"
meaning_of (NotHeld v) = codes "the option is not held"
meaning_of StillFree = codes "an option is still free"
meaning_of ShortWork = codes "the work table is too short"

-- the word for what a refusal's place is the number of
abbrev pub place_word : Fault → List ℕ
place_word (Table (table.Text text.Length)) = codes "place"
place_word (Table (table.Text (text.Line r line))) = codes "line"
place_word (Table (table.Node f node)) = codes "node"
place_word ShortSheet = codes "place"
place_word StrayHold = codes "place"
place_word (NoOption v) = codes "variable"
place_word (NoChance v) = codes "variable"
place_word (WeightLine l) = codes "line"
place_word (Held v) = codes "variable"
place_word (NotHeld v) = codes "variable"
place_word StillFree = codes "place"
place_word ShortWork = codes "place"

-- a refusal, with its number and its place
abbrev pub refusal_words : Fault → List ℕ
refusal_words f =
    codes "refusal " ++ (decimal (fault_number f)
    ++ (codes ", " ++ (place_word f
    ++ (codes " " ++ (decimal (fault_place f)
    ++ (codes ": " ++ meaning_of f))))))

abbrev pub side_word : Bool → List ℕ
side_word on = if on then codes "on" else codes "off"

-- a call, with the name of the variable that it is given
abbrev pub call_words : List ℕ → Call Tally → List ℕ
call_words name (call.Hold v on) = codes "Hold '" ++ (name ++ (codes "' " ++ side_word on))
call_words name (call.Release v) = codes "Release '" ++ (name ++ codes "'")
call_words name (call.Weigh v on off) = codes "Weigh '" ++ (name ++ (codes "' " ++ (decimal on.count ++ (codes " on and " ++ (decimal off.count ++ codes " off")))))
call_words name (call.Trial v on) = codes "Bound if '" ++ (name ++ (codes "' were held " ++ side_word on))
call_words name call.Figure = codes "Figure of the selection held"
call_words name call.Bound = codes "Bound on what can be reached under the holds"
call_words name call.Select = codes "Best selection under the holds"

-- what select found: the best selection, if there is one, with the openings and the names of the options that are on
abbrev pub best_words : List ℕ → ℕ → Option (Selection Tally) → List ℕ
best_words names openings (Some best) = codes "figure " ++ (decimal best.figure.count ++ (codes ", openings " ++ (decimal openings ++ (codes ", on: " ++ names))))
best_words names openings None = codes "none has a figure above 0, openings " ++ decimal openings

-- an answer, with the names of the options that are on in a selection that it gives
abbrev pub answer_words : List ℕ → Answer Tally → List ℕ
answer_words names (Ok reply.Done) = codes "done"
answer_words names (Ok (reply.Value figure)) = decimal figure.count
answer_words names (Ok (reply.Chosen found)) = best_words names found.openings found.best
answer_words names (Err f) = refusal_words f

-- what a plant with so many options is too small for
abbrev pub options_words : ℕ → List ℕ
options_words n =
    if n == 0 then codes "The plant has no option: none is held or tried.\n"
    else (if n == 1 then codes "The plant has no second option: none is tried.\n" else [])

-- what a plant with so many chances is too small for
abbrev pub chances_words : ℕ → List ℕ
chances_words n = if n == 0 then codes "The plant has no chance: no weight is revised.\n" else []

use Rattle.std.proofs.Common.{◌≡◌, [], length}
use Rattle.text.specs.Lines.{lines}
use Rattle.calls.specs.Script.{read_on}
use Rattle.calls.proofs.read.read_calls.Given as goal

-- what is left says what the whole text says
abbrev pub invariant-loop-calls : goal.invariant-loop-calls
invariant-loop-calls g l =
    read_on g.K.Written.notation l.calls.items l.rest (lines l.rest) ≡ read_on g.K.Written.notation [] l.initial.rest (lines l.initial.rest)

abbrev pub decreases-loop-calls : goal.decreases-loop-calls
decreases-loop-calls g l = length l.rest

-- What the check answers.
use Rattle.std.specs.Prelude.{ℕ, ◌+◌, Bool, ◌&&◌, List, length, Ok, Err, Result, nat_le, if◌then◌else◌}
use Rattle.text.specs.Format.{listed, option_count}
use Rattle.text.specs.declared.fault.Fault.TheVariants as text_fault
use Rattle.text.specs.declared.fault.Reason.TheVariants as reason
use Rattle.text.specs.declared.record.Node.{Node}
use Rattle.text.specs.declared.record.Variables.{Variables}
use Rattle.table.specs.declared.fault.Fault.{Fault}
use Rattle.table.specs.declared.fault.Fault.TheVariants as fault
use Rattle.table.specs.declared.sets.Mentions.{Mentions}
use Rattle.table.specs.Circuit.{Shape}
use Rattle.table.specs.Sound.{Roles, Verdict, sound, flawed, verdict}
use Rattle.table.specs.Nodes.{shapes, roles_of}
use Rattle.table.specs.Sets.{mentions_of}

-- at least one variable, of at most 64 that the type has, and 1 to 4096 nodes
abbrev pub counts_within : Variables → List Node → Bool
counts_within vs ns = nat_le 1 vs.count && (nat_le 1 (length ns) && nat_le (length ns) 4096)

-- at most 20 options
abbrev pub options_within : Variables → Bool
options_within vs = nat_le (option_count (listed vs)) 20

-- what the nodes mention if the circuit is sound, else its flaw
abbrev pub answer_by : Roles → List Shape → Verdict → Result Mentions Fault
answer_by rs ss sound = Ok (mentions_of (length rs) ss)
answer_by rs ss (flawed f i) = Err (fault.Node f i)

-- what the check answers of a circuit
abbrev pub circuit_says : Roles → List Shape → Result Mentions Fault
circuit_says rs ss = answer_by rs ss (verdict rs ss)

-- what the check answers: the limits come first, with the reader's refusals, then the circuit
unfoldable pub check_says : Variables → List Node → List ℕ → Result Mentions Fault
check_says vs ns cs =
    if counts_within vs ns
    then (if options_within vs
    then circuit_says (roles_of vs) (shapes cs ns)
    else Err (fault.Text (text_fault.Line reason.Variable (vs.count + 1))))
    else Err (fault.Text (text_fault.Line reason.Limit 1))

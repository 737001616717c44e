use Rattle.std.proofs.Common.{◌≡◌, ◌+◌, ◌≤◌, map, length, drop}
use Rattle.std.proofs.lemmas.List.Edits.{sets}
use Rattle.text.specs.Lines.{fields}
use Rattle.text.specs.Format.{number_or_zero}
use Rattle.text.proofs.nodes.write_numbers.Given as goal

-- what is left to write gives the store that is wanted
abbrev pub invariant-loop-i : goal.invariant-loop-i
invariant-loop-i l =
    (length l.yielded ≤ length (drop l.from (fields l.line)))
    × (sets l.store (l.first + length l.yielded) (map number_or_zero (drop (length l.yielded) (drop l.from (fields l.line)))) ≡ sets l.initial.store l.first (map number_or_zero (drop l.from (fields l.line))))

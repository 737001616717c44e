-- That accepted names are ASCII, and the variables few: for crates that print what was read.
use Rattle.std.specs.List.{list_all}
use Rattle.std.proofs.Common.{◌≡◌, ℕ, zero, suc, ◌<◌, ◌≤◌, true, ◌&&◌, eqb, leb, List, [], ◌∷◌, length, IsAscii, ⊎_elim, arith}
use Rattle.std.proofs.lemmas.Str.Ascii.{IsAscii-nil, IsAscii-cons}
use Rattle.std.proofs.lemmas.List.{length-take}
use Rattle.std.proofs.lemmas.Bool.{and_parts, or_cases, eqb-true, leb-true}
use Rattle.text.specs.Lines.{printable}
use Rattle.text.specs.Format.{listed, spelled, named_printable}
use Rattle.text.specs.Printed.{PlainNames}
use Rattle.text.specs.declared.record.Variable.{Variable}
use Rattle.text.specs.declared.record.Variables.{Variables}

-- printable names are ASCII
printable_low : (b : ℕ) → printable b ≡ true → b < 128
printable_low b h = ⊎_elim (λ e. omega (arith, eqb-true b 9 e)) (λ e. omega (arith, leb-true b 126 (and_parts (leb 32 b) (leb b 126) e).1)) (or_cases (eqb b 9) (leb 32 b && leb b 126) h)

printable_ascii : (bs : List ℕ) → list_all printable bs ≡ true → IsAscii bs
printable_ascii [] h = IsAscii-nil
printable_ascii (b ∷ bs) h = let q = and_parts (printable b) (list_all printable bs) h in IsAscii-cons b bs (printable_low b q.0) (printable_ascii bs q.1)

pub plain_names : (vs : List Variable) → list_all named_printable vs ≡ true → PlainNames vs
plain_names [] h k d l = absurd (omega arith)
plain_names (v ∷ vs) h zero d l = printable_ascii (spelled v.name) (and_parts (named_printable v) (list_all named_printable vs) h).0
plain_names (v ∷ vs) h (suc k) d l = plain_names vs (and_parts (named_printable v) (list_all named_printable vs) h).1 k d (omega arith)

pub variables_few : (vs : Variables) → length (listed vs) ≤ 64
variables_few vs = omega (arith, length-take vs.count vs.all, vs.fits)

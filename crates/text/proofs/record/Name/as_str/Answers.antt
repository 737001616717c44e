use Rattle.std.proofs.Common.{ℕ, List, IsAscii, subst, sym, ap, ◌∙◌}
use Rattle.text.proofs.Printed.{ascii_text}
use Rattle.text.proofs.record.Name.as_str.Goals as goal

pub returns-clause-ascii : goal.returns-clause-ascii
returns-clause-ascii c = λ plain.
    let P : List ℕ → Type 0 = λ bs. IsAscii bs in
    ap (λ s. s.now) c.unwrap_or.ensures
    ∙ ascii_text (λ s. s.now) _ c.as_bytes.result.now c.from_utf8.result _ c.from_utf8.ensures.cases (subst P (sym c.as_bytes.ensures) plain)
    ∙ c.as_bytes.ensures

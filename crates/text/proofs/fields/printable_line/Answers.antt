use Rattle.std.proofs.Common.{◌≡◌, ◌<◌, true, false, length, MatchOption, rules, arith}
use Rattle.std.specs.List.{AllWithin, HoldsAt}
use Rattle.std.proofs.lemmas.Bool.{eq-eqb, ne_eqb}
use Rattle.std.proofs.lemmas.Iterator.{YieldsList-from_slice, IsFirst-from_position}
use borrow.Author.Tests.{tests}
use Rattle.text.specs.Lines.{printable}
use Rattle.text.proofs.Clean.{clean_line, no_clean_line, no_end}
use Rattle.text.proofs.fields.printable_line.Goals as goal
use Rattle.text.proofs.fields.printable_line.Goals.{After-position}

-- the place of the first byte that may not stand in a line
stop : (c : After-position)
    → MatchOption c.position.result (AllWithin (λ x. printable x ≡ true) c.args.text.now 0 (length c.args.text.now))
    (λ i. (i < length c.args.text.now) × HoldsAt (λ x. printable x ≡ false) c.args.text.now i × AllWithin (λ x. printable x ≡ true) c.args.text.now 0 i)
stop c = IsFirst-from_position _ _ c.position.result (λ x. printable x ≡ false) (λ x. printable x ≡ true) c.position.ensures.ran (YieldsList-from_slice c.args.text.now cc) (λ x q k. search (rules, tests)) (λ x q k. search (rules, tests))

pub returns-in_err-end : goal.returns-in_err-end
returns-in_err-end c =
    let all = rw c.in_err-end.was at (stop (goal.at.returns-in_err-end c).After-position) in
    rw c.from_residual.ensures (no_end c.args.text.now (λ k l. all k 0 (omega arith) l))

pub returns-then-text-end-eq-NEWLINE : goal.returns-then-text-end-eq-NEWLINE
returns-then-text-end-eq-NEWLINE c =
    let first = rw c.in_ok-end.was at (stop (goal.at.returns-then-text-end-eq-NEWLINE c).After-position) in
    clean_line c.args.text.now c.in_ok-end.end first.0 (λ k l. first.2 k 0 (omega arith) l) (eq-eqb _ _ c.if-text-end-eq-NEWLINE.true)

pub returns-else-text-end-eq-NEWLINE : goal.returns-else-text-end-eq-NEWLINE
returns-else-text-end-eq-NEWLINE c =
    let first = rw c.in_ok-end.was at (stop (goal.at.returns-else-text-end-eq-NEWLINE c).After-position) in
    no_clean_line c.args.text.now c.in_ok-end.end first.0 (λ k l. first.2 k 0 (omega arith) l) (first.1 0) (ne_eqb _ _ c.if-text-end-eq-NEWLINE.false)

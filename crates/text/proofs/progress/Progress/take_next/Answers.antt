use Rattle.std.proofs.Common.{◌≡◌, drop, Some, None, Err, sym, ap, ◌∙◌, subst, arith}
use Rattle.std.specs.Option.{ok_or}
use Rattle.std.specs.Result.{result_ok}
use Rattle.std.proofs.lemmas.List.{take_rest, length-drop}
use Rattle.std.proofs.lemmas.Result.{err_from_is_err_and}
use Rattle.text.specs.declared.fault.Reason.TheVariants as reason
use Rattle.text.specs.Lines.{first_printable, lines, BeginsWithLine, BeginsWithPrintable}
use Rattle.text.specs.Steps.{sofar, rooms_of, says, first_says, next_says}
use Rattle.text.proofs.Limits.{same_err}
use Rattle.text.proofs.Sections.{refused_by, said_by, unprintable_first}
use Rattle.text.proofs.progress.Progress.take_next.Goals as goal
use Rattle.text.proofs.progress.Progress.take_next.Goals.{In_ok-line}

-- what is left begins with the line
begins : (c : In_ok-line) → BeginsWithPrintable (drop c.args.self.now.place c.args.file.now) c.in_ok-line.line.now
begins c =
    let found : c.printable_line.result ≡ Some c.in_ok-line.line = c.ok_or.ensures.ok_part ∙ ap result_ok c.in_ok-line.was in
    let cut = rw found at c.printable_line.ensures in
    (subst (λ xs. BeginsWithLine xs c.in_ok-line.line.now) (take_rest c.args.file.now c.args.self.now.place) cut.0, cut.1)

pub take_line-requires : goal.take_line-requires
take_line-requires c =
    let b = begins (goal.at.take_line-requires c).In_ok-line in
    record { due = c.requires.due; room = omega (arith, b.0.within, length-drop c.args.self.now.place c.args.file.now, c.requires.short, c.requires.within); printable = b.1 }

pub returns-in_err-line : goal.returns-in_err-line
returns-in_err-line c =
    let s = c.args.self.now in
    let p = err_from_is_err_and c.from_residual.result c.from_residual.ensures.1 in
    let missing : c.printable_line.result ≡ None = c.ok_or.ensures.ok_part ∙ ap result_ok c.in_err-line.was in
    let none = rw missing at c.printable_line.ensures in
    let why = same_err {A = _} _ _ (sym c.in_err-line.was ∙ c.ok_or.ensures.value ∙ ap (λ o. ok_or o reason.Line) missing) in
    rw (p.1, p.2) (refused_by (next_says c.args.file.now) s _ (unprintable_first s (lines (drop s.place c.args.file.now)) (ap (λ xs. first_printable (lines xs)) (sym (take_rest c.args.file.now s.place)) ∙ none) ∙ ap Err (sym why)))

pub returns : goal.returns
returns c =
    let s = c.args.self.now in
    let b = begins (goal.at.returns c).In_ok-line in
    said_by (says c.in_ok-line.line.now) (next_says c.args.file.now) s _ c.take_line.result (sym (ap (first_says (rooms_of s) (sofar s)) b.0.lines_are)) c.take_line.ensures

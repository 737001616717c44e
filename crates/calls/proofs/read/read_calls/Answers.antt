use Rattle.std.proofs.Common.{◌+◌, Err, sym, ap, ◌∙◌, arith}
use Rattle.std.proofs.lemmas.List.{take_rest}
use Rattle.text.specs.Lines.{lines}
use Rattle.calls.proofs.Reading.{file_begins, not_closed, has_not_its_form, goes_on}
use Rattle.calls.proofs.read.read_calls.Goals as goal

pub returns-in_default : goal.returns-in_default
returns-in_default g c =
    sym c.loop-calls.invariant
    ∙ not_closed g.K.Written.notation c.loop-calls.calls.items c.loop-calls.rest.now (sym c.begins_call.ensures ∙ c.loop-calls-test.true) c.in_default.ensures
    ∙ ap (λ n. Err (n + 2)) (omega (arith, c.len.ensures, c.loop-calls.calls.ok))

pub returns-in_default-call_line : goal.returns-in_default-call_line
returns-in_default-call_line g c =
    sym c.loop-calls.invariant
    ∙ has_not_its_form g.K.Written.notation c.loop-calls.calls.items c.loop-calls.rest.now (sym c.begins_call.ensures ∙ c.loop-calls-test.true)
    c.in-Some.content.now c.in-Some.ensures (sym c.in_default-call_line.ensures)
    ∙ ap (λ n. Err (n + 2)) (omega (arith, c.len.ensures, c.loop-calls.calls.ok))

pub loop-calls-preserved : goal.loop-calls-preserved
loop-calls-preserved g c =
    goes_on g.K.Written.notation c.loop-calls.calls.items c.loop-calls.rest.now (sym c.begins_call.ensures ∙ c.loop-calls-test.true)
    c.in-Some.content.now c.in-Some.ensures c.in-Some-call_line.call c.push.new.self.items _ (sym c.in-Some-call_line.ensures) c.in_ok-push.ensures.items (take_rest c.loop-calls.rest.now _)
    ∙ c.loop-calls.invariant

pub returns : goal.returns
returns g c =
    sym c.loop-calls.invariant
    ∙ file_begins g.K.Written.notation c.loop-calls.calls.items c.loop-calls.rest.now (lines c.loop-calls.rest.now) (sym c.begins_call.ensures ∙ c.loop-calls-test.false)

use Rattle.std.proofs.Common.{rules, ◌++◌, ◌∷◌, ap, ◌∙◌, refl, string_bytes, arith}
use Rattle.text.specs.Format.{listed}
use Rattle.text.proofs.Filled.{variables_few}
use Rattle.text.proofs.Printed.{begun, further, ended}
use Rattle.report.proofs.Naming.{names_text, named, unnamed}
use Rattle.report.proofs.answer.names_text.Goals as goal

pub is_on-requires : goal.is_on-requires
is_on-requires c = omega (arith, c.loop-number.invariant.counted, c.in-Some.ensures.steps.0.0)

pub loop-number-init : goal.loop-number-init
loop-number-init c = begun (names_text c.args.holds.now.entries) _ _ _ _ c.new-text.ensures.bytes (search rules) (search rules)

pub loop-number-preserved-in-Continue-1 : goal.loop-number-preserved-in-Continue-1
loop-number-preserved-in-Continue-1 c =
    let s = c.in-Some.ensures.steps in
    let v = c.in-Some.variable.now in
    further (names_text c.args.holds.now.entries) _ _ (string_bytes c.write.new.self) _ _ _ _ _ _ s.0 s.1 c.loop-number.invariant
    (λ ascii. named c.args.holds.now.entries c.in-Some.number v c.next.new.self.b.rest.now _ c.is_on.ensures (string_bytes c.loop-number.text) (string_bytes c.write.new.self) c.if-is_on.true
    (c.in_ok-write.ensures.bytes ∙ ap (λ w. string_bytes c.loop-number.text ++ 9 ∷ w) (c.as_str-name.ensures.ascii ascii)))

pub loop-number-preserved : goal.loop-number-preserved
loop-number-preserved c =
    let s = c.in-Some.ensures.steps in
    further (names_text c.args.holds.now.entries) _ _ (string_bytes c.loop-number.text) _ _ _ _ _ _ s.0 s.1 c.loop-number.invariant
    (λ ascii. unnamed c.args.holds.now.entries c.in-Some.number c.in-Some.variable.now c.next.new.self.b.rest.now _ c.is_on.ensures (string_bytes c.loop-number.text) c.if-is_on.false)

pub returns : goal.returns
returns c =
    let vs = c.args.variables.now in
    ended (names_text c.args.holds.now.entries) (listed vs) _ _ _ _ (variables_few vs) (omega arith) (λ n. refl) c.loop-number.invariant c.in-None.ensures.steps

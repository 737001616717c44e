use Rattle.std.proofs.Common.{◌≡◌, ◌+◌, ◌-◌, ℕ, ◌∷◌, length, take, drop, sym, ap, ◌∙◌, rules, arith}
use Rattle.std.proofs.lemmas.Iterator.{YieldsList-from_slice, IsFirst-from_position}
use Rattle.std.proofs.lemmas.List.{take_rest}
use borrow.Author.Tests.{tests}
use Rattle.text.specs.Lines.{fields}
use Rattle.text.proofs.Cuts.{IsFirst}
use Rattle.text.proofs.Cuts.{some_field}
use Rattle.kinds.proofs.Fields.{no_tab, tab_at, dropped_more}
use Rattle.kinds.proofs.line.+behind_fields.Goals as goal
use Rattle.kinds.proofs.line.+behind_fields.Goals.{After-position, After-behind_fields}

first : (t : ℕ) (c : After-position t) → IsFirst 9 c.args.text.now c.position.result
first t c = IsFirst-from_position _ _ c.position.result (λ x. x ≡ 9) (λ x. x ≡ 9 → ⊥) c.position.ensures.ran (YieldsList-from_slice c.args.text.now cc) (λ x q k. search (rules, tests)) (λ x q k. search (rules, tests))

pub returns-then-count-eq0-clause-none : goal.returns-then-count-eq0-clause-none
returns-then-count-eq0-clause-none t c few = let some = some_field c.args.text.now in absurd (omega (arith, some, c.if-count-eq0.true))

-- the text is a field, a tab, and what the call was passed
parted : (t : ℕ) (c : After-behind_fields t) → fields c.args.text.now ≡ take c.in-Some.end c.args.text.now ∷ fields (take (length c.args.text.now - (c.in-Some.end + 1)) (drop (c.in-Some.end + 1) c.args.text.now))
parted t c =
    tab_at c.args.text.now c.position.result (first t (goal.at.returns-in-Some-clause-some t c).After-position) c.in-Some.end c.in-Some.is
    ∙ ap (λ xs. take c.in-Some.end c.args.text.now ∷ fields xs) (sym (take_rest c.args.text.now (c.in-Some.end + 1)))

pub returns-in-Some-clause-some : goal.returns-in-Some-clause-some
returns-in-Some-clause-some t c = dropped_more c.args.count _ _ _ _ (omega (arith, c.if-count-eq0.false)) (parted t c) c.behind_fields.ensures.some

pub returns-in-Some-clause-none : goal.returns-in-Some-clause-none
returns-in-Some-clause-none t c few = c.behind_fields.ensures.none (omega (arith, ap length (parted t c), c.if-count-eq0.false, few))

pub returns-in-None-clause-some : goal.returns-in-None-clause-some
returns-in-None-clause-some t c more =
    let one = ap length (no_tab c.args.text.now c.position.result (first t (goal.at.returns-in-None-clause-some t c).After-position) c.in-None.is) in
    absurd (omega (arith, one, c.if-count-eq0.false, more))

use Rattle.std.proofs.Common.{◌≡◌, sym, ◌∙◌, rules}
use Rattle.std.proofs.lemmas.Iterator.{YieldsList-from_slice, IsFirst-from_position}
use borrow.Author.Tests.{tests}
use Rattle.text.proofs.Cuts.{IsFirst, index_at}
use Rattle.text.proofs.fields.find.Goals as goal
use Rattle.text.proofs.fields.find.Goals.{After-position}

first : (c : After-position) → IsFirst c.args.byte c.args.text.now c.position.result
first c = IsFirst-from_position _ _ c.position.result (λ x. x ≡ c.args.byte) (λ x. x ≡ c.args.byte → ⊥) c.position.ensures.ran (YieldsList-from_slice c.args.text.now cc) (λ x q k. search (rules, tests)) (λ x q k. search (rules, tests))

pub returns-clause-value : goal.returns-clause-value
returns-clause-value c = c.unwrap_or.ensures ∙ sym (index_at c.args.byte c.args.text.now c.position.result (first (goal.at.returns-clause-value c).After-position))

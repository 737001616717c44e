use Rattle.std.proofs.Common.{◌≡◌, Some, None, List, ℕ, [], Option, eqb, refl, ap, ◌∙◌, rules}
use Rattle.std.proofs.lemmas.Iterator.Consumers.{nth_from_yields_List}
use Rattle.std.proofs.lemmas.Iterator.Splits.{YieldsList-from_slice_split}
use Rattle.std.proofs.lemmas.Option.{unwrap_or-slice_get}
use Rattle.std.specs.List.{slice_get}
use Rattle.std.specs.Option.{option_map, unwrap_or}
use borrow.Author.Tests.{tests}
use denote.Ref.{Bor}
use Rattle.text.specs.Lines.{fields}
use Rattle.text.proofs.fields.field.Goals as goal

-- what a borrowed item or a default refers to
lent : (r : Option (Bor (List ℕ))) (d : Bor (List ℕ)) → (unwrap_or r d).now ≡ unwrap_or (option_map (λ x. x.now) r) d.now
lent None d = refl
lent (Some x) d = refl

pub returns : goal.returns
returns c =
    let fs = fields c.args.line.now in
    let found : option_map (λ x. x.now) c.nth.result ≡ slice_get fs c.args.k =
    nth_from_yields_List c.nth.result _ c.args.k c.nth.ensures.ran
    (YieldsList-from_slice_split _ (λ b. eqb b 9) c.args.line.now c.split.ensures.rest c.split.ensures.done c.split.ensures.closure (λ x b q k. search (rules, tests))) in
    ap (λ x. x.now) c.unwrap_or.ensures ∙ lent c.nth.result _ ∙ ap (λ o. unwrap_or o []) found ∙ unwrap_or-slice_get fs c.args.k []

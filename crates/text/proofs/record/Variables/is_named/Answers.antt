use Rattle.std.proofs.Common.{ap, ◌∙◌, rules}
use Rattle.std.specs.Str.{bytes_eq}
use Rattle.std.proofs.lemmas.Iterator.{YieldsList-from_slice}
use Rattle.std.proofs.lemmas.Iterator.Search.{any_from_yields_List}
use borrow.Author.Tests.{tests}
use Rattle.text.specs.Format.{is_named, spelled}
use Rattle.text.proofs.record.Variables.is_named.Goals as goal

pub returns : goal.returns
returns c =
    any_from_yields_List (λ v. bytes_eq (spelled v.name) c.args.name.now) _ _ _ c.any.ensures.ran (YieldsList-from_slice c.as_slice.result.now cc) (λ x b q k. search (rules, tests))
    ∙ ap (is_named c.args.name.now) c.as_slice.ensures

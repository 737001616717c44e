use Rattle.std.proofs.Common.{ap, ◌∙◌, rules}
use Rattle.std.proofs.lemmas.Iterator.{YieldsList-from_slice}
use Rattle.std.proofs.lemmas.Iterator.Consumers.{count_from_yields_List, YieldsList-from_filter, YieldsList-at}
use borrow.Author.Tests.{tests}
use Rattle.text.specs.Format.{is_option_role, option_count}
use Rattle.text.proofs.record.Variables.options.Goals as goal

pub returns : goal.returns
returns c =
    count_from_yields_List c.filter.result _ c.count.ensures.ran
    (YieldsList-from_filter _ (λ v. is_option_role v.role) (YieldsList-at c.filter.ensures.source (YieldsList-from_slice c.as_slice.result.now cc)) c.filter.ensures.closure (λ x b q k. search (rules, tests)))
    ∙ ap option_count c.as_slice.ensures

use Rattle.std.proofs.Common.{◌≡◌, ◌+◌, eqb, length, ap, sym, ◌∙◌, rules}
use Rattle.std.specs.List.{filter}
use Rattle.std.proofs.lemmas.Iterator.{YieldsList-from_slice}
use Rattle.std.proofs.lemmas.Iterator.Consumers.{count_from_yields_List, YieldsList-from_filter, YieldsList-at}
use Rattle.std.proofs.lemmas.List.Splits.{length-slice_split}
use Rattle.std.proofs.lemmas.List.Sums.{length-filter}
use borrow.Author.Tests.{tests}
use Rattle.text.proofs.fields.field_count.Goals as goal

pub returns : goal.returns
returns c =
    let tabs : c.count.result ≡ length (filter (λ b. eqb b 9) c.args.line.now) =
    count_from_yields_List c.filter.result _ c.count.ensures.ran
    (YieldsList-from_filter _ (λ b. eqb b 9) (YieldsList-at c.filter.ensures.source (YieldsList-from_slice c.args.line.now cc)) c.filter.ensures.closure (λ x b k e. search (rules, tests))) in
    ap (λ n. n + 1) (tabs ∙ length-filter (λ b. eqb b 9) c.args.line.now) ∙ sym (length-slice_split (λ b. eqb b 9) c.args.line.now)

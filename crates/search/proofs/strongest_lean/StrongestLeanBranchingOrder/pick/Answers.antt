use Rattle.std.proofs.Common.{length, rules}
use Rattle.std.specs.List.{filter}
use Rattle.std.proofs.lemmas.Iterator.{YieldsList-from_slice}
use Rattle.std.proofs.lemmas.Iterator.Consumers.{YieldsList-at, YieldsList-from_copied, YieldsList-from_filter}
use Rattle.search.specs.declared.choice.Choice.{Choice}
use Rattle.passes.proofs.Chains.{reduce_given}
use Rattle.search.specs.Orders.{stronger}
use Rattle.search.proofs.Leading.{reduce_callable, strongest_told, filter_placed}
use Rattle.search.proofs.strongest_lean.StrongestLeanBranchingOrder.pick.Goals as goal
use borrow.Author.Tests.{tests}

pub reduce-requires-clause-callable : goal.reduce-requires-clause-callable
reduce-requires-clause-callable g c =
    let mentioned = filter (λ (x : Choice). x.mentioned) c.args.free.now in
    reduce_callable g.K.Figure.ring c.args.part.now _ _ _ (length c.args.part.now) (λ b d p q. search rules) (λ b d r q k. search rules) mentioned
    (YieldsList-from_filter _ (λ (x : Choice). x.mentioned) (YieldsList-at c.filter.ensures.source (YieldsList-from_copied (YieldsList-at c.copied.ensures.source (YieldsList-from_slice c.args.free.now cc)))) c.filter.ensures.closure (λ x b q k. search (rules, tests)))
    (filter_placed (length c.args.part.now) c.args.free.now c.requires.placed)

pub returns : goal.returns
returns g c =
    let R = g.K.Figure.ring in
    let part = c.args.part.now in
    let free = c.args.free.now in
    let mentioned = filter (λ (x : Choice). x.mentioned) free in
    let best = reduce_given _ _ _ (stronger R part) (λ b d r q k. search rules) mentioned
    (YieldsList-from_filter _ (λ (x : Choice). x.mentioned) (YieldsList-at c.filter.ensures.source (YieldsList-from_copied (YieldsList-at c.copied.ensures.source (YieldsList-from_slice free cc)))) c.filter.ensures.closure (λ x b q k. search (rules, tests)))
    c.reduce.result c.reduce.ensures.ran in
    strongest_told R part free c.requires.some _ c.unwrap_or.result c.reduce.result c.unwrap_or.ensures best

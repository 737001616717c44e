use Rattle.std.proofs.Common.{ℕ, Bool, ◌+◌, not, ◌&&◌, ◌∙◌, rules}
use Rattle.std.proofs.lemmas.Iterator.{YieldsList-from_slice}
use Rattle.std.proofs.lemmas.Iterator.Consumers.{YieldsList-from_enumerate}
use Rattle.std.proofs.lemmas.Iterator.Search.{any_from_yields_List}
use Rattle.table.specs.Sound.{is_option}
use Rattle.table.specs.Whole.{roles}
use Rattle.passes.specs.Holding.{is_free}
use Rattle.passes.specs.declared.holds.Entry.{Entry}
use Rattle.search.proofs.Testing.{any_variable}
use Rattle.search.proofs.requirements.has_stray.Goals as goal
use borrow.Author.Tests.{tests}

pub returns : goal.returns
returns c =
    let rs = roles c.args.table.now in
    let test : ℕ × Entry → Bool = λ p. not (is_option rs (p.0 + 1)) && not (is_free p.1) in
    any_from_yields_List test _ _ c.any.result c.any.ensures.ran (YieldsList-from_enumerate (YieldsList-from_slice c.args.entries.now (cc)) (cc)) (λ x b q k. search (rules, tests))
    ∙ any_variable (λ v e. not (is_option rs v) && not (is_free e)) c.args.entries.now

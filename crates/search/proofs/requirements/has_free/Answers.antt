use Rattle.std.proofs.Common.{ℕ, Bool, ◌&&◌, length, sym, refl, ap, ◌∙◌, arith, rules}
use Rattle.std.proofs.lemmas.Iterator.{YieldsList-from_range}
use Rattle.std.proofs.lemmas.Iterator.Search.{any_from_yields_List}
use Rattle.std.specs.List.{list_any, range_with_len}
use Rattle.table.specs.Sound.{is_option}
use Rattle.table.specs.Whole.{roles}
use Rattle.table.proofs.Asked.{variables_long}
use Rattle.passes.specs.Holding.{is_free}
use Rattle.passes.specs.Marks.{entry_at}
use Rattle.search.proofs.Testing.{any_free}
use Rattle.search.proofs.requirements.has_free.Goals as goal
use borrow.Author.Tests.{tests}

pub returns : goal.returns
returns c =
    let t = c.args.table.now in
    let n : ℕ = length c.as_slice.result.now in
    let test : ℕ → Bool = λ v. is_option (roles t) v && is_free (entry_at c.args.holds.now.entries v) in
    any_from_yields_List test _ _ c.any.result c.any.ensures.ran (YieldsList-from_range 1 _ n refl (omega arith)) (λ x b q k. search (rules, tests))
    ∙ ap (λ k. list_any test (range_with_len 1 k)) (ap length c.as_slice.ensures ∙ sym (variables_long t))
    ∙ any_free (roles t) c.args.holds.now.entries

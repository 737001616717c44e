use Rattle.std.proofs.Common.{◌≡◌, ℕ, ◌<◌, ◌≤◌, List, [], ◌∷◌, ◌++◌, length, get_or, take, sym, refl, ap, ◌∙◌, arith, rules}
use Rattle.std.specs.List.{filter, range_with_len}
use Rattle.std.proofs.lemmas.Iterator.{YieldsList-from_range}
use Rattle.std.proofs.lemmas.Iterator.Consumers.{YieldsList-at, YieldsList-from_filter, YieldsList-from_enumerate, YieldsList-turn, YieldsList-end}
use Rattle.std.proofs.lemmas.List.{length_push, get_or_default}
use Rattle.std.proofs.lemmas.List.FromFn.{length-enumerate_from}
use Rattle.text.specs.declared.record.Variable.{Variable}
use Rattle.text.specs.Format.{listed}
use Rattle.text.proofs.Stores.{enumerated}
use Rattle.table.specs.Sound.{is_option, options}
use Rattle.table.specs.Whole.{circuit, roles}
use Rattle.table.specs.declared.table.Table.{Table}
use Rattle.table.proofs.Asked.{variables_long, variables_few}
use Rattle.passes.proofs.Options.{option_there}
use Rattle.search.specs.Listing.{root_mentions, choices_from}
use Rattle.search.proofs.Listing.{one_listed, all_listed, options_filtered, options_few}
use Rattle.search.proofs.choice.list_choices.Goals as goal
use Rattle.search.proofs.choice.list_choices.Goals.{In-Some}
use borrow.Author.Tests.{tests}

-- the options that the loop goes over
filtered : (t : Table) {vs : List Variable} → vs ≡ listed t.variables → filter (is_option (roles t)) (range_with_len 1 (length vs)) ≡ options (roles t)
filtered t e = ap (λ n. filter (is_option (roles t)) (range_with_len 1 n)) (ap length e ∙ sym (variables_long t)) ∙ options_filtered (roles t)

-- the option that is due, with its index
turn : (c : In-Some) → (length c.loop-index.yielded < length (options (roles c.args.table.now))) × (c.in-Some.index ≡ length c.loop-index.yielded)
    × (c.in-Some.variable ≡ get_or (options (roles c.args.table.now)) (length c.loop-index.yielded) c.in-Some.variable)
turn c =
    let rs = roles c.args.table.now in
    let n : ℕ = length c.as_slice.result.now in
    rw (filtered c.args.table.now c.as_slice.ensures) at (enumerated (filter (is_option rs) (range_with_len 1 n)) (length c.loop-index.yielded) c.in-Some.index c.in-Some.variable
    (YieldsList-turn
    (YieldsList-at c.into_iter-index-iterator.ensures.into_iter_gives (YieldsList-from_enumerate (YieldsList-at c.enumerate-index-items.ensures.source
    (YieldsList-from_filter _ (is_option rs) (YieldsList-at c.filter-options.ensures.source (YieldsList-from_range 1 _ n refl (omega arith))) c.filter-options.ensures.closure (λ x b q k. search (rules, tests)))) c.enumerate-index-items.ensures.count))
    c.loop-index.yielded _ c.loop-index.yielded_by _ _ (c.in-Some.index, c.in-Some.variable) c.in-Some.is c.next.ensures.steps))

pub list_choice-count-requires : goal.list_choice-count-requires
list_choice-count-requires c =
    let t = c.args.table.now in
    let o = turn (goal.at.list_choice-count-requires c).In-Some in
    let known = option_there (roles t) (length c.loop-index.yielded) o.0 in
    let same = o.2 ∙ get_or_default (options (roles t)) (length c.loop-index.yielded) c.in-Some.variable 0 o.0 in
    let fewer : c.loop-index.count ≤ length c.loop-index.yielded = c.loop-index.invariant.fewer in
    record {
      variable = omega (arith, known.0.0, same);
      index = omega (arith, o.0, o.1, options_few (roles t), variables_few t);
      count = omega (arith, o.0, options_few (roles t), c.loop-index.auto.out, c.requires);
    }

pub loop-index-preserved : goal.loop-index-preserved
loop-index-preserved c =
    let t = c.args.table.now in
    let m = root_mentions (circuit t) in
    let h = c.args.holds.now.entries in
    let os = options (roles t) in
    let o = turn (goal.at.loop-index-preserved c).In-Some in
    rw (length_push c.loop-index.yielded (c.in-Some.index, c.in-Some.variable))
    (one_listed m h os c.loop-index.out c.loop-index.count (length c.loop-index.yielded) c.loop-index.invariant c.list_choice-count.new.out c.list_choice-count.result c.in-Some.variable o.0 o.2
    (c.list_choice-count.ensures.listed ∙ ap (λ j. take c.loop-index.count c.loop-index.out ++ choices_from m h j (c.in-Some.variable ∷ [])) o.1) c.list_choice-count.ensures.few)

pub returns : goal.returns
returns c =
    let t = c.args.table.now in
    let rs = roles t in
    let n : ℕ = length c.as_slice.result.now in
    let end = YieldsList-end
    (YieldsList-at c.into_iter-index-iterator.ensures.into_iter_gives (YieldsList-from_enumerate (YieldsList-at c.enumerate-index-items.ensures.source
    (YieldsList-from_filter _ (is_option rs) (YieldsList-at c.filter-options.ensures.source (YieldsList-from_range 1 _ n refl (omega arith))) c.filter-options.ensures.closure (λ x b q k. search (rules, tests)))) c.enumerate-index-items.ensures.count))
    c.loop-index.yielded _ c.loop-index.yielded_by _ _ c.in-None.is c.next.ensures.steps in
    let all : length c.loop-index.yielded ≡ length (options rs) = end.1 ∙ length-enumerate_from 0 (filter (is_option rs) (range_with_len 1 n)) ∙ ap length (filtered t c.as_slice.ensures) in
    let fewer : c.loop-index.count ≤ length c.loop-index.yielded = c.loop-index.invariant.fewer in
    record {
      listed = all_listed (root_mentions (circuit t)) c.args.holds.now.entries (options rs) c.loop-index.out c.loop-index.count (length c.loop-index.yielded) c.loop-index.invariant (omega arith);
      few = omega (arith, options_few rs);
    }

use Rattle.std.proofs.Common.{◌≡◌, ◌+◌, ◌<◌, ◌≤◌, eqb, map, length, get_or, drop, set, unwrap_or, sym, ap, ◌∙◌, ap₂, rules, arith}
use Rattle.std.proofs.lemmas.Iterator.Adapters.{YieldsList-from_skip}
use Rattle.std.proofs.lemmas.Iterator.Consumers.{YieldsList-at, YieldsList-from_enumerate, YieldsList-turn, YieldsList-end}
use Rattle.std.proofs.lemmas.Iterator.Splits.{YieldsList-from_slice_split}
use Rattle.std.proofs.lemmas.List.{length_push, length-map, at_drop_all}
use Rattle.std.proofs.lemmas.List.Edits.{sets, sets-eq}
use Rattle.std.proofs.lemmas.List.FromFn.{length-enumerate_from}
use borrow.Author.Tests.{tests}
use Rattle.text.specs.Lines.{fields}
use Rattle.text.specs.Format.{number_or_zero}
use Rattle.text.proofs.Stores.{enumerated, one_written}
use Rattle.text.proofs.nodes.write_numbers.Goals as goal
use Rattle.text.proofs.nodes.write_numbers.Goals.{In-Some}

-- the field that is due, at its place
turn : (c : In-Some) → (length c.loop-i.yielded < length (drop c.args.from (fields c.args.line.now))) × (c.in-Some.i ≡ length c.loop-i.yielded)
    × (c.in-Some.field.now ≡ get_or (drop c.args.from (fields c.args.line.now)) (length c.loop-i.yielded) c.in-Some.field.now)
turn c =
    enumerated (drop c.args.from (fields c.args.line.now)) (length c.loop-i.yielded) c.in-Some.i c.in-Some.field.now
    (YieldsList-turn
    (YieldsList-at c.into_iter-i-iterator.ensures.into_iter_gives (YieldsList-from_enumerate (YieldsList-at c.enumerate-i-items.ensures.source (YieldsList-from_skip c.args.from (YieldsList-at c.skip.ensures.source
    (YieldsList-from_slice_split _ (λ b. eqb b 9) c.args.line.now c.split.ensures.rest c.split.ensures.done c.split.ensures.closure (λ x b q k. search (rules, tests)))) c.skip.ensures.count)) c.enumerate-i-items.ensures.count))
    c.loop-i.yielded _ c.loop-i.yielded_by _ _ (c.in-Some.i, c.in-Some.field) c.in-Some.is c.next.ensures.steps)

pub bounds-store-first : goal.bounds-store-first
bounds-store-first c = let t = turn (goal.at.bounds-store-first c).In-Some in omega (arith, c.requires, c.loop-i.auto.store)

pub loop-i-preserved : goal.loop-i-preserved
loop-i-preserved c =
    let fs = drop c.args.from (fields c.args.line.now) in
    let store = c.loop-i.store in
    let first = c.args.first in
    let t = turn (goal.at.loop-i-preserved c).In-Some in
    let more = length_push c.loop-i.yielded (c.in-Some.i, c.in-Some.field) in
    let value = c.unwrap_or.ensures ∙ ap (λ o. unwrap_or o 0) c.read_number.ensures in (
      omega (arith, t.0),
      ap₂ (λ i n. sets (set store (first + i) c.unwrap_or.result) (first + n) (map number_or_zero (drop n fs))) t.1 more
          ∙ ap (λ v. sets (set store (first + length c.loop-i.yielded) v) (first + (length c.loop-i.yielded + 1)) (map number_or_zero (drop (length c.loop-i.yielded + 1) fs))) value
          ∙ one_written fs store first (length c.loop-i.yielded) c.in-Some.field.now t.0 t.2
          ∙ c.loop-i.invariant.1,
    )

pub returns : goal.returns
returns c =
    let fs = drop c.args.from (fields c.args.line.now) in
    let store = c.loop-i.store in
    let all = map number_or_zero fs in
    let fits : c.args.first + length all ≤ length c.args.store.now = omega (arith, c.requires, length-map fs number_or_zero) in
    let end =
    YieldsList-end
    (YieldsList-at c.into_iter-i-iterator.ensures.into_iter_gives (YieldsList-from_enumerate (YieldsList-at c.enumerate-i-items.ensures.source (YieldsList-from_skip c.args.from (YieldsList-at c.skip.ensures.source
    (YieldsList-from_slice_split _ (λ b. eqb b 9) c.args.line.now c.split.ensures.rest c.split.ensures.done c.split.ensures.closure (λ x b q k. search (rules, tests)))) c.skip.ensures.count)) c.enumerate-i-items.ensures.count))
    c.loop-i.yielded _ c.loop-i.yielded_by _ _ c.in-None.is c.next.ensures.steps in
    let past : length fs ≤ length c.loop-i.yielded = omega (arith, end.1, length-enumerate_from 0 fs) in
    sym (at_drop_all (λ gs. sets store (c.args.first + length c.loop-i.yielded) (map number_or_zero gs)) fs (length c.loop-i.yielded) past)
    ∙ c.loop-i.invariant.1
    ∙ sets-eq all c.args.store.now c.args.first fits

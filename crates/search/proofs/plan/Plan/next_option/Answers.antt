use Rattle.std.specs.List.{list_all}
use Rattle.std.proofs.Common.{◌≡◌, ℕ, ◌<◌, length, take, Some, sym, ap, ◌∙◌, arith}
use Rattle.std.proofs.lemmas.List.{length-take-le}
use Rattle.table.specs.Sound.{options}
use Rattle.table.specs.Whole.{circuit, roles}
use Rattle.table.proofs.Asked.{variables_few}
use Rattle.search.specs.Listing.{root_mentions, choices}
use Rattle.search.specs.Orders.{rising, options_of, placed, told}
use Rattle.search.specs.Select.{named}
use Rattle.search.proofs.Rising.{free_rising}
use Rattle.search.proofs.Told.{choices_free, choices_placed, told_some}
use Rattle.search.proofs.Turns.{next_at_some}
use Rattle.search.proofs.plan.Plan.next_option.Given as given
use Rattle.search.proofs.plan.Plan.next_option.Goals as goal
use Rattle.search.proofs.plan.Plan.next_option.Goals.{After-list_choices-count}

-- the choices that are listed
listed : (g : given.Over) (c : After-list_choices-count g) → take (c.list_choices-count.result) c.list_choices-count.new.out ≡ choices (roles c.args.self.now.table.now) (circuit c.args.self.now.table.now) c.args.holds.now.entries
listed g c = c.list_choices-count.ensures.listed

-- some option is free
some_listed : (g : given.Over) (c : After-list_choices-count g) → 0 < c.list_choices-count.result → 0 < length (take (c.list_choices-count.result) c.list_choices-count.new.out)
some_listed g c l =
    let n : ℕ = c.list_choices-count.result in
    let few = c.list_choices-count.ensures.few in
    let long = c.list_choices-count.auto.out in
    omega (arith, length-take-le n c.list_choices-count.new.out (omega (arith, variables_few c.args.self.now.table.now, few, long)))

pub pick-requires : goal.pick-requires
pick-requires g c =
    let t = c.args.self.now.table.now in
    let a = (goal.at.pick-requires g c).After-list_choices-count in
    record {
      some = some_listed g a (omega arith);
      rising = ap (λ cs. rising (options_of cs)) (listed g a)
          ∙ ap rising (choices_free (root_mentions (circuit t)) c.args.holds.now.entries 0 (options (roles t))) ∙ free_rising (roles t) c.args.holds.now.entries;
      placed = ap (list_all (placed (length c.args.part.now))) (listed g a)
          ∙ choices_placed (root_mentions (circuit t)) c.args.holds.now.entries 0 (options (roles t)) (length c.args.part.now) (omega (arith, c.requires));
    }

pub returns : goal.returns
returns g c =
    let t = c.args.self.now.table.now in
    let a = (goal.at.returns g c).After-list_choices-count in
    let pick = g.O.BranchingOrder.picks c.args.self.now.order.now in
    let R = g.K.Figure.ring in
    let part = c.args.part.now in
    ap Some c.pick.ensures ∙ told_some pick R part _ (some_listed g a (omega arith)) ∙ ap (λ cs. named pick (told R part cs)) (listed g a)
    ∙ sym (next_at_some c.args.levels _ (omega arith))

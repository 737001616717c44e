use Rattle.std.proofs.Common.{rules, ◌≡◌, reverse, ap, ◌∙◌, arith}
use Rattle.std.specs.List.{fold}
use Rattle.std.proofs.iter.runs.Made.{chains}
use Rattle.text.specs.Format.{listed}
use Rattle.table.proofs.Bits.{set_step}
use Rattle.table.proofs.Chances.{is_chance, fold_chances, roles_length, roles_few}
use Rattle.table.proofs.sets.chance_set.Goals as goal

pub returns : goal.returns
returns c =
    let vs = c.args.variables.now in
    let f : c.fold.result ≡ fold (set_step is_chance) 0 (reverse c.as_slice.result.now) = search (rules, chains) in
    f ∙ ap (λ l. fold (set_step is_chance) 0 (reverse l)) c.as_slice.ensures
    ∙ fold_chances (listed vs) (let e = roles_length vs in let few = roles_few vs in omega arith)

use Rattle.std.proofs.Common.{rules, ◌≡◌, ◌-◌, ◌<◌, ltb, leb, suc, reverse, sym, ap, ◌∙◌, arith}
use Rattle.std.specs.List.{fold}
use Rattle.std.proofs.iter.runs.Made.{chains}
use Rattle.std.proofs.lemmas.Bool.{and_parts, ltb-true}
use Rattle.text.specs.Format.{listed}
use Rattle.table.specs.Sets.{has_bit}
use Rattle.text.specs.Format.{is_option_role}
use Rattle.table.specs.Sound.{is_option}
use Rattle.table.specs.Whole.{roles}
use Rattle.table.proofs.Asked.{variables_long, variables_few}
use Rattle.table.proofs.Bits.{set_step, fold_bits, has_bit_of_bits}
use Rattle.table.proofs.Numbers.{role_at}
use Rattle.table.proofs.table.Table.option_set.Goals as goal

pub returns : goal.returns
returns c v k =
    let t = c.args.self.now in
    let some : 0 < v = ltb-true 0 v (and_parts (ltb 0 v) (leb v 64) k).0 in
    let back : suc (v - 1) ≡ v = omega arith in
    let f : c.fold.result ≡ fold (set_step (λ x. is_option_role x.role)) 0 (reverse c.as_slice.result.now) = search (rules, chains) in
    ap (has_bit v) (f ∙ ap (λ xs. fold (set_step (λ x. is_option_role x.role)) 0 (reverse xs)) c.as_slice.ensures ∙ fold_bits (λ x. is_option_role x.role) (listed t.variables) (omega (arith, variables_long t, variables_few t)))
    ∙ has_bit_of_bits (roles t) v ∙ sym (ap (is_option (roles t)) (sym back) ∙ role_at (roles t) (v - 1))

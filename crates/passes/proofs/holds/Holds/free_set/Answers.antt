use Rattle.std.proofs.Common.{rules, ◌≡◌, ◌-◌, leb, ltb, false, reverse, map, ap, ◌∙◌, arith}
use Rattle.std.specs.List.{fold}
use Rattle.std.proofs.iter.runs.Made.{chains}
use Rattle.std.proofs.lemmas.Bool.{and_parts, leb-true, ltb-true}
use Rattle.std.proofs.lemmas.List.{get_or-map}
use Rattle.table.specs.Sets.{has_bit}
use Rattle.passes.specs.Holding.{is_free}
use Rattle.passes.specs.declared.holds.Entry.TheVariants.{Free}
use Rattle.table.proofs.Bits.{set_step, fold_bits, has_bit_of_bits}
use Rattle.passes.proofs.holds.Holds.free_set.Goals as goal

pub returns : goal.returns
returns c v k =
    let h = c.args.self.now.entries in
    let known = and_parts (ltb 0 v) (leb v 64) k in
    let f : c.fold.result ≡ fold (set_step is_free) 0 (reverse h) = search (rules, chains) in
    ap (has_bit v) (f ∙ fold_bits is_free h (omega arith)) ∙ has_bit_of_bits (map is_free h) v ∙ get_or-map is_free h (v - 1) Free false (let few = leb-true v 64 known.1 in let some = ltb-true 0 v known.0 in omega arith)

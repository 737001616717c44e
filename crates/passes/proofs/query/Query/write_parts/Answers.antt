use Rattle.std.proofs.Common.{ℕ, ◌*◌, ◌++◌, ◌<◌, length, drop, sym, ap, ap₂, ◌∙◌, suc-mul, arith}
use Rattle.std.proofs.Math.Nat.{mul-le-mul_right}
use Rattle.std.proofs.lemmas.List.{length-take}
use Rattle.table.specs.Whole.{circuit, roles}
use Rattle.table.proofs.Asked.{proved_sound}
use Rattle.table.proofs.Sounds.{sound_proper}
use Rattle.passes.specs.Passes.{pairs, work}
use Rattle.passes.specs.Problem.{problem}
use Rattle.passes.specs.Rows.{part_in}
use Rattle.passes.proofs.Pairing.{parts_more, parted_all}
use Rattle.passes.proofs.Roots.{node_count}
use Rattle.passes.proofs.Sets.{free_options}
use Rattle.passes.proofs.query.Query.write_parts.Goals as goal

pub loop-node-preserved : goal.loop-node-preserved
loop-node-preserved g c =
    let t = c.args.self.now.table.now in
    let i : ℕ = c.loop-node.node in
    let inside : i < length (circuit t) = omega (arith, c.loop-node.invariant.many) in
    let p = problem c.args.self.now in
    let part = ap₂ (λ s vs. part_in g.K.Figure.ring p s c.split_at_mut-places.result.0.now i vs) (sym c.stride-stride.ensures) c.requires.listed in
    record {
      parts = parts_more g.K.Figure.ring p c.args.work.now c.stride-stride.result c.stride-stride.ensures
          (sound_proper (roles t) (circuit t) (proved_sound t)).ordered i inside c.loop-node.work _ _ _ c.loop-node.invariant.parts c.split_at_mut-places.ensures.front c.split_at_mut-places.ensures.back
          (c.write_part.ensures ∙ part);
      many = c.loop-node.invariant.many;
    }

pub returns : goal.returns
returns g c =
    let p = problem c.args.self.now in
    parted_all g.K.Figure.ring p c.args.work.now c.stride-stride.result
    (length c.args.self.now.table.now.nodes.now) c.loop-node.node c.loop-node.work c.loop-node.invariant c.loop-node.auto.node-end c.loop-node-test.false
    ∙ ap (λ s. work p.roles (pairs g.K.Figure.ring p) ++ drop (length p.circuit * s) c.args.work.now) c.stride-stride.ensures

pub write_part-requires-clause-part : goal.write_part-requires-clause-part
write_part-requires-clause-part g c =
    let t = c.args.self.now.table.now in
    let next = mul-le-mul_right c.stride-stride.result c.loop-node-test.true in
    let same = ap₂ (λ n s. n * s) (sym (node_count t)) c.stride-stride.ensures in
    omega (arith, next, same, length-take c.stride-stride.result c.split_at_mut-places.result.1.now, c.stride-stride.ensures, suc-mul c.loop-node.node c.stride-stride.result)

pub write_part-requires-clause-free : goal.write_part-requires-clause-free
write_part-requires-clause-free g c = free_options c.args.self.now c.option_set.result c.free_set.result c.option_set.ensures c.free_set.ensures

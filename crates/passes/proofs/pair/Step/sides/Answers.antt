use Rattle.std.proofs.Common.{get_or, sym}
use Rattle.std.proofs.lemmas.List.{get_or_default}
use Rattle.table.specs.NodeSets.{no_record}
use Rattle.passes.proofs.Reading.{node_ranged, node_readable}
use Rattle.passes.proofs.pair.Step.sides.Goals as goal

pub node_sides-requires-clause-ranged : goal.node_sides-requires-clause-ranged
node_sides-requires-clause-ranged g c =
    let s = c.args.self.now in
    let t = s.query.now.table.now in
    let n = get_or t.nodes.now s.node no_record in
    node_ranged t s.node s.inside n (get_or_default t.nodes.now s.node no_record n s.inside)

pub node_sides-requires-clause-readable : goal.node_sides-requires-clause-readable
node_sides-requires-clause-readable g c =
    let s = c.args.self.now in
    let t = s.query.now.table.now in
    let n = get_or t.nodes.now s.node no_record in
    node_readable t s.node s.inside n (get_or_default t.nodes.now s.node no_record n s.inside) s.values.stride _ (sym s.before)

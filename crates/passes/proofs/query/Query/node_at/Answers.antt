use Rattle.std.proofs.Common.{get_or, sym}
use Rattle.std.proofs.lemmas.List.{get_or_default}
use Rattle.table.specs.NodeSets.{no_record}
use Rattle.passes.proofs.Reading.{node_ranged, node_readable}
use Rattle.passes.proofs.query.Query.node_at.Goals as goal

pub node-requires-clause-ranged : goal.node-requires-clause-ranged
node-requires-clause-ranged g c =
    let t = c.args.self.now.table.now in
    let n = get_or t.nodes.now c.args.number no_record in
    node_ranged t c.args.number c.requires.node n (get_or_default t.nodes.now c.args.number no_record n c.requires.node)

pub node-requires-clause-readable : goal.node-requires-clause-readable
node-requires-clause-readable g c =
    let t = c.args.self.now.table.now in
    let n = get_or t.nodes.now c.args.number no_record in
    node_readable t c.args.number c.requires.node n (get_or_default t.nodes.now c.args.number no_record n c.requires.node) c.args.values.now.stride _ (sym c.requires.before)

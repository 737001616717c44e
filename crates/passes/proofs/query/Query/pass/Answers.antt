use Rattle.std.proofs.Common.{length}
use Rattle.table.specs.Whole.{circuit}
use Rattle.passes.specs.NodeReads.{value_in}
use Rattle.passes.specs.Ways.{walked}
use Rattle.passes.proofs.Passing.{passed_more, passed_all}
use Rattle.passes.proofs.query.Query.pass.Goals as goal

pub loop-number-preserved : goal.loop-number-preserved
loop-number-preserved g c =
    let t = c.args.self.now.table.now in
    passed_more (walked g.K.Figure.ring (g.W.Rule.way c.args.rule.now c.args.self.now) (value_in g.K.Figure.ring 1)) (circuit t) c.args.work.now
    (length t.nodes.now) c.loop-number.number c.loop-number.work c.loop-number.invariant _ c.loop-number-test.true c.requires.room c.node_at.ensures

pub returns : goal.returns
returns g c =
    let t = c.args.self.now.table.now in
    passed_all (walked g.K.Figure.ring (g.W.Rule.way c.args.rule.now c.args.self.now) (value_in g.K.Figure.ring 1)) (circuit t) c.args.work.now (length t.nodes.now) c.loop-number.number c.loop-number.work
    c.loop-number.invariant c.loop-number.auto.number-end c.loop-number-test.false

use Rattle.std.proofs.Common.{Ok, ap, ◌∙◌}
use Rattle.table.specs.Nodes.{roles_of}
use Rattle.table.proofs.Surveys.{stops, goes_on, misses, passes}
use Rattle.table.proofs.check.check_nodes.Goals as goal

pub returns-in-Some : goal.returns-in-Some
returns-in-Some c =
    stops c.args.variables.now c.args.children.now c.args.nodes.now c.loop-i.i c.loop-i.known c.as_slice-count.result.now c.chance_set-chances.result
    c.loop-i-test.true c.requires.few c.loop-i.invariant c.as_slice-count.ensures c.chance_set-chances.ensures c.in-Some.flaw c.in-Some.ensures

pub loop-i-preserved : goal.loop-i-preserved
loop-i-preserved c =
    goes_on c.args.variables.now c.args.children.now c.args.nodes.now c.loop-i.i c.loop-i.known c.as_slice-count.result.now c.chance_set-chances.result
    c.loop-i-test.true c.requires.few c.loop-i.invariant c.as_slice-count.ensures c.chance_set-chances.ensures c.in_default.ensures c.sets_of.result c.sets_of.ensures

pub returns-then-known-root : goal.returns-then-known-root
returns-then-known-root c =
    misses (roles_of c.args.variables.now) c.args.children.now c.args.nodes.now c.loop-i.i c.loop-i.known
    c.requires.some c.loop-i.auto.i-end c.loop-i-test.false c.requires.few c.loop-i.invariant c.chance_set-chances.result c.chance_set-chances.ensures c.if-known-root.true

pub returns : goal.returns
returns c =
    ap Ok c.mentions_of.ensures
    ∙ passes (roles_of c.args.variables.now) c.args.children.now c.args.nodes.now c.loop-i.i c.loop-i.known
    c.requires.some c.loop-i.auto.i-end c.loop-i-test.false c.requires.few c.loop-i.invariant c.chance_set-chances.result c.chance_set-chances.ensures c.if-known-root.false

use Rattle.std.proofs.Common.{sym, ◌∙◌}
use Rattle.std.proofs.lemmas.Bool.{both_ways, le-ltb}
use Rattle.table.proofs.Asked.{past_nodes, unknown_variable, bit_says}
use Rattle.table.proofs.table.Table.does_mention.Goals as goal
use Rattle.table.proofs.table.Table.does_mention.Goals.{then-node-self, else-node-self}

pub returns-then-has_variable : goal.returns-then-has_variable
returns-then-has_variable c = elim c.if-node-self.branch [
  | then-node-self w ↦ (let known = sym w.has_variable.ensures ∙ sym w.value-is ∙ c.if-has_variable.true in
      c.contains.ensures ∙ bit_says c.args.self.now c.args.node c.args.variable w.if-node-self.true known)
  | else-node-self w ↦ absurd (both_ways _ (le-ltb _ _ w.if-node-self.false) (sym w.value-is ∙ c.if-has_variable.true))
]

pub returns-else-has_variable : goal.returns-else-has_variable
returns-else-has_variable c = elim c.if-node-self.branch [
  | then-node-self w ↦ c.if-has_variable.false ∙ sym (unknown_variable c.args.self.now c.args.node c.args.variable (sym w.has_variable.ensures ∙ sym w.value-is ∙ c.if-has_variable.false))
  | else-node-self w ↦ c.if-has_variable.false ∙ sym (past_nodes c.args.self.now c.args.node c.args.variable w.if-node-self.false)
]

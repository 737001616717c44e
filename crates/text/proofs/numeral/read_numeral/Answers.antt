use Rattle.std.proofs.Common.{arith, rules}
use Rattle.text.specs.Numerals.{numeral}
use Rattle.text.proofs.Decimals.{exact_from}
use Rattle.text.proofs.numeral.read_numeral.Goals as goal

pub returns-in_default-2-clause-exact : goal.returns-in_default-2-clause-exact
unfolding numeral
returns-in_default-2-clause-exact c = exact_from c.args.most c.args.cap c.args.field.now _ (omega arith) (search rules)

pub returns-in-empty-clause-exact : goal.returns-in-empty-clause-exact
unfolding numeral
returns-in-empty-clause-exact c = exact_from c.args.most c.args.cap c.args.field.now _ (omega arith) (search rules)

pub returns-in-empty-2-clause-exact : goal.returns-in-empty-2-clause-exact
unfolding numeral
returns-in-empty-2-clause-exact c = exact_from c.args.most c.args.cap c.args.field.now _ (omega arith) (search rules)

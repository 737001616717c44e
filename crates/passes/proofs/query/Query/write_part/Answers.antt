use Rattle.passes.proofs.Sets.{open_options}
use Rattle.passes.proofs.query.Query.write_part.Goals as goal

pub invariant_of-step-clause-set : goal.invariant_of-step-clause-set
invariant_of-step-clause-set g c = open_options c.args.self.now c.args.node c.args.free c.requires.node c.requires.free

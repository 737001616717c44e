use Rattle.std.proofs.Common.{Ok, refl, sym, ap, ◌∙◌, arith}
use Rattle.kinds.specs.Tallies.{tally}
use Rattle.kinds.specs.TallyLaws.{same_count}
use Rattle.kinds.proofs.Numbers.{number_made}
use Rattle.kinds.proofs.tally.TallyWritten.read.Goals as goal

pub returns : goal.returns
returns c =
    ap Ok (same_count _ _ (omega arith))
    ∙ number_made 20 18446744073709551615 _ c.args.text.now c.read_numeral.result c.in_ok-count.count refl c.read_numeral.ensures.value (sym c.ok_or.ensures.value ∙ c.in_ok-count.was) tally

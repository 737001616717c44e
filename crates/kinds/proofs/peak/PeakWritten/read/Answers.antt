use Rattle.std.proofs.Common.{◌≤◌, Ok, sym, ap, ◌∙◌, arith}
use Rattle.std.specs.Str.{bytes_eq}
use Rattle.std.proofs.lemmas.Bool.{cond-false}
use Rattle.kinds.specs.Peaks.{load}
use Rattle.kinds.specs.PeakLaws.{same_peak}
use Rattle.kinds.specs.declared.peak.Peak.TheVariants as peak
use Rattle.kinds.proofs.Numbers.{number_low, number_made}
use Rattle.kinds.proofs.peak.PeakWritten.read.Goals as goal

low : (c : goal.In_ok-watts) → c.in_ok-watts.watts ≤ 4294967295
low c = number_low 10 4294967295 _ c.args.text.now c.read_numeral.result c.in_ok-watts.watts c.from.ensures c.read_numeral.ensures.value (sym c.ok_or.ensures.value ∙ c.in_ok-watts.was)

pub overflow_cast-result : goal.overflow_cast-result
overflow_cast-result c = omega (arith, low c)

pub invariant_of-result : goal.invariant_of-result
invariant_of-result c = record { fits = low c }

pub returns : goal.returns
returns c =
    ap Ok (same_peak _ _ (omega arith))
    ∙ number_made 10 4294967295 _ c.args.text.now c.read_numeral.result c.in_ok-watts.watts c.from.ensures c.read_numeral.ensures.value (sym c.ok_or.ensures.value ∙ c.in_ok-watts.was) (λ n. peak.Load (load n))
    ∙ sym (cond-false _ _ _ (ap (bytes_eq c.args.text.now) (sym c.as_slice.ensures) ∙ sym c.eq.ensures ∙ c.if-eq.false))

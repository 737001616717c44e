use Rattle.std.proofs.Common.{◌<◌, length, set, ap, ◌∙◌, arith}
use Rattle.std.proofs.lemmas.List.{length_push}
use Rattle.text.specs.Format.{blank}
use Rattle.text.proofs.Names.{same_variables, written_more}
use Rattle.text.proofs.record.Variables.push.Goals as goal

pub returns : goal.returns
returns c = λ vs e.
    let v = c.args.variable in
    let n = ap (λ s. s.count) e in
    let l : length vs < 64 = omega arith in
    let all = ap (λ s. set s.all s.count v) e ∙ written_more 64 blank vs v l in
    same_variables _ _ all (omega (arith, length_push vs v))

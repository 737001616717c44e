use Rattle.std.proofs.Common.{◌≡◌, min, ◌++◌, length, take, drop, replicate, ap, ◌∙◌}
use Rattle.text.proofs.Names.{same_name, written}
use Rattle.text.proofs.record.Name.new.Goals as goal

pub returns : goal.returns
returns c =
    let text = c.args.text.now in
    let short : c.min-length.result ≡ min (length text) 24 = c.min-length.ensures in
    let copied : c.copy_from_slice.new.self ≡ take c.min-length.result text = c.copy_from_slice.ensures.after in
    same_name _ _ (ap (λ xs. xs ++ drop c.min-length.result (replicate 24 0)) copied ∙ ap (λ k. take k text ++ drop k (replicate 24 0)) short ∙ written 24 0 text) short

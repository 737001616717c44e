use Rattle.std.proofs.Common.{◌≡◌, ℕ, true, List, is_ok, Decides, Result, sym, ◌∙◌, subst, arith}
use Rattle.text.specs.declared.record.Node.{Node}
use Rattle.text.specs.declared.record.Variables.{Variables}
use Rattle.table.specs.declared.sets.Mentions.{Mentions}
use Rattle.table.specs.declared.fault.Fault.{Fault}
use Rattle.table.specs.Check.{check_says}
use Rattle.table.specs.Facts.{Accepts, Means}
use Rattle.table.proofs.Surveys.{limits_fail, options_fail, limits_hold}
use Rattle.table.proofs.Yes.{yes_accepts, yes_means}
use Rattle.table.proofs.check.check.Goals as goal

-- an answer that is what the check says
record Answered (vs : Variables) (ns : List Node) (cs : List ℕ) (r : Result Mentions Fault) : Type 0 where
  answer : r ≡ check_says vs ns cs
  yes : Decides (is_ok r) (Accepts vs ns cs)
  meaning : is_ok r ≡ true → Means vs ns cs

answered : (vs : Variables) (ns : List Node) (cs : List ℕ) (r : Result Mentions Fault) → r ≡ check_says vs ns cs → Answered vs ns cs r
answered vs ns cs r e = record {
  answer = e;
  yes = subst (λ x. Decides (is_ok x) (Accepts vs ns cs)) (sym e) (yes_accepts vs ns cs);
  meaning = subst (λ x. is_ok x ≡ true → Means vs ns cs) (sym e) (yes_means vs ns cs);
}

pub returns-then-not-counts_within : goal.returns-then-not-counts_within
returns-then-not-counts_within c =
    let a = answered _ _ _ _ (limits_fail c.args.variables.now c.args.nodes.now c.args.children.now c.if-not-counts_within.ensures) in
    record { answer = a.answer; yes = a.yes; meaning = a.meaning }

pub returns-then-options-gt20 : goal.returns-then-options-gt20
returns-then-options-gt20 c =
    let a = answered _ _ _ _ (options_fail c.args.variables.now c.args.nodes.now c.args.children.now c.if-not-counts_within.ensures (omega arith)) in
    record { answer = a.answer; yes = a.yes; meaning = a.meaning }

pub returns : goal.returns
returns c =
    let a = answered _ _ _ _ (c.check_nodes.ensures ∙ limits_hold c.args.variables.now c.args.nodes.now c.args.children.now c.if-not-counts_within.ensures (omega arith)) in
    record { answer = a.answer; yes = a.yes; meaning = a.meaning }

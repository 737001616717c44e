-- What is printed for a file, from what is printed for its parts.
use Rattle.std.proofs.Common.{ℕ, List, IfOk, Result, sym, ap₂, subst}
use Rattle.text.specs.declared.fault.Fault as text
use Rattle.text.specs.declared.record.Contents.{Contents}
use Rattle.parts.specs.Parts.{check_parts, largest, read_from, ArePartsOf}
use Rattle.parts.specs.declared.stores.Parts.{Parts}
use Rattle.table.specs.Check.{check_says}
use Rattle.table.specs.declared.fault.Fault as table
use Rattle.table.specs.declared.sets.Mentions.{Mentions}
use Rattle.workday.specs.Told.{check_refusal, read_refusal, refusal_of, SaysRefusal}

-- a file that was read
pub read_told : {X Y : Type 0} (bytes : X → List ℕ) (r : Result X Y) (p : Parts) (file : List ℕ) → ArePartsOf largest file p
    → IfOk r (λ s. SaysRefusal (check_refusal (check_parts p)) (bytes s)) → IfOk r (λ s. SaysRefusal (refusal_of file) (bytes s))
read_told bytes r p file a printed =
    let P : Result Contents text.Fault → Type 0 = λ o. IfOk r (λ s. SaysRefusal (read_refusal o (read_from largest file).nodes (read_from largest file).children) (bytes s)) in
    let Q : Result Mentions table.Fault → Type 0 = λ b. IfOk r (λ s. SaysRefusal (check_refusal b) (bytes s)) in
    subst P (sym a.is_accepted) (subst Q (ap₂ (check_says p.contents.variables) a.nodes_are a.children_are) printed)

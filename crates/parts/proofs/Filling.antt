-- The parts in an answer of the reader.
use Rattle.std.proofs.Common.{◌≡◌, ℕ, List, length, take, drop, Ok, Result, subst}
use Rattle.std.proofs.lemmas.List.{take_at}
use Rattle.text.specs.Format.{overwritten}
use Rattle.text.specs.declared.fault.Fault.{Fault}
use Rattle.parts.specs.declared.stores.Parts.{Parts}
use Rattle.parts.specs.declared.stores.Room.{Room}
use Rattle.parts.specs.Parts.{ArePartsOf, Reads}

-- what was written stands in the first places of a store
pub written_front : {A : Type 0} (n : ℕ) (written store : List A) → length written ≡ n → take n (overwritten written store) ≡ written
written_front n written store e = take_at written (drop (length written) store) n e

pub parts_of : (r s : Room) (file : List ℕ) (a : Result Parts Fault) (p : Parts) → r ≡ s → a ≡ Ok p → Reads r file a → ArePartsOf s file p
parts_of r s file a p same is read =
    let P : Result Parts Fault → Type 0 = λ o. Reads r file o in
    let Q : Room → Type 0 = λ q. ArePartsOf q file p in
    subst Q same (subst P is read)

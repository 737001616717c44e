-- The text that a program prints, as bytes.
use Rattle.std.specs.Prelude.{ℕ, ◌+◌, ◌&&◌, List, [], ◌∷◌, ◌++◌, Some, None, codes, decimal, Option, if◌then◌else◌}
use Rattle.kinds.specs.Texts.{Notation}
use Rattle.text.specs.Format.{is_option_role, spelled}
use Rattle.text.specs.Printed.{Lines, refusal_fields}
use Rattle.text.specs.declared.record.Variable.{Variable}
use Rattle.passes.specs.Holding.{Entries, selected}
use Rattle.search.specs.Faults.{fault_number, fault_place}
use Rattle.search.specs.declared.fault.Fault.{Fault}
use Rattle.search.specs.declared.found.Found.{Found}
use Rattle.search.specs.declared.found.Selection.{Selection}

-- fields alone, each behind a tab
abbrev pub behind_tabs : List (List ℕ) → List ℕ
behind_tabs [] = []
behind_tabs (f ∷ fs) = 9 ∷ (f ++ behind_tabs fs)

-- for a refusal: X, its number and its place
abbrev pub refusal : Fault → List (List ℕ)
refusal f = refusal_fields (fault_number f) (fault_place f)

-- the names of those options that are held on, by rising number, where the first variable in the list has this number
abbrev pub names_on : Entries → ℕ → List Variable → List (List ℕ)
names_on h number [] = []
names_on h number (v ∷ vs) =
    if is_option_role v.role && selected h number
    then spelled v.name ∷ names_on h (number + 1) vs
    else names_on h (number + 1) vs

-- the names of the options that the best selection has on, if there is one
abbrev pub best_names : {F : Type 0} → List Variable → Option (Selection F) → List (List ℕ)
best_names vs None = []
best_names vs (Some s) = names_on s.holds.entries 1 vs

-- of figures that have a text
module _ {F : Type 0} (N : Notation F) where
  -- B and the bound
  abbrev pub bound_line : F → List (List ℕ)
  bound_line f = codes "B" ∷ N.text f ∷ []

  -- the best selection's figure, or the word none
  abbrev pub best_text : Option (Selection F) → List ℕ
  best_text None = codes "none"
  best_text (Some s) = N.text s.figure

  -- S, the best selection's figure, the openings, and the names of the options that it has on
  abbrev pub selection_line : List Variable → Found F → List (List ℕ)
  selection_line vs found = codes "S" ∷ best_text found.best ∷ decimal found.openings ∷ best_names vs found.best

  -- what is printed for an accepted plant
  abbrev pub report_of : List Variable → F → Found F → Lines
  report_of vs most found = bound_line most ∷ selection_line vs found ∷ []

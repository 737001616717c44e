-- One step of the reading of a script.
use Rattle.std.proofs.Common.{◌≡◌, ℕ, ◌+◌, true, false, List, [], ◌∷◌, ◌++◌, length, drop, Some, None, Ok, Err, Option, sym, ap, ap₂, ◌∙◌}
use Rattle.std.proofs.lemmas.Bool.{cond-true, cond-false}
use Rattle.kinds.specs.Texts.{Notation}
use Rattle.text.specs.Lines.{lines, BeginsWithLine}
use Rattle.search.specs.declared.call.Call.{Call}
use Rattle.calls.specs.Script.{Read, begins_call, call_says, read_on}

module _ {F : Type 0} (N : Notation F) (before : List (Call F)) (rest : List ℕ) where
  -- what does not begin with a call is the file
  pub file_begins : (ls : List (List ℕ)) → begins_call rest ≡ false → read_on N before rest ls ≡ Ok (before, rest)
  unfolding read_on
  file_begins [] e = cond-false _ _ _ e
  file_begins (l ∷ ls) e = cond-false _ _ _ e

  module _ (call : begins_call rest ≡ true) where
    pub not_closed : lines rest ≡ [] → read_on N before rest (lines rest) ≡ Err (length before + 2)
    unfolding read_on
    not_closed none = ap (read_on N before rest) none ∙ cond-true _ _ _ call

    module _ (l : List ℕ) (b : BeginsWithLine rest l) where
      abbrev behind : List ℕ
      behind = drop (length l + 1) rest

      abbrev by_call : Option (Call F) → Read F
      by_call said = elim said [ None ↦ Err (length before + 2) | Some c ↦ read_on N (before ++ c ∷ []) behind (lines behind) ]

      by_line : (said : Option (Call F)) → call_says N l ≡ said → read_on N before rest (lines rest) ≡ by_call said
      unfolding read_on
      by_line said e = ap (read_on N before rest) b.lines_are ∙ cond-true _ _ _ call ∙ ap by_call e

      pub has_not_its_form : call_says N l ≡ None → read_on N before rest (lines rest) ≡ Err (length before + 2)
      has_not_its_form e = by_line None e

      pub goes_on : (c : Call F) (more : List (Call F)) (left : List ℕ) → call_says N l ≡ Some c → more ≡ before ++ c ∷ [] → left ≡ behind
          → read_on N more left (lines left) ≡ read_on N before rest (lines rest)
      goes_on c more left e pushed is = ap₂ (λ cs xs. read_on N cs xs (lines xs)) pushed is ∙ sym (by_line (Some c) e)

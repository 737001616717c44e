-- Lemmas on the printed lines.
use Rattle.std.proofs.Common.{◌≡◌, ℕ, ◌+◌, Bool, true, false, cond, ◌&&◌, List, [], ◌∷◌, ◌++◌, IfOk, Some, codes, decimal, Result, sym, refl, ap, ◌∙◌, append_assoc}
use Rattle.std.proofs.lemmas.Result.{IfOk-weaker}
use Rattle.kinds.specs.Texts.{Notation}
use Rattle.text.specs.Format.{is_option_role, spelled}
use Rattle.text.specs.Printed.{fields_onto, text_of, PlainNames}
use Rattle.text.specs.declared.record.Variable.{Variable}
use Rattle.passes.specs.Holding.{Entries, selected}
use Rattle.search.specs.declared.found.Found.{Found}
use Rattle.search.specs.declared.found.Selection.{Selection}
use Rattle.report.specs.Report.{behind_tabs, names_on, best_text, best_names, selection_line, report_of}

-- what is printed of variables, of which the first has this number
abbrev pub names_text : Entries → ℕ → List Variable → List ℕ
names_text h number vs = behind_tabs (names_on h number vs)

-- one variable more

module _ (h : Entries) (n : ℕ) (v : Variable) (vs : List Variable) (known : Bool) (is : known ≡ (is_option_role v.role && selected h n)) where
  abbrev rest : List (List ℕ)
  rest = names_on h (n + 1) vs

  pub named : (t t' : List ℕ) → known ≡ true → t' ≡ t ++ 9 ∷ spelled v.name → t' ++ names_text h (n + 1) vs ≡ t ++ names_text h n (v ∷ vs)
  named t t' on e =
      ap (λ l. l ++ behind_tabs rest) e
      ∙ append_assoc t (9 ∷ spelled v.name) (behind_tabs rest)
      ∙ ap (λ b. t ++ behind_tabs (cond b (spelled v.name ∷ rest) rest)) (sym on ∙ is)

  pub unnamed : (t : List ℕ) → known ≡ false → t ++ names_text h (n + 1) vs ≡ t ++ names_text h n (v ∷ vs)
  unnamed t off = ap (λ b. t ++ behind_tabs (cond b (spelled v.name ∷ rest) rest)) (sym off ∙ is)

-- fields behind tabs, then the end of the line

tabs_ended : (fs : List (List ℕ)) → behind_tabs fs ++ 10 ∷ [] ≡ fields_onto fs []
tabs_ended [] = refl
tabs_ended (f ∷ fs) = ap (λ l. 9 ∷ l) (append_assoc f (behind_tabs fs) (10 ∷ []) ∙ ap (λ l. f ++ l) (tabs_ended fs))

-- A text that was made of parts, under what is known of the parts.

module _ {X Y F : Type 0} (bytes : X → List ℕ) (N : Notation F) (r : Result X Y) (vs : List Variable) (found : Found F) where
  pub selection_printed : (s : Selection F) (figure names : List ℕ) → found.best ≡ Some s → figure ≡ N.text s.figure → (PlainNames vs → names ≡ behind_tabs (names_on s.holds.entries 1 vs)) → IfOk r (λ x. bytes x ≡ codes "S" ++ 9 ∷ (figure ++ 9 ∷ (decimal found.openings ++ (names ++ 10 ∷ [])))) → IfOk r (λ x. PlainNames vs → bytes x ≡ text_of (selection_line N vs found ∷ []))
  selection_printed s figure names best ef en printed =
      IfOk-weaker r _ _ (λ x e plain.
      e
      ∙ ap (λ l. codes "S" ++ 9 ∷ (l ++ 9 ∷ (decimal found.openings ++ (names ++ 10 ∷ [])))) (ef ∙ ap (best_text N) (sym best))
      ∙ ap (λ l. codes "S" ++ 9 ∷ (best_text N found.best ++ 9 ∷ (decimal found.openings ++ l)))
      (ap (λ l. l ++ 10 ∷ []) (en plain) ∙ tabs_ended (names_on s.holds.entries 1 vs) ∙ ap (λ o. fields_onto (best_names vs o) []) (sym best))) printed

  pub report_printed : (f : F) (bound best : List ℕ) → bound ≡ N.text f → (PlainNames vs → best ≡ text_of (selection_line N vs found ∷ [])) → IfOk r (λ x. bytes x ≡ codes "B\t" ++ (bound ++ (codes "\n" ++ best))) → IfOk r (λ x. PlainNames vs → bytes x ≡ text_of (report_of N vs f found))
  report_printed f bound best eb es printed =
      IfOk-weaker r _ _ (λ x e plain.
      e
      ∙ ap (λ l. codes "B\t" ++ (l ++ (codes "\n" ++ best))) eb
      ∙ ap (λ l. codes "B\t" ++ (N.text f ++ (codes "\n" ++ l))) (es plain)) printed

-- What a line says in each section.
use Rattle.std.specs.List.{list_all}
use Rattle.std.proofs.Common.{◌≡◌, ℕ, ◌≤◌, true, false, List, [], ◌∷◌, length, get_or, drop, Ok, Err, Result, sym, refl, ap, ◌∙◌, ap₂, subst, arith}
use Rattle.std.proofs.lemmas.Bool.{cond-true, cond-false}
use Rattle.text.specs.declared.fault.Reason.{Reason}
use Rattle.text.specs.declared.fault.Reason.TheVariants as reason
use Rattle.text.specs.declared.kind.LineKind.{LineKind}
use Rattle.text.specs.declared.kind.LineKind.TheVariants as kind
use Rattle.text.specs.declared.kind.Section.{Section}
use Rattle.text.specs.declared.kind.Section.TheVariants as section
use Rattle.text.specs.declared.progress.Progress.{Progress}
use Rattle.text.specs.Lines.{printable, first_printable, fields}
use Rattle.text.specs.Format.{Said, Rooms, Sofar, section_of, line_kind_of, by_section, by_fields, line_says}
use Rattle.text.specs.Steps.{sofar, rooms_of, says_in, says, first_says, Steps, Taken, HasStoresOf}
use Rattle.text.proofs.Cuts.{some_field}

by_first : (rooms : Rooms) (s : Sofar) (size : ℕ) (fs : List (List ℕ)) → 1 ≤ length fs → by_fields rooms s size fs ≡ by_section rooms s size (section_of s) (line_kind_of (get_or fs 0 [])) (drop 1 fs)
by_first rooms s size [] h = absurd (omega arith)
by_first rooms s size (f ∷ fs) h = refl

not_header : (rooms : Rooms) (s : Sofar) (size : ℕ) (k : LineKind) (fs : List (List ℕ)) → (k ≡ kind.Header → ⊥) → by_section rooms s size section.Header k fs ≡ Err reason.Line
not_header rooms s size kind.Header fs h = absurd (h refl)
not_header rooms s size k fs h = refl

not_variable : (rooms : Rooms) (s : Sofar) (size : ℕ) (k : LineKind) (fs : List (List ℕ)) → (k ≡ kind.Variable → ⊥) → by_section rooms s size section.Variables k fs ≡ Err reason.Line
not_variable rooms s size kind.Variable fs h = absurd (h refl)
not_variable rooms s size k fs h = refl

-- nothing was done
same_stores : (s : Progress) → HasStoresOf s s
same_stores s = record { nodes = refl; children = refl; nodes_long = refl; children_long = refl }

pub refused_by : {U : Type 0} (said : Progress → Said Sofar) (s : Progress) (r : Reason) → said s ≡ Err r → Steps said s s {U = U} (Err r)
refused_by said s r e = record { moves = (e, refl, refl); stores = same_stores s }

-- two ways to say the same
pub said_by : {U : Type 0} (said says : Progress → Said Sofar) (s u : Progress) (r : Result U Reason) → said s ≡ says s → Steps said s u r → Steps says s u r
said_by said says s u (Ok x) e h = record { moves = subst (Taken s u) e h.moves; stores = h.stores }
said_by said says s u (Err x) e h = record { moves = (sym e ∙ h.moves.0, h.moves.1, h.moves.2); stores = h.stores }

-- A line l after the progress s.
module _ (s : Progress) (l : List ℕ) where
  unprintable : list_all printable l ≡ false → says l s ≡ Err reason.Line
  unfolding line_says
  unprintable h = cond-false (list_all printable l) _ _ h

  module _ (clean : list_all printable l ≡ true) (t : Section) (at : t ≡ section_of (sofar s)) (k : LineKind) (is : k ≡ line_kind_of (get_or (fields l) 0 [])) where
    says_by : says l s ≡ says_in t k l s
    unfolding line_says
    says_by =
        cond-true (list_all printable l) _ _ clean ∙ by_first (rooms_of s) (sofar s) (length l) (fields l) (some_field l)
        ∙ ap₂ (λ u j. by_section (rooms_of s) (sofar s) (length l) u j (drop 1 (fields l))) (sym at) (sym is)

    -- what is done for the section and the kind is done for the line
    pub steps_by : {U : Type 0} (u : Progress) (r : Result U Reason) → Steps (says_in t k l) s u r → Steps (says l) s u r
    steps_by u r h = said_by (says_in t k l) (says l) s u r (sym says_by) h

    pub no_header : t ≡ section.Header → (k ≡ kind.Header → ⊥) → says l s ≡ Err reason.Line
    no_header e h = says_by ∙ ap (λ u. says_in u k l s) e ∙ not_header (rooms_of s) (sofar s) (length l) k (drop 1 (fields l)) h

    pub no_variable : t ≡ section.Variables → (k ≡ kind.Variable → ⊥) → says l s ≡ Err reason.Line
    no_variable e h = says_by ∙ ap (λ u. says_in u k l s) e ∙ not_variable (rooms_of s) (sofar s) (length l) k (drop 1 (fields l)) h

-- a line is asked for, and there is none, or one with a byte that may not stand in it
pub unprintable_first : (s : Progress) (ls : List (List ℕ)) → first_printable ls ≡ false → first_says (rooms_of s) (sofar s) ls ≡ Err reason.Line
unprintable_first s [] h = refl
unprintable_first s (l ∷ ls) h = unprintable s l h

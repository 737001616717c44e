-- Texts made of lines, and the text of a name.
use Rattle.std.proofs.Common.{◌≡◌, ℕ, suc, ◌+◌, ◌-◌, ◌<◌, ◌≤◌, List, [], ◌∷◌, ◌++◌, length, IsAscii, Ok, Err, Result, sym, refl, ap, ◌∙◌, ap₂, subst, ◌⊎◌, ⊎_elim, arith, append_assoc}
use Rattle.std.proofs.lemmas.List.{append-nil, nil_from_length}
use Rattle.std.proofs.lemmas.Str.{IsUtf8-from_ascii}
use Rattle.std.specs.Str.{IsUtf8}
use Rattle.std.specs.Result.{MatchResult, result_unwrap_or}
use Rattle.text.specs.Format.{spelled}
use Rattle.text.specs.declared.record.Variable.{Variable}
use Rattle.text.specs.Printed.{Lines, fields_onto, line_onto, text_of, PlainNames}

-- ASCII is UTF-8, so its text is the bytes themselves
pub ascii_text : {X E : Type 0} (bytes : X → List ℕ) (V : E → Type 0) (bs : List ℕ) (r : Result X E) (other : X)
    → MatchResult r (λ s. (bytes s ≡ bs) × IsUtf8 bs) (λ e. ¬ (IsUtf8 bs) × V e) → IsAscii bs → bytes (result_unwrap_or r other) ≡ bs
ascii_text bytes V bs (Ok s) other h plain = h.0
ascii_text bytes V bs (Err e) other h plain = absurd (h.0 (IsUtf8-from_ascii bs plain))

-- a text behind a text

fields_then : (fs : List (List ℕ)) (a b : List ℕ) → fields_onto fs a ++ b ≡ fields_onto fs (a ++ b)
fields_then [] a b = refl
fields_then (f ∷ fs) a b = ap (λ l. 9 ∷ l) (append_assoc f (fields_onto fs a) b ∙ ap (λ l. f ++ l) (fields_then fs a b))

line_then : (l : List (List ℕ)) (a b : List ℕ) → line_onto l a ++ b ≡ line_onto l (a ++ b)
line_then [] a b = refl
line_then (f ∷ fs) a b = append_assoc f (fields_onto fs a) b ∙ ap (λ l. f ++ l) (fields_then fs a b)

pub text_then : (ls ms : Lines) → text_of (ls ++ ms) ≡ text_of ls ++ text_of ms
text_then [] ms = refl
text_then (l ∷ ls) ms = ap (line_onto l) (text_then ls ms) ∙ sym (line_then l (text_of ls) (text_of ms))

-- Variables that are printed one after the other, numbered from 1.

plain_parts : (v : Variable) (vs : List Variable) → PlainNames (v ∷ vs) → IsAscii (spelled v.name) × PlainNames vs
plain_parts v vs plain = (plain 0 v (omega arith), λ k d lt. plain (suc k) d (omega arith))

-- what is printed of all variables is what is printed so far and what is left to print, of those from this number on
pub record Printing (text : ℕ → List Variable → List ℕ) (vs : List Variable) (printed : List ℕ) (number : ℕ) (left : List Variable) : Type 0 where
  pub count : number + length left ≡ length vs + 1
  pub counted : 0 < number
  pub plain : PlainNames vs → PlainNames left
  pub whole : PlainNames vs → printed ++ text number left ≡ text 1 vs

module _ (text : ℕ → List Variable → List ℕ) (vs : List Variable) where
  pub begun : (printed : List ℕ) (number : ℕ) (left : List Variable) → printed ≡ [] → number ≡ 1 → left ≡ vs → Printing text vs printed number left
  begun printed number left none first all = record {
    count = omega (arith, ap length all, first);
    counted = omega (arith, first);
    plain = λ plain. let P : List Variable → Type 0 = λ xs. PlainNames xs in subst P (sym all) plain;
    whole = λ plain. ap₂ (λ p t. p ++ t) none (ap₂ text first all);
  }

  module _ (printed printed' : List ℕ) (number next : ℕ) (left left' : List Variable) (v : Variable) where
    pub further : (this : ℕ) → (this ≡ number) × (next ≡ this + 1) → left ≡ v ∷ left' → Printing text vs printed number left → (IsAscii (spelled v.name) → printed' ++ text (this + 1) left' ≡ printed ++ text this (v ∷ left')) → Printing text vs printed' next left'
    further this up is p more =
        let Q : List Variable → Type 0 = λ xs. PlainNames xs in
        let parts : PlainNames vs → IsAscii (spelled v.name) × PlainNames left' = λ plain. plain_parts v left' (subst Q is (p.plain plain)) in
        record {
          count = omega (arith, p.count, ap length is, up.0, up.1);
          counted = omega (arith, up.1);
          plain = λ plain. (parts plain).1;
          whole = λ plain. ap (λ n. printed' ++ text n left') up.1 ∙ more (parts plain).0 ∙ ap (λ t. printed ++ t) (ap₂ text up.0 (sym is)) ∙ p.whole plain;
        }

  -- the numbers go on for longer than the variables, so the variables end first
  pub ended : {A B : Type 0} {U : A → Type 0} {V : B → Type 0} (printed : List ℕ) (number most : ℕ) (left : List Variable) → length vs ≤ 64 → 65535 ≤ most
      → ((n : ℕ) → text n [] ≡ []) → Printing text vs printed number left → ((x : A) × ((most - number ≡ 0) × U x)) ⊎ ((y : B) × ((length left ≡ 0) × V y))
      → PlainNames vs → printed ≡ text 1 vs
  ended printed number most left few high empty p stop plain =
      let none : length left ≡ 0 = ⊎_elim (λ e. omega (arith, p.count, few, high, e.1.0)) (λ e. e.1.0) stop in
      sym (append-nil printed) ∙ ap (λ t. printed ++ t) (sym (empty number) ∙ ap (text number) (sym (nil_from_length left none))) ∙ p.whole plain

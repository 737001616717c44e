-- The reader of a weight text line by line.
use Rattle.std.proofs.Common.{◌≡◌, ℕ, suc, ◌+◌, ◌*◌, ◌<◌, ◌≤◌, Bool, true, false, cond, eqb, List, [], ◌∷◌, ◌++◌, length, take, drop, replicate, Ok, Err, sym, refl, ap, ◌∙◌, ap₂, inl, inr, arith}
use Rattle.std.proofs.lemmas.List.{length-set, length-drop, length-take-le, length-replicate}
use Rattle.std.proofs.lemmas.Bool.{cases_lt, cond-true, cond-false, lt-ltb, le-ltb}
use Rattle.text.specs.declared.fault.Reason.TheVariants as reason
use Rattle.text.specs.Format.{overwritten}
use Rattle.text.specs.Lines.{index_of, lines, BeginsWithLine}
use Rattle.text.proofs.Cuts.{first_line, no_line}
use Rattle.kinds.specs.Semiring.{Semiring}
use Rattle.kinds.specs.Texts.{Notation}
use Rattle.table.specs.Count.{weighed}
use Rattle.table.specs.Sound.{Roles}
use Rattle.search.specs.declared.fault.Fault.{Fault}
use Rattle.search.specs.declared.fault.Fault.TheVariants.{ShortSheet}
use Rattle.search.specs.declared.weights.Weighing.{Weighing}
use Rattle.search.specs.Weights.{WeightReading, read, refused, in_text, weight_line_says, is_closed, weight_lines_say, weights_say}

-- what was written to the first places
pub filled_front : {X : Type 0} (n : ℕ) (y : X) (xs new : List X) → n ≤ length xs → new ≡ replicate (length new) y → length new ≡ length (take n xs) → new ++ drop n xs ≡ overwritten (replicate n y) xs
filled_front n y xs new h ones long =
    let same : length new ≡ n = long ∙ length-take-le n xs h in
    ap₂ (λ a k. a ++ drop k xs) (ones ∙ ap (λ k. replicate k y) same) (sym (length-replicate n y))

-- A text with a byte 10 is closed if what stands behind it is; a text without is closed if it is empty.
closed_behind : (xs : List ℕ) → index_of 10 xs < length xs → is_closed xs ≡ is_closed (drop (suc (index_of 10 xs)) xs)
closed_behind [] h = absurd (omega arith)
closed_behind (x ∷ []) h =
    elim (eqb x 10) as (λ t. cond t 0 1 < 1 → t ≡ is_closed (drop (suc (cond t 0 1)) (x ∷ []))) [
      | true ↦ λ _. refl
      | false ↦ λ k. absurd (omega arith)
    ] h
closed_behind (x ∷ y ∷ ys) h =
    elim (eqb x 10) as (λ t. cond t 0 (suc (index_of 10 (y ∷ ys))) < suc (length (y ∷ ys)) → is_closed (y ∷ ys) ≡ is_closed (drop (suc (cond t 0 (suc (index_of 10 (y ∷ ys))))) (x ∷ y ∷ ys))) [
      | true ↦ λ _. refl
      | false ↦ λ k. closed_behind (y ∷ ys) (omega arith)
    ] h

not_closed : (xs : List ℕ) → length xs ≤ index_of 10 xs → 0 < length xs → is_closed xs ≡ false
not_closed [] h some = absurd (omega arith)
not_closed (x ∷ []) h some =
    elim (eqb x 10) as (λ t. 1 ≤ cond t 0 1 → t ≡ false) [
      | true ↦ λ k. absurd (omega arith)
      | false ↦ λ _. refl
    ] h
not_closed (x ∷ y ∷ ys) h some =
    elim (eqb x 10) as (λ t. suc (length (y ∷ ys)) ≤ cond t 0 (suc (index_of 10 (y ∷ ys))) → is_closed (y ∷ ys) ≡ false) [
      | true ↦ λ k. absurd (omega arith)
      | false ↦ λ k. not_closed (y ∷ ys) (omega arith) (omega arith)
    ] h

-- the same by the first line, if there is one
begins_at : (xs l : List ℕ) → BeginsWithLine xs l → (index_of 10 xs < length xs) × (length l ≡ index_of 10 xs)
begins_at xs l b = elim (cases_lt (index_of 10 xs) (length xs)) [
  | inl h ↦ (h, long h (first_line xs h))
  | inr h ↦ absurd (none (no_line xs h) b.lines_are)
]
  where
    none : lines xs ≡ [] → lines xs ≡ l ∷ lines (drop (length l + 1) xs) → ⊥
    none e f = let z : ◌≡◌ {A = ℕ} 0 1 = cc in omega arith

    long : index_of 10 xs < length xs → lines xs ≡ take (index_of 10 xs) xs ∷ lines (drop (suc (index_of 10 xs)) xs) → length l ≡ index_of 10 xs
    long h e =
        let f = b.lines_are in
        let same : l ≡ take (index_of 10 xs) xs = cc in
        ap length same ∙ length-take-le (index_of 10 xs) xs (omega arith)

closed_line : (xs l : List ℕ) → BeginsWithLine xs l → is_closed xs ≡ is_closed (drop (length l + 1) xs)
closed_line xs l b =
    let at = begins_at xs l b in
    let next : suc (index_of 10 xs) ≡ length l + 1 = omega arith in
    closed_behind xs at.0 ∙ ap (λ n. is_closed (drop n xs)) next

unclosed : (xs : List ℕ) → lines xs ≡ [] → 0 < length xs → is_closed xs ≡ false
unclosed xs e some = elim (cases_lt (index_of 10 xs) (length xs)) [
  | inl h ↦ absurd (none (first_line xs h))
  | inr h ↦ not_closed xs h some
]
  where
    none : lines xs ≡ take (index_of 10 xs) xs ∷ lines (drop (suc (index_of 10 xs)) xs) → ⊥
    none f = let z : ◌≡◌ {A = ℕ} 0 1 = cc in omega arith

module _ {F : Type 0} (N : Notation F) (rs : Roles) where
  -- One step of the reading.
  module _ (sheet : List F) (line : ℕ) where
    read_taken : (l : List ℕ) (ls : List (List ℕ)) (closed : Bool) (w : Weighing F) → weight_line_says N rs line l ≡ Ok w → weight_lines_say N rs sheet line (l ∷ ls) closed ≡ weight_lines_say N rs (weighed sheet w.variable w.on w.off) (line + 1) ls closed
    unfolding weight_lines_say
    read_taken l ls closed w e = ap (λ said. elim said [ Ok x ↦ weight_lines_say N rs (weighed sheet x.variable x.on x.off) (line + 1) ls closed | Err f ↦ refused sheet f ]) e

    read_refused : (l : List ℕ) (ls : List (List ℕ)) (closed : Bool) (f : Fault) → weight_line_says N rs line l ≡ Err f → weight_lines_say N rs sheet line (l ∷ ls) closed ≡ refused sheet f
    unfolding weight_lines_say
    read_refused l ls closed f e = ap (λ said. elim said [ Ok x ↦ weight_lines_say N rs (weighed sheet x.variable x.on x.off) (line + 1) ls closed | Err f ↦ refused sheet f ]) e

    read_over : weight_lines_say N rs sheet line [] true ≡ read sheet
    unfolding weight_lines_say
    read_over = refl

    read_missing : weight_lines_say N rs sheet line [] false ≡ refused sheet (in_text reason.Line line)
    unfolding weight_lines_say
    read_missing = refl

  -- The whole text, read into a sheet of ones.
  module _ (text : List ℕ) (ones : List F) where
    abbrev whole : WeightReading F
    whole = weight_lines_say N rs ones 1 (lines text) (is_closed text)

    -- what is left says what the text says; a line ends in a byte
    pub record Going (sheet : List F) (line : ℕ) (rest : List ℕ) : Type 0 where
      pub reads : weight_lines_say N rs sheet line (lines rest) (is_closed rest) ≡ whole
      pub few : line + length rest ≤ length text + 1
      pub long : length sheet ≡ length ones

    pub begins : Going ones 1 text
    begins = record { reads = refl; few = omega arith; long = refl }

    module _ (sheet : List F) (line : ℕ) (rest : List ℕ) (g : Going sheet line rest) where
      pub ends : length rest ≡ 0 → whole ≡ read sheet
      ends h = sym g.reads ∙ ap (λ xs. weight_lines_say N rs sheet line (lines xs) (is_closed xs)) (empty rest h) ∙ read_over sheet line
        where
          empty : (xs : List ℕ) → length xs ≡ 0 → xs ≡ []
          empty [] h = refl
          empty (x ∷ xs) h = absurd (omega arith)

      pub ends_missing : 0 < length rest → lines rest ≡ [] → whole ≡ refused sheet (in_text reason.Line line)
      ends_missing some h = sym g.reads ∙ ap₂ (weight_lines_say N rs sheet line) h (unclosed rest h some) ∙ read_missing sheet line

      module _ (l : List ℕ) (b : BeginsWithLine rest l) where
        first : whole ≡ weight_lines_say N rs sheet line (l ∷ lines (drop (length l + 1) rest)) (is_closed (drop (length l + 1) rest))
        first = sym g.reads ∙ ap₂ (weight_lines_say N rs sheet line) b.lines_are (closed_line rest l b)

        pub ends_refused : (f : Fault) → weight_line_says N rs line l ≡ Err f → whole ≡ refused sheet f
        ends_refused f e = first ∙ read_refused sheet line _ _ _ f e

        pub goes_on : (w : Weighing F) (next : List F) (behind : List ℕ) → weight_line_says N rs line l ≡ Ok w → next ≡ weighed sheet w.variable w.on w.off → behind ≡ drop (length l + 1) rest
            → Going next (line + 1) behind
        goes_on w next behind e changed left = record {
          reads = ap₂ (λ x xs. weight_lines_say N rs x (line + 1) (lines xs) (is_closed xs)) changed left ∙ sym (first ∙ read_taken sheet line _ _ _ w e);
          few = omega (arith, g.few, b.within, ap length left, length-drop (length l + 1) rest);
          long = ap length changed ∙ length-set _ _ _ ∙ length-set _ _ _ ∙ g.long;
        }

  -- the two ways to begin
  module _ (R : Semiring F) (sheet : List F) (text : List ℕ) where
    pub says_short : length sheet < 2 * length rs → weights_say R N rs sheet text ≡ refused sheet ShortSheet
    unfolding weights_say
    says_short h = cond-true _ _ _ (lt-ltb (length sheet) (2 * length rs) h)

    -- with one at the two places of n variables
    pub says_whole : (n : ℕ) (ones : List F) → n ≡ length rs → 2 * n ≤ length sheet → ones ≡ overwritten (replicate (2 * n) R.one) sheet → (told : WeightReading F) → whole text ones ≡ told → weights_say R N rs sheet text ≡ told
    unfolding weights_say
    says_whole n ones same h are told e =
        cond-false _ _ _ (le-ltb (length sheet) (2 * length rs) (omega (arith, same)))
        ∙ ap (λ xs. whole text xs) (ap (λ k. overwritten (replicate (2 * k) R.one) sheet) (sym same) ∙ sym are) ∙ e

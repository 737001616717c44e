-- What an accepted weight text leaves: each chance has the weights of its last line.
use Rattle.std.proofs.Common.{◌≡◌, ℕ, ◌+◌, ◌*◌, ◌<◌, ◌≤◌, Bool, true, false, cond, not, List, [], ◌∷◌, length, get_or, drop, replicate, set, Ok, Err, Result, inl, inr, sym, refl, ap, ◌∙◌, subst, arith}
use Rattle.std.proofs.Math.Bool.{not-not}
use Rattle.std.proofs.lemmas.Bool.{cases_Bool, cases_eq, cond-true, cond-false, and_parts, eq-eqb, ne_eqb, ltb-false}
use Rattle.std.proofs.lemmas.List.{get_or-set_same, get_or-set_other, get_or_append_left, get_or-replicate, length-set, length-replicate, drop-set-lt, length-append}
use Rattle.std.proofs.lemmas.Slice.{drop-append-drop}
use Rattle.kinds.specs.Semiring.{Semiring}
use Rattle.kinds.specs.Texts.{Notation}
use Rattle.text.specs.Format.{Said}
use Rattle.text.specs.Lines.{lines}
use Rattle.table.specs.Count.{place, weight, weighed}
use Rattle.table.specs.Facts.{Known}
use Rattle.table.specs.Sound.{Roles, known, is_option}
use Rattle.table.proofs.Decided.{decides_known}
use Rattle.search.specs.declared.fault.Fault.{Fault}
use Rattle.search.specs.declared.weights.Weighing.{Weighing}
use Rattle.search.specs.Study.{short_sheet, no_chance}
use Rattle.search.specs.Weights.{WeightReading, form_says, of_chance, weight_line_says, refused, is_closed, with_ones, weight_lines_say, weights_say, by_line, by_lines, Weighs, WeighsAccepted}

no_refusal : {A : Type 0} (f : Fault) (a : A) → ◌≡◌ {A = Result A Fault} (Err f) (Ok a) → ⊥
no_refusal f a e = cc

same_value : {A : Type 0} (a b : A) → ◌≡◌ {A = Result A Fault} (Ok a) (Ok b) → a ≡ b
same_value a b e = cc

module _ {F : Type 0} (R : Semiring F) (N : Notation F) (rs : Roles) where
  -- an accepted line is of a chance, with what its form says
  of_a_chance : (line : ℕ) (said : Said (Weighing F)) (w : Weighing F) → of_chance rs line said ≡ Ok w → (said ≡ Ok w) × Known rs w.variable
  of_a_chance line (Err r) w e = absurd (no_refusal _ _ e)
  of_a_chance line (Ok x) w e = elim (cases_Bool (no_chance rs x.variable).0) [
    | inl t ↦ absurd (no_refusal _ _ (sym (cond-true _ _ _ t) ∙ e))
    | inr n ↦ (let same : x ≡ w = same_value x w (sym (cond-false _ _ _ n) ∙ e) in
        (ap Ok same, subst (λ z. Known rs z.variable) same ((decides_known rs x.variable).0 (and_parts (known (length rs) x.variable) (not (is_option rs x.variable)) (sym (not-not _) ∙ ap not n)).0)))
  ]

  -- one line's two weights are written
  module _ (sheet : List F) (w : Weighing F) (of : Known rs w.variable) (long : 2 * length rs ≤ length sheet) where
    pub after_line : (v : ℕ) (b : Bool) → Known rs v → weight R (weighed sheet w.variable w.on w.off) v b ≡ by_line R N v b (weight R sheet v b) (Ok w)
    after_line v b k = elim (cases_eq w.variable v) [
      | inl e ↦ here b e ∙ sym (cond-true _ _ _ (eq-eqb w.variable v e))
      | inr n ↦ there b n ∙ sym (cond-false _ _ _ (ne_eqb w.variable v n))
    ]
      where
        here : (b : Bool) → w.variable ≡ v → weight R (weighed sheet w.variable w.on w.off) v b ≡ cond b w.on w.off
        here true e =
            ap (λ n. get_or (weighed sheet w.variable w.on w.off) (place n true) R.zero) (sym e)
            ∙ get_or-set_other (set sheet (place w.variable true) w.on) (place w.variable false) (place w.variable true) w.off R.zero (λ q. omega (arith, of.0, q))
            ∙ get_or-set_same sheet (place w.variable true) w.on R.zero (omega (arith, of.0, of.1))
        here false e =
            ap (λ n. get_or (weighed sheet w.variable w.on w.off) (place n false) R.zero) (sym e)
            ∙ get_or-set_same (set sheet (place w.variable true) w.on) (place w.variable false) w.off R.zero (omega (arith, of.0, of.1, length-set sheet (place w.variable true) w.on))

        there : (b : Bool) → (w.variable ≡ v → ⊥) → weight R (weighed sheet w.variable w.on w.off) v b ≡ weight R sheet v b
        there true n =
            get_or-set_other (set sheet (place w.variable true) w.on) (place w.variable false) (place v true) w.off R.zero (λ q. omega (arith, of.0, k.0, q))
            ∙ get_or-set_other sheet (place w.variable true) (place v true) w.on R.zero (λ q. n (omega (arith, of.0, k.0, q)))
        there false n =
            get_or-set_other (set sheet (place w.variable true) w.on) (place w.variable false) (place v false) w.off R.zero (λ q. n (omega (arith, of.0, k.0, q)))
            ∙ get_or-set_other sheet (place w.variable true) (place v false) w.on R.zero (λ q. omega (arith, of.0, k.0, q))

    pub behind_line : drop (2 * length rs) (weighed sheet w.variable w.on w.off) ≡ drop (2 * length rs) sheet
    behind_line =
        drop-set-lt (2 * length rs) (set sheet (place w.variable true) w.on) (place w.variable false) w.off (omega (arith, of.0, of.1))
        ∙ drop-set-lt (2 * length rs) sheet (place w.variable true) w.on (omega (arith, of.0, of.1))

  -- what some lines, all accepted, make of a sheet
  record Left (ls : List (List ℕ)) (before after : List F) : Type 0 where
    pub weights : (v : ℕ) (b : Bool) → Known rs v → weight R after v b ≡ by_lines R N v b (weight R before v b) ls
    pub behind : drop (2 * length rs) after ≡ drop (2 * length rs) before

  abbrev on_line : List F → ℕ → List (List ℕ) → Bool → Result (Weighing F) Fault → WeightReading F
  on_line sheet line ls closed said =
      elim said [ Ok w ↦ weight_lines_say N rs (weighed sheet w.variable w.on w.off) (line + 1) ls closed | Err f ↦ refused sheet f ]

  -- the first of some lines, and those behind it
  module _ (sheet : List F) (line : ℕ) (l : List ℕ) (ls : List (List ℕ)) (closed : Bool) (long : 2 * length rs ≤ length sheet)
      (rest : (next : List F) → 2 * length rs ≤ length next → (weight_lines_say N rs next (line + 1) ls closed).answer ≡ Ok tt → Left ls next (weight_lines_say N rs next (line + 1) ls closed).sheet) where
    line_left : (said : Result (Weighing F) Fault) → weight_line_says N rs line l ≡ said → (on_line sheet line ls closed said).answer ≡ Ok tt → Left (l ∷ ls) sheet (on_line sheet line ls closed said).sheet
    line_left (Err f) is e = absurd (no_refusal _ _ e)
    line_left (Ok w) is e =
        let of = of_a_chance line (form_says N l) w is in
        let next : List F = weighed sheet w.variable w.on w.off in
        let size : length next ≡ length sheet = length-set _ _ _ ∙ length-set _ _ _ in
        let behind_it = rest next (omega (arith, size)) e in
        record {
          weights = λ v b k.
              behind_it.weights v b k
              ∙ ap (λ x. by_lines R N v b x ls) (after_line sheet w of.1 long v b k ∙ ap (by_line R N v b (weight R sheet v b)) (sym of.0));
          behind = behind_it.behind ∙ behind_line sheet w of.1 long;
        }

  lines_left : (sheet : List F) (line : ℕ) (ls : List (List ℕ)) (closed : Bool) → 2 * length rs ≤ length sheet
      → (weight_lines_say N rs sheet line ls closed).answer ≡ Ok tt → Left ls sheet (weight_lines_say N rs sheet line ls closed).sheet
  unfolding weight_lines_say
  lines_left sheet line [] true long e = record { weights = λ v b k. refl; behind = refl }
  lines_left sheet line [] false long e = absurd (no_refusal _ _ e)
  lines_left sheet line (l ∷ ls) closed long e =
      line_left sheet line l ls closed long (λ next size ok. lines_left next (line + 1) ls closed size ok) (weight_line_says N rs line l) refl e

  -- a sheet of ones
  module _ (sheet : List F) (long : 2 * length rs ≤ length sheet) where
    ones_weigh : (v : ℕ) (b : Bool) → Known rs v → weight R (with_ones R.one (length rs) sheet) v b ≡ R.one
    ones_weigh v b k =
        get_or_append_left (replicate (2 * length rs) R.one) (drop (length (replicate (2 * length rs) R.one)) sheet) R.zero (place v b) (let n = length-replicate (2 * length rs) R.one in below b n)
        ∙ get_or-replicate (2 * length rs) (place v b) R.one R.zero (inside b)
      where
        inside : (b : Bool) → place v b < 2 * length rs
        inside true = omega (arith, k.0, k.1)
        inside false = omega (arith, k.0, k.1)

        below : (b : Bool) → length (replicate (2 * length rs) R.one) ≡ 2 * length rs → place v b < length (replicate (2 * length rs) R.one)
        below b n = let i = inside b in omega (arith, i, n)

    ones_behind : drop (2 * length rs) (with_ones R.one (length rs) sheet) ≡ drop (2 * length rs) sheet
    ones_behind = let n = length-replicate (2 * length rs) R.one in drop-append-drop (length (replicate (2 * length rs) R.one)) sheet (replicate (2 * length rs) R.one) (2 * length rs) (omega (arith, n)) refl

    ones_long : 2 * length rs ≤ length (with_ones R.one (length rs) sheet)
    ones_long = omega (arith, length-append (replicate (2 * length rs) R.one) (drop (length (replicate (2 * length rs) R.one)) sheet), length-replicate (2 * length rs) R.one)

  whole_left : (sheet : List F) (bytes : List ℕ) → 2 * length rs ≤ length sheet → (after : WeightReading F) → after ≡ weight_lines_say N rs (with_ones R.one (length rs) sheet) 1 (lines bytes) (is_closed bytes)
      → after.answer ≡ Ok tt → Weighs R N rs bytes sheet after.sheet
  whole_left sheet bytes long after is e =
      let left = lines_left (with_ones R.one (length rs) sheet) 1 (lines bytes) (is_closed bytes) (ones_long sheet long) (ap (λ x. x.answer) (sym is) ∙ e) in
      record {
        weights = λ v b k.
            let known_one = (decides_known rs v).0 k in
            ap (λ x. weight R x.sheet v b) is ∙ left.weights v b known_one ∙ ap (λ x. by_lines R N v b x (lines bytes)) (ones_weigh sheet long v b known_one);
        behind = ap (λ x. drop (2 * length rs) x.sheet) is ∙ left.behind ∙ ones_behind sheet long;
      }

  pub weighs_accepted : (sheet : List F) (bytes : List ℕ) → WeighsAccepted R N rs sheet bytes
  unfolding weights_say
  weighs_accepted sheet bytes e = elim (cases_Bool (short_sheet rs (length sheet)).0) [
    | inl t ↦ absurd (no_refusal _ _ (sym (ap (λ (x : WeightReading F). x.answer) (cond-true _ _ _ t)) ∙ e))
    | inr n ↦ whole_left sheet bytes (ltb-false _ _ n) _ (cond-false _ _ _ n) e
  ]

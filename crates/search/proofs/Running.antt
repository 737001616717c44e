-- The calls of a day, answered one after the other.
use Rattle.std.proofs.Common.{◌≡◌, ℕ, ◌+◌, ◌<◌, ◌≤◌, min, List, [], ◌∷◌, ◌++◌, length, get_or, take, drop, set, sym, refl, ap, ◌∙◌, ap₂, inl, inr, append_assoc, arith}
use Rattle.std.proofs.lemmas.List.{at_drop_more, at_drop_all, take_more_set, take-append-drop, append-nil, get_or-take, length-take, length-set, drop-set-lt, drop_all, drop_at, drop-drop, take_all, take_at}
use Rattle.std.proofs.lemmas.Bool.{cases_lt}
use Rattle.kinds.specs.Semiring.{Semiring}
use Rattle.search.specs.Day.{Book, FixedParts, Answer, answer, answers, after, book_after}
use Rattle.search.specs.declared.call.Call.{Call}

module _ {F : Type 0} (R : Semiring F) (s : FixedParts F) (start : Book F) (cs : List (Call F)) (before : List (Answer F)) where
  -- the calls that there are places for
  abbrev asked : List (Call F)
  asked = take (length before) cs

  abbrev say : Book F → List (Call F) → List (Answer F)
  say = answers R s

  abbrev end : Book F → List (Call F) → Book F
  end = book_after R s

  -- after i of them: what is left of the day, from the book as it stands
  pub record Left (book : Book F) (log : List (Answer F)) (i : ℕ) : Type 0 where
    pub said : take i log ++ say book (drop i asked) ≡ say start asked
    pub kept : end book (drop i asked) ≡ end start asked
    pub behind : drop i log ≡ drop i before
    pub long : length log ≡ length before

  pub left_all : (book : Book F) → book ≡ start → Left book before 0
  left_all book e = record { said = ap (λ b. say b asked) e; kept = ap (λ b. end b asked) e; behind = refl; long = refl }

  module _ (book : Book F) (log : List (Answer F)) (i : ℕ) (l : Left book log i) where
    pub left_more : (c d : Call F) (a : Answer F) (next : Book F) → i < length cs → i < length before → c ≡ get_or cs i d
        → a ≡ answer R s book c → next ≡ after R s book c → Left next (set log i a) (i + 1)
    left_more c d a next some room-left c-is a-is next_is =
        let short : i < length asked = omega (arith, length-take (length before) cs) in
        let here : c ≡ get_or asked i d = c-is ∙ sym (get_or-take (length before) cs i d room-left) in
        let rest : List (Call F) = drop (i + 1) asked in
        let free : i < length log = omega (arith, l.long) in
        let say-here : say book (drop i asked) ≡ a ∷ say next rest =
        at_drop_more (say book) asked i d short ∙ ap (λ x. answer R s book x ∷ say (after R s book x) rest) (sym here) ∙ sym (ap₂ (λ x b. x ∷ say b rest) a-is next_is) in
        record {
          said = ap (λ xs. xs ++ say next rest) (take_more_set log i a free) ∙ append_assoc (take i log) (a ∷ []) (say next rest) ∙ sym (ap (λ xs. take i log ++ xs) say-here) ∙ l.said;
          kept = ap (λ b. end b rest) (next_is ∙ ap (after R s book) here) ∙ sym (at_drop_more (end book) asked i d short) ∙ l.kept;
          behind = drop-set-lt (i + 1) log i a (omega arith) ∙ sym (drop-drop 1 i log) ∙ ap (drop 1) l.behind ∙ drop-drop 1 i before;
          long = length-set log i a ∙ l.long;
        }

    -- at the end
    pub left_none : min (length cs) (length before) ≤ i → i ≤ min (length cs) (length before) → (log ≡ say start asked ++ drop (length cs) before) × (book ≡ end start asked)
    left_none past within =
        let over : length asked ≤ i = omega (arith, length-take (length before) cs) in (
          sym (take-append-drop i log) ∙ ap₂ (λ xs ys. xs ++ ys) (sym (append-nil (take i log)) ∙ sym (ap (λ xs. take i log ++ xs) (at_drop_all (say book) asked i over)) ∙ l.said) (l.behind ∙ same_rest),
          sym (at_drop_all (end book) asked i over) ∙ l.kept,
        )
      where
        same_rest : drop i before ≡ drop (length cs) before
        same_rest = elim (cases_lt (length cs) (length before)) [
          | inl fewer ↦ let at : i ≡ length cs = omega arith in ap (λ n. drop n before) at
          | inr more ↦ drop_all i before (omega arith) ∙ sym (drop_all (length cs) before more)
        ]

answers_length : {F : Type 0} (R : Semiring F) (s : FixedParts F) (b : Book F) (cs : List (Call F)) → length (answers R s b cs) ≡ length cs
answers_length R s b [] = refl
answers_length R s b (c ∷ cs) = let rest = answers_length R s (after R s b c) cs in omega arith

-- the places with answers, and those behind them
log_parts : {A : Type 0} (said before log : List A) (n : ℕ) → length said ≡ min (length before) n → log ≡ said ++ drop n before → (take n log ≡ said) × (drop n log ≡ drop n before)
log_parts said before log n many e = elim (cases_lt (length before) n) [
  | inr places ↦
      let full : length said ≡ n = omega arith in
      (ap (take n) e ∙ take_at said (drop n before) n full, ap (drop n) e ∙ drop_at said (drop n before) n full)
  | inl short ↦
      let all : log ≡ said = e ∙ ap (λ xs. said ++ xs) (drop_all n before (omega arith)) ∙ append-nil said in
      (ap (take n) all ∙ take_all n said (omega arith), ap (drop n) all ∙ drop_all n said (omega arith) ∙ sym (drop_all n before (omega arith)))
]

pub day_log : {F : Type 0} (R : Semiring F) (s : FixedParts F) (start : Book F) (cs : List (Call F)) (before log : List (Answer F))
    → log ≡ answers R s start (take (length before) cs) ++ drop (length cs) before
    → (take (length cs) log ≡ answers R s start (take (length before) cs)) × (drop (length cs) log ≡ drop (length cs) before)
day_log R s start cs before log e =
    log_parts _ before log (length cs) (answers_length R s start (take (length before) cs) ∙ length-take (length before) cs) e

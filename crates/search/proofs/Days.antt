-- A day is answered as worked out, and in no other way.
use Rattle.std.specs.List.{list_all, range_with_len}
use Rattle.std.proofs.Common.{◌≡◌, ℕ, zero, suc, ◌+◌, ◌-◌, ◌<◌, ◌≤◌, Bool, true, false, not, ◌&&◌, eqb, ltb, ◌⊎◌, List, [], ◌∷◌, length, get_or, replicate, Some, None, Ok, Err, Option, sym, refl, ap, ◌∙◌, ap₂, inl, inr, arith}
use Rattle.std.proofs.lemmas.Bool.{true≢false, false≢true, cases_Bool, cond_both, and_parts, not-true, ltb-true}
use Rattle.kinds.specs.Semiring.{Semiring, Laws}
use Rattle.table.specs.Facts.{Among}
use Rattle.table.specs.Sound.{Roles, is_option, options, sound, verdict}
use Rattle.table.proofs.Listed.{every_at, some_at, some_among}
use Rattle.passes.specs.Holding.{Entries, entry, is_free}
use Rattle.passes.specs.Marks.{with_entry, held}
use Rattle.passes.specs.declared.holds.Entry.{Entry}
use Rattle.passes.specs.declared.holds.Entry.TheVariants.{Free}
use Rattle.search.specs.declared.call.Reply.TheVariants.{Done, Value, Chosen}
use Rattle.search.specs.declared.call.Call.{Call}
use Rattle.search.specs.declared.call.Reply.{Reply}
use Rattle.search.specs.declared.call.Call.TheVariants.{Hold, Release, Weigh, Trial, Figure, Bound, Select}
use Rattle.search.specs.declared.fault.Fault.{Fault}
use Rattle.search.specs.declared.fault.Fault.TheVariants.{StrayHold, NoOption, StillFree}
use Rattle.search.specs.Calls.{tried}
use Rattle.search.specs.Faults.{fault_number, turn}
use Rattle.search.specs.Orders.{Lawful}
use Rattle.search.specs.Study.{Tests, first_fit, stray_hold}
use Rattle.search.specs.Day.{Book, FixedParts, new, problem_by, facts, First, Accepted, after, Right, Day, ended, called, Answer, answer, answers, book_after, DaysAgree, NoStrays}
use Rattle.search.proofs.Holding.{entry_apart, entries_length, all_held}
use Rattle.search.proofs.Best.{one_figure, selects}
use Rattle.passes.proofs.Below.{bounded}

-- each refusal's number is below those of the refusals behind it
abbrev rise : Tests → Bool
rise [] = true
rise (t ∷ ts) = list_all (λ u. ltb (turn t.1) (turn u.1)) ts && rise ts

-- what the first fit means: no refusal fits, or this one does and its turn comes first of those that fit
abbrev Judged : Tests → Option Fault → Type 0
Judged ts None = (f : Fault) → Among (true, f) ts → ⊥
Judged ts (Some f) = Among (true, f) ts × ((g : Fault) → Among (true, g) ts → (f ≡ g) ⊎ (turn f < turn g))

judged_later : (t : Bool × Fault) (ts : Tests) (o : Option Fault) → t.0 ≡ false → Judged ts o → Judged (t ∷ ts) o
judged_later t ts None out j = λ f m. elim m [ inl same ↦ false≢true (sym out ∙ ap (λ u. u.0) same) | inr n ↦ j f n ]
judged_later t ts (Some f) out j = (
  inr j.0,
  λ g m. elim m [ inl same ↦ absurd (false≢true (sym out ∙ ap (λ u. u.0) same)) | inr n ↦ j.1 g n ],
)

judged : (ts : Tests) → rise ts ≡ true → Judged ts (first_fit ts)
judged [] up = λ f m. m
judged (t ∷ ts) up =
    let ups = and_parts (list_all (λ u. ltb (turn t.1) (turn u.1)) ts) (rise ts) up in
    cond_both t.0 (Some t.1) (first_fit ts) (Judged (t ∷ ts))
    (λ fits. (
      inl (ap (λ b. (b, t.1)) fits),
      λ g m. elim m [
        | inl same ↦ inl (ap (λ u. u.1) same)
        | inr n ↦ inr (ltb-true _ _ (every_at (λ u. ltb (turn t.1) (turn u.1)) ts ups.0 (true, g) n))
      ],
    ))
    (λ out. judged_later t ts (first_fit ts) out (judged ts ups.1))

module _ {F : Type 0} (R : Semiring F) (s : FixedParts F) (b : Book F) where
  tests_rise : (c : Call F) → rise (facts R s b c).tests ≡ true
  tests_rise (Hold v on) = refl
  tests_rise (Release v) = refl
  tests_rise (Weigh v x y) = refl
  tests_rise (Trial v on) = refl
  tests_rise Figure = refl
  tests_rise Bound = refl
  tests_rise Select = refl

  judge : (c : Call F) → Judged (facts R s b c).tests (first_fit (facts R s b c).tests)
  judge c = judged (facts R s b c).tests (tests_rise c)

  -- the refusal that is judged to be the first is
  judged_first : (c : Call F) (f : Fault) → Judged (facts R s b c).tests (Some f) → First R s b c f
  judged_first c f j = (j.0, λ g m. elim (j.1 g m) [ inl same ↦ rw same (omega arith) | inr l ↦ omega arith ])

  -- and no other
  first_judged : (c : Call F) (f g : Fault) → Judged (facts R s b c).tests (Some f) → First R s b c g → f ≡ g
  first_judged c f g j first = elim (j.1 g first.0) [ inl same ↦ same | inr l ↦ absurd (let m = first.1 f j.0 in omega arith) ]

  -- what the change and its absence keep, the book keeps
  after_keeps : (P : Entries → Type 0) (c : Call F) → P b.holds → (Accepted R s b c → P (facts R s b c).next.holds)
      → P (after R s b c).holds
  after_keeps P c kept new = by (first_fit (facts R s b c).tests) (judge c)
    where
      by : (o : Option Fault) → Judged (facts R s b c).tests o → P (elim o as (λ _. Book F) [ None ↦ (facts R s b c).next | Some f ↦ b ]).holds
      by None j = new j
      by (Some f) j = kept

-- a call leaves the holds as long as they are
next_length : {F : Type 0} (R : Semiring F) (s : FixedParts F) (b : Book F) (c : Call F) → length (facts R s b c).next.holds ≡ length b.holds
next_length R s b (Hold v on) = entries_length b.holds v (held on)
next_length R s b (Release v) = entries_length b.holds v Free
next_length R s b (Weigh v x y) = refl
next_length R s b (Trial v on) = refl
next_length R s b Figure = refl
next_length R s b Bound = refl
next_length R s b Select = refl

module _ {F : Type 0} (R : Semiring F) (s : FixedParts F) where
  -- a reply is what the call's facts say of it in one way only
  one_reply : (b : Book F) (c : Call F) (r : Reply F) → (facts R s b c).Says r → r ≡ (facts R s b c).reply
  one_reply b (Hold v on) r says = says
  one_reply b (Release v) r says = says
  one_reply b (Weigh v x y) r says = says
  one_reply b (Trial v on) Done says = absurd says
  one_reply b (Trial v on) (Value f) says = ap Value says.is_bound
  one_reply b (Trial v on) (Chosen found) says = absurd says
  one_reply b Figure Done says = absurd says
  one_reply b Figure (Value f) says = ap Value says.is_figure
  one_reply b Figure (Chosen found) says = absurd says
  one_reply b Bound Done says = absurd says
  one_reply b Bound (Value f) says = ap Value says.is_bound
  one_reply b Bound (Chosen found) says = absurd says
  one_reply b Select Done says = absurd says
  one_reply b Select (Value f) says = absurd says
  one_reply b Select (Chosen found) says = ap Chosen says.is_select

  one_answer : (b next : Book F) (c : Call F) (a : Answer F) → Right R s b c a next
      → (a ≡ answer R s b c) × (next ≡ after R s b c)
  one_answer b next c a right = by (first_fit (facts R s b c).tests) (judge R s b c)
    where
      by : (o : Option Fault) → Judged (facts R s b c).tests o → (a ≡ elim o [ None ↦ Ok (facts R s b c).reply | Some f ↦ Err f ]) × (next ≡ elim o [ None ↦ (facts R s b c).next | Some f ↦ b ])
      by None j = let said = right.accepted j in (said.0.1 ∙ ap Ok (one_reply b c said.0.0 said.0.2), said.1)
      by (Some f) j = right.refused f (judged_first R s b c f j)

  one_day : {b end : Book F} {cs : List (Call F)} {given : List (Answer F)} → Day R s b cs given end
      → (given ≡ answers R s b cs) × (end ≡ book_after R s b cs)
  one_day ended = (refl, refl)
  one_day (called {b = b} {next = next} {c = c} {a = a} {cs = cs} right rest) =
      let one = one_answer b next c a right in
      let later = one_day rest in
      (ap₂ ◌∷◌ one.0 (later.0 ∙ ap (λ x. answers R s x cs) one.1), later.1 ∙ ap (λ x. book_after R s x cs) one.1)

  pub days_agree : DaysAgree R s
  days_agree b end cs given day = one_day day

module _ {F : Type 0} (R : Semiring F) (laws : Laws R) (s : FixedParts F) (lawful : Lawful s.pick) (accepted : verdict s.roles s.circuit ≡ sound) where
  replies : (b : Book F) (c : Call F) → length s.roles ≤ length b.holds → Accepted R s b c → (facts R s b c).Says (facts R s b c).reply
  replies b (Hold v on) room passes = refl
  replies b (Release v) room passes = refl
  replies b (Weigh v x y) room passes = refl
  replies b (Trial v on) room passes = bounded R laws (tried (problem_by s b) v on) accepted
  replies b Figure room passes = record {
    is_figure = refl;
    only = one_figure R laws (problem_by s b) accepted b.holds (all_held s.roles b.holds (λ v m e.
        passes StillFree (inr (inr (inl (ap (λ t. (t, StillFree)) (some_among (λ x. is_free (entry b.holds x)) (options s.roles) v m e)))))));
  }
  replies b Bound room passes = bounded R laws (problem_by s b) accepted
  replies b Select room passes = selects R laws s.pick lawful (problem_by s b) accepted room

  answers_right : (b : Book F) (c : Call F) → length s.roles ≤ length b.holds → Right R s b c (answer R s b c) (after R s b c)
  answers_right b c room = by (first_fit (facts R s b c).tests) (judge R s b c)
    where
      by : (o : Option Fault) → Judged (facts R s b c).tests o
          → Right R s b c (elim o [ None ↦ Ok (facts R s b c).reply | Some f ↦ Err f ]) (elim o [ None ↦ (facts R s b c).next | Some f ↦ b ])
      by None j = record { refused = λ f first. absurd (j f first.0); accepted = λ passes. ((_, refl, replies b c room passes), refl) }
      by (Some f) j = record {
        refused = λ g first. (ap Err (first_judged R s b c f g j first), refl);
        accepted = λ passes. absurd (passes f j.0);
      }

  -- from each book with an entry for each variable
  runs : (b : Book F) (cs : List (Call F)) → length s.roles ≤ length b.holds → Day R s b cs (answers R s b cs) (book_after R s b cs)
  runs b [] room = ended
  runs b (c ∷ cs) room = called (answers_right b c room) (runs (after R s b c) cs
      (after_keeps R s b (λ h. length s.roles ≤ length h) c room (λ _. rw (next_length R s b c) room)))

  pub days_run : length s.roles ≤ 64 → (sheet : List F) (cs : List (Call F)) → Day R s (new sheet) cs (answers R s (new sheet) cs) (book_after R s (new sheet) cs)
  days_run few sheet cs = runs (new sheet) cs few

-- no variable but an option is held
abbrev Tidy : Roles → Entries → Type 0
Tidy rs h = (v : ℕ) → 1 ≤ v → is_option rs v ≡ false → is_free (entry h v) ≡ true

all_free : (n i : ℕ) → get_or (replicate n Free) i Free ≡ Free
all_free zero i = refl
all_free (suc n) zero = refl
all_free (suc n) (suc i) = all_free n i

tidy_with : (rs : Roles) (h : Entries) (v : ℕ) (e : Entry) → (not (is_option rs v) ≡ true → ⊥) → Tidy rs h → Tidy rs (with_entry h v e)
tidy_with rs h v e option tidy u low o = ap is_free (entry_apart h v u e low (λ same. option (ap not (rw same at o)))) ∙ tidy u low o

none_stray : (rs : Roles) (h : Entries) → Tidy rs h → (stray_hold rs h).0 ≡ false
none_stray rs h tidy = elim (cases_Bool (stray_hold rs h).0) [
  | inl t ↦ absurd (let s = some_at (λ v. not (is_option rs v) && not (is_free (entry h v))) (range_with_len 1 (length h)) t in
      let both = and_parts (not (is_option rs s.0)) _ s.2 in
      true≢false (sym both.1 ∙ ap not (tidy s.0 (low 1 (length h) s.0 s.1) (not-true _ both.0))))
  | inr f ↦ f
]
  where
    low : (i n v : ℕ) → Among v (range_with_len i n) → i ≤ v
    low i zero v m = absurd m
    low i (suc n) v (inl e) = omega arith
    low i (suc n) v (inr m) = let l = low (i + 1) n v m in omega arith

-- whether an answer, or a refusal that fits, is for stray holds
abbrev for_stray : {F : Type 0} → Answer F → Bool
for_stray (Ok r) = false
for_stray (Err f) = eqb (fault_number f) 15

abbrev not_for_stray : Bool × Fault → Bool
not_for_stray t = not (eqb (fault_number t.1) 15 && t.0)

module _ {F : Type 0} (R : Semiring F) (s : FixedParts F) where
  tidy_next : (b : Book F) (c : Call F) → Tidy s.roles b.holds → Accepted R s b c → Tidy s.roles (facts R s b c).next.holds
  tidy_next b (Hold v on) tidy passes = tidy_with s.roles b.holds v (held on) (λ e. passes (NoOption v) (inr (inl (ap (λ t. (t, NoOption v)) e)))) tidy
  tidy_next b (Release v) tidy passes = tidy_with s.roles b.holds v Free (λ e. passes (NoOption v) (inr (inl (ap (λ t. (t, NoOption v)) e)))) tidy
  tidy_next b (Weigh v x y) tidy passes = tidy
  tidy_next b (Trial v on) tidy passes = tidy
  tidy_next b Figure tidy passes = tidy
  tidy_next b Bound tidy passes = tidy
  tidy_next b Select tidy passes = tidy

  tests_stray : (b : Book F) (c : Call F) → (stray_hold s.roles b.holds).0 ≡ false → list_all not_for_stray (facts R s b c).tests ≡ true
  tests_stray b (Hold v on) out = rw out refl
  tests_stray b (Release v) out = rw out refl
  tests_stray b (Weigh v x y) out = rw out refl
  tests_stray b (Trial v on) out = rw out refl
  tests_stray b Figure out = rw out refl
  tests_stray b Bound out = rw out refl
  tests_stray b Select out = rw out refl

  answer_stray : (b : Book F) (c : Call F) → Tidy s.roles b.holds → for_stray (answer R s b c) ≡ false
  answer_stray b c tidy = by (first_fit (facts R s b c).tests) (judge R s b c)
    where
      by : (o : Option Fault) → Judged (facts R s b c).tests o → for_stray {F = F} (elim o [ None ↦ Ok (facts R s b c).reply | Some f ↦ Err f ]) ≡ false
      by None j = refl
      by (Some f) j = let e = every_at not_for_stray (facts R s b c).tests (tests_stray b c (none_stray s.roles b.holds tidy)) (true, f) j.0 in
          elim (cases_Bool (eqb (fault_number f) 15)) [ inl t ↦ absurd (false≢true (rw t at e)) | inr f ↦ f ]

  never_stray : {b end : Book F} {cs : List (Call F)} {given : List (Answer F)} → Day R s b cs given end → Tidy s.roles b.holds
      → Among (Err StrayHold) given → ⊥
  never_stray ended tidy m = m
  never_stray (called {b = b} {next = next} {c = c} {a = a} right rest) tidy (inl same) =
      true≢false (sym (ap for_stray same) ∙ ap for_stray (one_answer R s b next c a right).0 ∙ answer_stray b c tidy)
  never_stray (called {b = b} {next = next} {c = c} {a = a} right rest) tidy (inr m) =
      never_stray rest (rw (one_answer R s b next c a right).1 (after_keeps R s b (Tidy s.roles) c tidy (tidy_next b c tidy))) m

  pub no_strays : NoStrays R s
  no_strays sheet end cs given day = never_stray day (λ v low o. ap is_free (all_free 64 (v - 1)))

-- The reader line by line.
use Rattle.std.specs.List.{list_all}
use Rattle.std.proofs.Common.{◌≡◌, ℕ, ◌+◌, ◌-◌, ◌<◌, ◌≤◌, true, false, cond, ◌&&◌, leb, List, [], ◌∷◌, ◌++◌, length, take, drop, Ok, Err, Result, inl, inr, sym, refl, ap, ◌∙◌, ap₂, subst, arith}
use Rattle.std.proofs.lemmas.List.{length-take-le, take-append-drop, drop-drop, length-drop}
use Rattle.std.proofs.lemmas.Bool.{cases_Bool, cond-true, cond-false, and_from, le-leb}
use Rattle.text.specs.declared.fault.Reason.{Reason}
use Rattle.text.specs.declared.fault.Reason.TheVariants as reason
use Rattle.text.specs.declared.fault.Fault.{Fault}
use Rattle.text.specs.declared.fault.Fault.TheVariants as fault
use Rattle.text.specs.declared.kind.LineKind.{LineKind}
use Rattle.text.specs.declared.kind.LineKind.TheVariants as kind
use Rattle.text.specs.declared.kind.Section.{Section}
use Rattle.text.specs.declared.kind.Section.TheVariants as section
use Rattle.text.specs.declared.progress.Progress.{Progress}
use Rattle.text.specs.declared.record.Node.{Node}
use Rattle.text.specs.declared.record.Header.{Header}
use Rattle.text.specs.declared.record.Variable.{Variable}
use Rattle.text.specs.declared.record.Contents.{Contents}
use Rattle.text.specs.Lines.{printable, index_of, lines, fields}
use Rattle.text.specs.Format.{Said, Rooms, rooms_for, Sofar, Reading, NodeEntry, with_header, with_variable, with_node, header_says, variable_says, node_says, fitting, section_of, line_kind_of, is_complete, by_section, by_fields, line_says, accepted, refused, read_on, nothing_yet, file_says, overwritten}
use Rattle.text.specs.Steps.{sofar, rooms_of, Taken, first_says}
use Rattle.text.proofs.Cuts.{cut}
use Rattle.text.proofs.Stores.{nodes_inside, children_inside}
use Rattle.text.proofs.Limits.{same_ok, same_err, provided_ok, then_ok, never}

-- A line that is accepted, by its fields behind the letter: what it says, and what has been said with it.
pub data Accepts (rooms : Rooms) (s : Sofar) (size : ℕ) (fs : List (List ℕ)) : Sofar → Type 0 where
  header : (h : Header) → section_of s ≡ section.Header → header_says rooms fs ≡ Ok h → Accepts rooms s size fs (with_header s size h)
  variable : (v : Variable) → variable_says s.variables fs ≡ Ok v → Accepts rooms s size fs (with_variable s size v)
  node : (k : LineKind) (e : NodeEntry) → section_of s ≡ section.Nodes → node_says k fs ≡ Ok e
      → fitting s.header (length s.nodes) (length s.children) (length e.children) ≡ true → Accepts rooms s size fs (with_node s size e)

module _ (rooms : Rooms) (s : Sofar) (size : ℕ) (t : Sofar) where
  section_accepts : (at : Section) (k : LineKind) (fs : List (List ℕ)) → section_of s ≡ at → by_section rooms s size at k fs ≡ Ok t → Accepts rooms s size fs t
  section_accepts section.Header kind.Header fs is e =
      let p = then_ok (header_says rooms fs) _ t e in
      subst (Accepts rooms s size fs) (same_ok _ _ p.2) (header p.0 is p.1)
  section_accepts section.Variables kind.Variable fs is e =
      let p = then_ok (variable_says s.variables fs) _ t e in
      subst (Accepts rooms s size fs) (same_ok _ _ p.2) (variable p.0 p.1)
  section_accepts section.Nodes k fs is e =
      let p = then_ok (node_says k fs) _ t e in
      let q = provided_ok (fitting s.header (length s.nodes) (length s.children) (length p.0.children)) reason.Children _ t p.2 in
      subst (Accepts rooms s size fs) (same_ok _ _ q.1) (node k p.0 is p.1 q.0)
  section_accepts at k fs is e = never reason.Line t e

  fields_accept : (fs : List (List ℕ)) → by_fields rooms s size fs ≡ Ok t → Accepts rooms s size (drop 1 fs) t
  fields_accept [] e = never reason.Line t e
  fields_accept (f ∷ fs) e = section_accepts (section_of s) (line_kind_of f) fs refl e

pub line_accepts : (rooms : Rooms) (s : Sofar) (l : List ℕ) (t : Sofar) → line_says rooms s l ≡ Ok t → (list_all printable l ≡ true) × Accepts rooms s (length l) (drop 1 (fields l)) t
unfolding line_says
line_accepts rooms s l t e =
    let p = provided_ok (list_all printable l) reason.Line _ t e in
    (p.0, fields_accept rooms s (length l) t (fields l) p.1)

-- a line that is accepted ends at the next line's place
place_on : (rooms : Rooms) (s : Sofar) (size : ℕ) (fs : List (List ℕ)) (t : Sofar) → Accepts rooms s size fs t → t.place ≡ s.place + (size + 1)
place_on rooms s size fs _ (header h is says) = refl
place_on rooms s size fs _ (variable v says) = refl
place_on rooms s size fs _ (node k e is says fits) = refl

line_place : (rooms : Rooms) (s : Sofar) (l : List ℕ) (t : Sofar) → line_says rooms s l ≡ Ok t → t.place ≡ s.place + (length l + 1)
line_place rooms s l t e = place_on rooms s (length l) (drop 1 (fields l)) t (line_accepts rooms s l t e).1

-- One step of the reading.
module _ (rooms : Rooms) (s : Sofar) where
  pub read_complete : (ls : List (List ℕ)) → is_complete s ≡ true → read_on rooms s ls ≡ accepted s
  unfolding read_on
  read_complete [] h = cond-true (is_complete s) _ _ h
  read_complete (l ∷ ls) h = cond-true (is_complete s) _ _ h

  module _ (due : is_complete s ≡ false) where
    pub read_refused : (ls : List (List ℕ)) (r : Reason) → first_says rooms s ls ≡ Err r → read_on rooms s ls ≡ refused s r
    unfolding read_on
    read_refused [] r e = cond-false (is_complete s) _ _ due ∙ ap (refused s) (same_err _ _ e)
    read_refused (l ∷ ls) r e = cond-false (is_complete s) _ _ due ∙ ap (λ said. elim said [ Ok t ↦ read_on rooms t ls | Err x ↦ refused s x ]) e

    pub read_taken : (ls : List (List ℕ)) (t : Sofar) → first_says rooms s ls ≡ Ok t → read_on rooms s ls ≡ read_on rooms t (drop 1 ls)
    unfolding read_on
    read_taken [] t e = never reason.Line t e
    read_taken (l ∷ ls) t e = cond-false (is_complete s) _ _ due ∙ ap (λ said. elim said [ Ok x ↦ read_on rooms x ls | Err x ↦ refused s x ]) e

-- What holds of the lines so far, and still holds with each line that is accepted, holds of all lines of an accepted file.
module _ (rooms : Rooms) (Holds : Sofar → Type 0) (on : (s t : Sofar) (l : List ℕ) → is_complete s ≡ false → Holds s → line_says rooms s l ≡ Ok t → Holds t) where
  module _ (c : Contents) (P : Reading → Type 0) (ends : (s : Sofar) → is_complete s ≡ true → Holds s → (accepted s).answer ≡ Ok c → P (accepted s)) where
    abbrev Want : Reading → Type 0
    Want told = told.answer ≡ Ok c → P told

    not_refused : (told : Reading) (f : Fault) → told.answer ≡ Err f → Want told
    not_refused told f e is = let z : ◌≡◌ {A = ℕ} 0 1 = cc in absurd (omega arith)

    read_holds : (s : Sofar) (ls : List (List ℕ)) → Holds s → Want (read_on rooms s ls)
    read_holds s [] h = elim (cases_Bool (is_complete s)) [
      | inl done ↦ subst Want (sym (read_complete rooms s [] done)) (ends s done h)
      | inr due ↦ subst Want (sym (read_refused rooms s due [] reason.Line refl)) (not_refused (refused s reason.Line) _ refl)
    ]
    read_holds s (l ∷ ls) h = elim (cases_Bool (is_complete s)) [
      | inl done ↦ subst Want (sym (read_complete rooms s (l ∷ ls) done)) (ends s done h)
      | inr due ↦ by due (line_says rooms s l) refl (λ t k. read_holds t ls k)
    ]
      where
        by : is_complete s ≡ false → (said : Said Sofar) → line_says rooms s l ≡ said → ((t : Sofar) → Holds t → Want (read_on rooms t ls)) → Want (read_on rooms s (l ∷ ls))
        by due (Ok t) is later = subst Want (sym (read_taken rooms s due (l ∷ ls) t is)) (later t (on s t l due h is))
        by due (Err r) is later = subst Want (sym (read_refused rooms s due (l ∷ ls) r is)) (not_refused (refused s r) _ refl)

    pub file_holds : (file : List ℕ) → Holds nothing_yet → Want (file_says rooms file)
    unfolding file_says
    file_holds file h = elim (leb 1 (length file) && leb (length file) 65536) as (λ t. Want (cond t (read_on rooms nothing_yet (lines file)) (record { nodes = []; children = []; answer = Err fault.Length }))) [
      | true ↦ read_holds nothing_yet (lines file) h
      | false ↦ not_refused (record { nodes = []; children = []; answer = Err fault.Length }) _ refl
    ]

-- the next line ends where the lines behind it begin
pub next_place : (rooms : Rooms) (s t : Sofar) (file : List ℕ) → s.place ≤ length file → first_says rooms s (lines (drop s.place file)) ≡ Ok t
    → (s.place < t.place) × (t.place ≤ length file) × (drop 1 (lines (drop s.place file)) ≡ lines (drop t.place file))
next_place rooms s t file within e =
    elim (cut (drop s.place file)) [
      | inl b ↦ (
          let l = take (index_of 10 (drop s.place file)) (drop s.place file) in
          let on = line_place rooms s l t (sym (ap (first_says rooms s) b.lines_are) ∙ e) in (
            omega (arith, on),
            omega (arith, on, b.within, length-drop s.place file),
            ap (drop 1) b.lines_are ∙ ap lines (drop-drop (length l + 1) s.place file) ∙ ap (λ p. lines (drop p file)) (sym on),
          )
          )
      | inr none ↦ never reason.Line t (sym (ap (first_says rooms s) none) ∙ e)
    ]

-- what is kept from a place on is kept from a later one
kept_on : {A : Type 0} (m n : ℕ) (xs ys zs : List A) → m ≤ n → drop n xs ≡ drop n ys → drop m ys ≡ drop m zs → drop n xs ≡ drop n zs
kept_on m n xs ys zs le e f =
    let split : n ≡ m + (n - m) = omega arith in
    e ∙ ap (λ k. drop k ys) split ∙ sym (drop-drop (n - m) m ys) ∙ ap (drop (n - m)) f ∙ drop-drop (n - m) m zs ∙ ap (λ k. drop k zs) (sym split)

-- The whole file, read into the stores ns and cs.
module _ (file : List ℕ) (ns : List Node) (cs : List ℕ) where
  -- what is left says what the file says; behind what was read the stores are as they were
  pub record Going (s : Progress) : Type 0 where
    pub reads : read_on (rooms_for ns cs) (sofar s) (lines (drop s.place file)) ≡ read_on (rooms_for ns cs) nothing_yet (lines file)
    pub within : s.place ≤ length file
    pub nodes_long : length s.node_store.now ≡ length ns
    pub children_long : length s.child_store.now ≡ length cs
    pub nodes_kept : drop s.nodes s.node_store.now ≡ drop s.nodes ns
    pub children_kept : drop s.children s.child_store.now ≡ drop s.children cs

  -- the answer and the stores are those of a reading
  pub record Ends (told : Reading) (answer : Result Contents Fault) (ns' : List Node) (cs' : List ℕ) : Type 0 where
    pub answer_is : answer ≡ told.answer
    pub nodes_are : ns' ≡ overwritten told.nodes ns
    pub children_are : cs' ≡ overwritten told.children cs

  overwritten_front : {A : Type 0} (n : ℕ) (xs old : List A) → n ≤ length xs → drop n xs ≡ drop n old → xs ≡ overwritten (take n xs) old
  overwritten_front n xs old h e = sym (take-append-drop n xs) ∙ ap (λ ys. take n xs ++ ys) (e ∙ ap (λ k. drop k old) (sym (length-take-le n xs h)))

  pub begins : (s : Progress) → sofar s ≡ nothing_yet → s.node_store.now ≡ ns → s.child_store.now ≡ cs → Going s
  begins s none nodes children = record {
    reads = ap₂ (λ t p. read_on (rooms_for ns cs) t (lines (drop p file))) none (ap (λ t. t.place) none);
    within = omega (arith, ap (λ t. t.place) none);
    nodes_long = ap length nodes;
    children_long = ap length children;
    nodes_kept = ap (drop s.nodes) nodes;
    children_kept = ap (drop s.children) children;
  }

  module _ (s : Progress) (g : Going s) where
    -- the stores keep their lengths
    pub rooms_same : rooms_of s ≡ rooms_for ns cs
    rooms_same = λ i. record { nodes = g.nodes_long i; children = g.children_long i }

    ends : (told : Reading) (answer : Result Contents Fault) → told.nodes ≡ take s.nodes s.node_store.now → told.children ≡ take s.children s.child_store.now → answer ≡ told.answer
        → Ends told answer s.node_store.now s.child_store.now
    ends told answer n c a = record {
      answer_is = a;
      nodes_are = overwritten_front s.nodes s.node_store.now ns (nodes_inside s) g.nodes_kept ∙ ap (λ xs. overwritten xs ns) (sym n);
      children_are = overwritten_front s.children s.child_store.now cs (children_inside s) g.children_kept ∙ ap (λ xs. overwritten xs cs) (sym c);
    }

    pub ends_accepted : is_complete (sofar s) ≡ true → Ends (read_on (rooms_for ns cs) nothing_yet (lines file)) (accepted (sofar s)).answer s.node_store.now s.child_store.now
    ends_accepted h =
        let e = sym (read_complete (rooms_for ns cs) (sofar s) (lines (drop s.place file)) h) ∙ g.reads in
        ends _ _ (sym (ap (λ x. x.nodes) e)) (sym (ap (λ x. x.children) e)) (ap (λ x. x.answer) e)

    module _ (due : is_complete (sofar s) ≡ false) where
      pub ends_line : (r : Reason) → first_says (rooms_for ns cs) (sofar s) (lines (drop s.place file)) ≡ Err r → Ends (read_on (rooms_for ns cs) nothing_yet (lines file)) (Err (fault.Line r s.line)) s.node_store.now s.child_store.now
      ends_line r says =
          let e = sym (read_refused (rooms_for ns cs) (sofar s) due (lines (drop s.place file)) r says) ∙ g.reads in
          ends _ _ (sym (ap (λ x. x.nodes) e)) (sym (ap (λ x. x.children) e)) (ap (λ x. x.answer) e)

      pub goes_on : (t : Progress) → length t.node_store.now ≡ length s.node_store.now → length t.child_store.now ≡ length s.child_store.now
          → Taken s t (first_says (rooms_for ns cs) (sofar s) (lines (drop s.place file))) → Going t
      goes_on t nodes-same children-same taken =
          let on = next_place (rooms_for ns cs) (sofar s) (sofar t) file g.within taken.says in
          record {
            reads = ap (read_on (rooms_for ns cs) (sofar t)) (sym on.2) ∙ sym (read_taken (rooms_for ns cs) (sofar s) due (lines (drop s.place file)) (sofar t) taken.says) ∙ g.reads;
            within = on.1;
            nodes_long = nodes-same ∙ g.nodes_long;
            children_long = children-same ∙ g.children_long;
            nodes_kept = kept_on s.nodes t.nodes t.node_store.now s.node_store.now ns taken.on.0 taken.nodes g.nodes_kept;
            children_kept = kept_on s.children t.children t.child_store.now s.child_store.now cs taken.on.1 taken.children g.children_kept;
          }

  -- a file of 1 to 65536 bytes is read line by line
  pub ends_inside : (answer : Result Contents Fault) (ns' : List Node) (cs' : List ℕ) → 1 ≤ length file → length file ≤ 65536 → Ends (read_on (rooms_for ns cs) nothing_yet (lines file)) answer ns' cs' → Ends (file_says (rooms_for ns cs) file) answer ns' cs'
  unfolding file_says
  ends_inside answer ns' cs' low high e =
      subst (λ told. Ends told answer ns' cs') (sym (cond-true _ _ _ (and_from (leb 1 (length file)) (leb (length file) 65536) (le-leb 1 (length file) low) (le-leb (length file) 65536 high)))) e

  -- any other is refused
  pub ends_outside : (leb 1 (length file) && leb (length file) 65536) ≡ false → Ends (file_says (rooms_for ns cs) file) (Err fault.Length) ns cs
  unfolding file_says
  ends_outside h = subst (λ told. Ends told (Err fault.Length) ns cs) (sym (cond-false _ _ _ h)) (record { answer_is = refl; nodes_are = refl; children_are = refl })

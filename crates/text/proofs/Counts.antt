-- An accepted file has as many nodes and children as its header says.
use Rattle.std.proofs.Common.{◌≡◌, ℕ, ◌+◌, ◌<◌, ◌≤◌, Bool, true, false, cond, ◌&&◌, ◌||◌, eqb, ltb, leb, List, length, drop, Ok, refl, inl, inr, ⊎_elim, arith}
use Rattle.std.proofs.lemmas.List.{length-append, length_push}
use Rattle.std.proofs.lemmas.Bool.{and_parts, and_from, or_cases, leb-true, ltb-true, ltb-false, le-leb, lt-ltb, eqb-true, eqb-false, cases_lt, both_ways}
use Rattle.text.specs.declared.kind.Section.TheVariants as section
use Rattle.text.specs.declared.record.Contents.{Contents}
use Rattle.text.specs.Lines.{fields}
use Rattle.text.specs.Format.{Rooms, Sofar, section_of, node_of, is_complete, file_says, AsMany}
use Rattle.text.proofs.Limits.{header_limits}
use Rattle.text.proofs.Runs.{Accepts, header, variable, node, line_accepts, file_holds}

-- no more nodes and children than the header says, and all children with the last node; none before the header line
record Counted (s : Sofar) : Type 0 where
  first : 1 ≤ s.line
  start : s.line ≡ 1 → (length s.nodes ≡ 0) × (length s.children ≡ 0)
  nodes : length s.nodes ≤ s.header.nodes
  children : length s.children ≤ s.header.children
  full : s.header.nodes ≤ length s.nodes → s.header.children ≤ length s.children

header_due : (one more : Bool) → cond one section.Header (cond more section.Variables section.Nodes) ≡ section.Header → one ≡ true
header_due true more e = refl
header_due false true e = let z : ◌≡◌ {A = ℕ} 0 1 = cc in absurd (omega arith)
header_due false false e = let z : ◌≡◌ {A = ℕ} 0 1 = cc in absurd (omega arith)

nodes_due : (one more : Bool) → cond one section.Header (cond more section.Variables section.Nodes) ≡ section.Nodes → (one ≡ false) × (more ≡ false)
nodes_due true more e = let z : ◌≡◌ {A = ℕ} 0 1 = cc in absurd (omega arith)
nodes_due false true e = let z : ◌≡◌ {A = ℕ} 0 1 = cc in absurd (omega arith)
nodes_due false false e = (refl, refl)

-- an accepted line keeps this
module _ (rooms : Rooms) (s : Sofar) (size : ℕ) (fs : List (List ℕ)) (due : is_complete s ≡ false) (counted : Counted s) where
  node_left : section_of s ≡ section.Nodes → length s.nodes < s.header.nodes
  node_left is =
      let p = nodes_due (eqb s.line 1) (ltb (length s.variables) s.header.variables) is in
      elim (cases_lt (length s.nodes) s.header.nodes) [
        | inl h ↦ h
        | inr h ↦ (
            let line : 1 < s.line = omega (arith, counted.first, eqb-false s.line 1 p.0) in
            let variables : s.header.variables ≤ length s.variables = ltb-false (length s.variables) s.header.variables p.1 in
            absurd (both_ways (is_complete s) due
            (and_from (ltb 1 s.line && leb s.header.variables (length s.variables)) (leb s.header.nodes (length s.nodes))
            (and_from (ltb 1 s.line) (leb s.header.variables (length s.variables)) (lt-ltb 1 s.line line) (le-leb s.header.variables (length s.variables) variables))
            (le-leb s.header.nodes (length s.nodes) h)))
            )
      ]

  keeps_counted : (t : Sofar) → Accepts rooms s size fs t → Counted t
  keeps_counted _ (header h is says) =
      let limits = header_limits rooms fs h says in
      let empty = counted.start (eqb-true s.line 1 (header_due (eqb s.line 1) (ltb (length s.variables) s.header.variables) is)) in
      record {
        first = omega arith;
        start = λ e. absurd (omega (arith, counted.first, e));
        nodes = omega (arith, empty.0);
        children = omega (arith, empty.1);
        full = λ e. absurd (omega (arith, limits.some_node, empty.0, e));
      }
  keeps_counted _ (variable v says) = record {
    first = omega arith;
    start = λ e. absurd (omega (arith, counted.first, e));
    nodes = counted.nodes;
    children = counted.children;
    full = counted.full;
  }
  keeps_counted _ (node k e is says fits) =
      let used = length s.children + length e.children in
      let room = and_parts (leb used s.header.children) (ltb (length s.nodes + 1) s.header.nodes || leb s.header.children used) fits in
      record {
        first = omega arith;
        start = λ h. absurd (omega (arith, counted.first, h));
        nodes = omega (arith, length_push s.nodes (node_of s e), node_left is);
        children = omega (arith, length-append s.children e.children, leb-true used s.header.children room.0);
        full = λ h.
            ⊎_elim (λ l. absurd (omega (arith, ltb-true (length s.nodes + 1) s.header.nodes l, length_push s.nodes (node_of s e), h)))
            (λ m. omega (arith, leb-true s.header.children used m, length-append s.children e.children))
            (or_cases (ltb (length s.nodes + 1) s.header.nodes) (leb s.header.children used) room.1);
      }

-- what is accepted has as many as its header says
pub file_counted : (c : Contents) (rooms : Rooms) (file : List ℕ) → (file_says rooms file).answer ≡ Ok c → AsMany (file_says rooms file) c
file_counted c rooms file =
    file_holds rooms Counted (λ s t l due counted e. keeps_counted rooms s (length l) (drop 1 (fields l)) due counted t (line_accepts rooms s l t e).1) c (λ told. AsMany told c)
    (λ s done counted e.
    let all = leb-true s.header.nodes (length s.nodes) (and_parts (ltb 1 s.line && leb s.header.variables (length s.variables)) (leb s.header.nodes (length s.nodes)) done).1 in
    let told : (s.header.nodes ≡ c.nodes) × (s.header.children ≡ c.children) = (cc, cc) in
    (omega (arith, told.0, all, counted.nodes), omega (arith, told.1, counted.full all, counted.children))) file
    (record { first = omega arith; start = λ _. (refl, refl); nodes = omega arith; children = omega arith; full = λ _. omega arith })

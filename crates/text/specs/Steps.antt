-- What the parts of the reader hold, in the words of the format.
use Rattle.std.specs.Prelude.{◌≡◌, ℕ, ◌+◌, ◌≤◌, List, [], ◌∷◌, ◌++◌, map, length, take, drop, Ok, Err, Result}
use Rattle.text.specs.declared.fault.Reason.{Reason}
use Rattle.text.specs.declared.fault.Reason.TheVariants as reason
use Rattle.text.specs.declared.kind.LineKind.{LineKind}
use Rattle.text.specs.declared.nodes.NodeLine.{NodeLine}
use Rattle.text.specs.declared.progress.Progress.{Progress}
use Rattle.text.specs.declared.kind.Section.{Section}
use Rattle.text.specs.Lines.{lines, fields}
use Rattle.text.specs.Format.{by_section, line_says, Said, NodeEntry, node_entry, node_says, number_or_zero, Rooms, rooms_for, Sofar, listed}

-- a store after numbers were written from a place on
abbrev pub written_at : {A : Type 0} → ℕ → List A → List A → List A
written_at at xs store = take at store ++ xs ++ drop (at + length xs) store

-- what a node line with these fields says, by what was read of it
abbrev pub line_entry : List (List ℕ) → NodeLine → NodeEntry
line_entry fs n = node_entry n.form (map number_or_zero (drop n.from fs))

-- what was read of a node line is what is said
abbrev pub ReadsAs : Said NodeEntry → List (List ℕ) → Result NodeLine Reason → Type 0
ReadsAs said fs (Ok n) = (said ≡ Ok (line_entry fs n)) × (n.from ≤ length fs)
ReadsAs said fs (Err r) = said ≡ Err r

-- it is what a line of this kind with these fields says
abbrev pub ReadsNode : LineKind → List (List ℕ) → Result NodeLine Reason → Type 0
ReadsNode k fs r = ReadsAs (node_says k (drop 1 fs)) fs r

-- what has been said so far, as the reader holds it
abbrev pub sofar : Progress → Sofar
sofar s = record {
  header = s.header;
  variables = listed s.variables;
  nodes = take s.nodes s.node_store.now;
  children = take s.children s.child_store.now;
  line = s.line;
  place = s.place;
}

-- the room in the reader's two stores
abbrev pub rooms_of : Progress → Rooms
rooms_of s = rooms_for s.node_store.now s.child_store.now

-- the reader has the same two stores, as long as before
pub record HasStoresOf (before after : Progress) : Type 0 where
  pub nodes : after.node_store.ghost_name ≡ before.node_store.ghost_name
  pub children : after.child_store.ghost_name ≡ before.child_store.ghost_name
  pub nodes_long : length after.node_store.now ≡ length before.node_store.now
  pub children_long : length after.child_store.now ≡ length before.child_store.now

-- one line was taken; behind what was read, the stores are as they were
pub record Taken (before after : Progress) (said : Said Sofar) : Type 0 where
  pub says : said ≡ Ok (sofar after)
  pub nodes : drop after.nodes after.node_store.now ≡ drop after.nodes before.node_store.now
  pub children : drop after.children after.child_store.now ≡ drop after.children before.child_store.now
  pub on : (before.nodes ≤ after.nodes) × (before.children ≤ after.children)

-- a line was taken, or it was refused and the stores are as they were
abbrev pub Moves : (Progress → Said Sofar) → Progress → Progress → {U : Type 0} → Result U Reason → Type 0
Moves said before after (Ok u) = Taken before after (said before)
Moves said before after (Err r) = (said before ≡ Err r) × (after.node_store.now ≡ before.node_store.now) × (after.child_store.now ≡ before.child_store.now)

-- one step of the reader: it moves by what is said, and has its stores as before
pub record Steps (said : Progress → Said Sofar) (before after : Progress) {U : Type 0} (r : Result U Reason) : Type 0 where
  pub moves : Moves said before after r
  pub stores : HasStoresOf before after

-- what a line of a kind says in a section
abbrev pub says_in : Section → LineKind → List ℕ → Progress → Said Sofar
says_in at k l s = by_section (rooms_of s) (sofar s) (length l) at k (drop 1 (fields l))

-- what a line says
abbrev pub says : List ℕ → Progress → Said Sofar
says l s = line_says (rooms_of s) (sofar s) l

-- what the first of the lines that are left says; there has to be one
abbrev pub first_says : Rooms → Sofar → List (List ℕ) → Said Sofar
first_says rooms s [] = Err reason.Line
first_says rooms s (l ∷ ls) = line_says rooms s l

-- what the line that is due in a file says
abbrev pub next_says : List ℕ → Progress → Said Sofar
next_says file s = first_says (rooms_of s) (sofar s) (lines (drop s.place file))

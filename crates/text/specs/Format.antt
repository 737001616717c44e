-- What a table file says, or the first refusal that fits.
--
-- A file is a list of lines, a line a list of fields. Each line is judged by what the lines before it said: first
-- comes the header, then a line for each variable, then a line for each node.
use Rattle.std.specs.Prelude.{◌≡◌, ℕ, ◌+◌, min, Bool, true, false, not, ◌&&◌, ◌||◌, List, [], ◌∷◌, ◌++◌, map, filter, length, take, drop, replicate, is_some, Some, None, Ok, Err, codes, Option, Result, ◌==◌, nat_le, nat_lt, if◌then◌else◌}
use Rattle.std.proofs.Math.Nat.{min-le_right}
use Rattle.std.specs.List.{list_any, list_all}
use Rattle.std.specs.Option.{ok_or, option_map, unwrap_or}
use Rattle.std.specs.Str.{bytes_eq}
use Rattle.text.specs.declared.fault.Reason.{Reason}
use Rattle.text.specs.declared.fault.Reason.TheVariants as reason
use Rattle.text.specs.declared.fault.Fault.{Fault}
use Rattle.text.specs.declared.fault.Fault.TheVariants as fault
use Rattle.text.specs.declared.kind.LineKind.{LineKind}
use Rattle.text.specs.declared.kind.LineKind.TheVariants as kind
use Rattle.text.specs.declared.kind.Section.{Section}
use Rattle.text.specs.declared.kind.Section.TheVariants as section
use Rattle.text.specs.declared.record.Form.{Form}
use Rattle.text.specs.declared.record.Form.TheVariants.{Literal, And, Fork, True, False}
use Rattle.text.specs.declared.record.Node.{Node}
use Rattle.text.specs.declared.record.Role.{Role}
use Rattle.text.specs.declared.record.Role.TheVariants as role
use Rattle.text.specs.declared.record.Name.{Name}
use Rattle.text.specs.declared.record.Variable.{Variable}
use Rattle.text.specs.declared.record.Variables.{Variables}
use Rattle.text.specs.declared.record.Header.{Header}
use Rattle.text.specs.declared.record.Contents.{Contents}
use Rattle.text.specs.Lines.{printable, lines, fields}
use Rattle.text.specs.Numerals.{number}

-- what a part of a line says, or the first reason to refuse the line
abbrev pub Said : Type 0 → Type 0
Said A = Result A Reason

-- one part after the other: the first reason wins
abbrev pub and_then : {A B : Type 0} → Said A → (A → Said B) → Said B
and_then (Ok a) next = next a
and_then (Err r) next = Err r

-- what is said if a test holds, else the reason
abbrev pub provided : {A : Type 0} → Bool → Reason → Said A → Said A
provided b r said = if b then said else Err r

-- the record of a name; a field that follows the rules has at most 24 bytes
abbrev pub name_of : List ℕ → Name
name_of f = record { bytes = take 24 (f ++ replicate 24 0); length = min (length f) 24; fits = min-le_right _ _ }

-- the bytes of a name
abbrev pub spelled : Name → List ℕ
spelled n = take n.length n.bytes

-- what stands behind the last variable
abbrev pub blank : Variable
blank = record { role = role.Chance; name = name_of [] }

-- the record of a list of variables; a file has at most 64
abbrev pub variables_of : List Variable → Variables
variables_of vs = record { all = take 64 (vs ++ replicate 64 blank); count = min (length vs) 64; fits = min-le_right _ _ }

-- the variables as a list
abbrev pub listed : Variables → List Variable
listed vs = take vs.count vs.all

-- the number that a field writes
abbrev pub number_field : List ℕ → Said ℕ
number_field f = ok_or (number f) reason.Number

-- What each kind of line says, by its fields behind the letter. A line with other fields is refused.

-- how many node records and child numbers the caller's stores can hold
pub record Rooms : Type 0 where
  pub nodes : ℕ
  pub children : ℕ

-- the room in these two stores
abbrev pub rooms_for : List Node → List ℕ → Rooms
rooms_for ns cs = record { nodes = length ns; children = length cs }

-- 1 to 64 variables, 1 to 4096 nodes, at most 12288 children
abbrev pub within_limits : ℕ → ℕ → ℕ → Bool
within_limits v n c = nat_le 1 v && nat_le v 64 && (nat_le 1 n && nat_le n 4096) && nat_le c 12288

abbrev pub header_of : ℕ → ℕ → ℕ → Header
header_of v n c = record { variables = v; nodes = n; children = c }

-- the header line: the counts of variables, nodes and children
unfoldable pub header_says : Rooms → List (List ℕ) → Said Header
header_says rooms (a ∷ b ∷ c ∷ []) =
    and_then (number_field a) (λ v. and_then (number_field b) (λ n. and_then (number_field c) (λ k.
    provided (within_limits v n k) reason.Limit
    (provided (nat_le n rooms.nodes && nat_le k rooms.children) reason.Store
    (Ok (header_of v n k))))))
header_says rooms fs = Err reason.Line

-- E for an option, R for a chance
abbrev pub role_of : List ℕ → Option Role
role_of f = if bytes_eq f (codes "E") then Some role.Option else (if bytes_eq f (codes "R") then Some role.Chance else None)

-- whether one of the variables has this name
abbrev pub is_named : List ℕ → List Variable → Bool
is_named f vs = list_any (λ v. bytes_eq (spelled v.name) f) vs

abbrev pub is_option_role : Role → Bool
is_option_role role.Option = true
is_option_role role.Chance = false

-- how many of the variables are options
abbrev pub option_count : List Variable → ℕ
option_count vs = length (filter (λ v. is_option_role v.role) vs)

-- the rules of a variable line, after the variables before it: the number rises from 1, a name has 1 to 24 bytes
-- and is new, at most 20 variables are options
abbrev pub follows_rules : List Variable → ℕ → Role → List ℕ → Bool
follows_rules before number r name =
    (number == length before + 1) && (nat_le 1 (length name) && nat_le (length name) 24)
    && not (is_named name before) && nat_le (option_count before + (if is_option_role r then 1 else 0)) 20

-- a variable line, after the variables before it: its number, its role, its name
unfoldable pub variable_says : List Variable → List (List ℕ) → Said Variable
variable_says before (a ∷ b ∷ c ∷ []) =
    and_then (number_field a) (λ n. and_then (ok_or (role_of b) reason.Variable) (λ r.
    provided (follows_rules before n r c) reason.Variable
    (Ok (record { role = r; name = name_of c }))))
variable_says before fs = Err reason.Line

-- what a node line says: the node's form, and its children's numbers
pub record NodeEntry : Type 0 where
  pub form : Form
  pub children : List ℕ

abbrev pub node_entry : Form → List ℕ → NodeEntry
node_entry f cs = record { form = f; children = cs }

-- the literal of the variable with this number, if there is a number
abbrev pub literal_of : Bool → Option ℕ → Option Form
literal_of on o = option_map (λ v. Literal v on) o

-- a literal: a variable's number, with a minus sign, 45, in front for off
abbrev pub literal : List ℕ → Option Form
literal [] = None
literal (b ∷ bs) = if b == 45 then literal_of false (number bs) else literal_of true (number (b ∷ bs))

abbrev pub is_number : List ℕ → Bool
is_number f = is_some (number f)

abbrev pub number_or_zero : List ℕ → ℕ
number_or_zero f = unwrap_or (number f) 0

-- the numbers that fields write, if each has the form
abbrev pub numbers : List (List ℕ) → Said (List ℕ)
numbers fs = provided (list_all is_number fs) reason.Number (Ok (map number_or_zero fs))

-- true and false have no fields
abbrev pub leaf_says : Form → List (List ℕ) → Said NodeEntry
leaf_says form [] = Ok (node_entry form [])
leaf_says form fs = Err reason.Line

-- a node line: a literal, an and with its children, a fork with its variable and its two branches, true, false
unfoldable pub node_says : LineKind → List (List ℕ) → Said NodeEntry
node_says kind.Literal (f ∷ []) = and_then (ok_or (literal f) reason.Number) (λ form. Ok (node_entry form []))
node_says kind.And (f ∷ fs) = and_then (numbers (f ∷ fs)) (λ cs. Ok (node_entry And cs))
node_says kind.Fork (v ∷ a ∷ b ∷ []) = and_then (number_field v) (λ n. and_then (numbers (a ∷ b ∷ [])) (λ cs. Ok (node_entry (Fork n) cs)))
node_says kind.True fs = leaf_says True fs
node_says kind.False fs = leaf_says False fs
node_says k fs = Err reason.Line

-- The lines together.

-- what the lines so far have said; all counts of the header are 0 before the first line
pub record Sofar : Type 0 where
  pub header : Header
  pub variables : List Variable
  pub nodes : List Node
  pub children : List ℕ
  -- the number of the next line, from 1, and the place where it begins
  pub line : ℕ
  pub place : ℕ

abbrev pub nothing_yet : Sofar
nothing_yet = record { header = header_of 0 0 0; variables = []; nodes = []; children = []; line = 1; place = 0 }

-- the section that the next line belongs to
abbrev pub section_of : Sofar → Section
section_of s = if s.line == 1 then section.Header else (if nat_lt (length s.variables) s.header.variables then section.Variables else section.Nodes)

-- whether every line that is due has been read
abbrev pub is_complete : Sofar → Bool
is_complete s = nat_lt 1 s.line && nat_le s.header.variables (length s.variables) && nat_le s.header.nodes (length s.nodes)

-- whether a node after `nodes` others, which have `used` children, may have `count` more: the children do not pass
-- the header's count, and reach it at the last node
abbrev pub fitting : Header → (nodes used count : ℕ) → Bool
fitting h nodes used count = nat_le (used + count) h.children && (nat_lt (nodes + 1) h.nodes || nat_le h.children (used + count))

-- what a line is by its letter: G, V, L, A, O, T or F
abbrev pub by_letter : ℕ → LineKind
by_letter b =
    if b == 71 then kind.Header else (if b == 86 then kind.Variable else (if b == 76 then kind.Literal else (if b == 65 then kind.And
    else (if b == 79 then kind.Fork else (if b == 84 then kind.True else (if b == 70 then kind.False else kind.Other))))))

-- what a line is by its first field, which is one letter
abbrev pub line_kind_of : List ℕ → LineKind
line_kind_of (b ∷ []) = by_letter b
line_kind_of f = kind.Other

-- one line on, which has `size` bytes before its byte 10
abbrev pub with_header : Sofar → ℕ → Header → Sofar
with_header s size h = record s { header = h; line = s.line + 1; place = s.place + (size + 1) }

abbrev pub with_variable : Sofar → ℕ → Variable → Sofar
with_variable s size v = record s { variables = s.variables ++ v ∷ []; line = s.line + 1; place = s.place + (size + 1) }

-- a node's record says where its children begin among all children
abbrev pub node_of : Sofar → NodeEntry → Node
node_of s e = record { form = e.form; first = length s.children; count = length e.children }

abbrev pub with_node : Sofar → ℕ → NodeEntry → Sofar
with_node s size e = record s { nodes = s.nodes ++ node_of s e ∷ []; children = s.children ++ e.children; line = s.line + 1; place = s.place + (size + 1) }

-- what a line of `size` bytes says, by the section that it belongs to and its kind
abbrev pub by_section : Rooms → Sofar → (size : ℕ) → Section → LineKind → List (List ℕ) → Said Sofar
by_section rooms s size section.Header kind.Header fs = and_then (header_says rooms fs) (λ h. Ok (with_header s size h))
by_section rooms s size section.Variables kind.Variable fs = and_then (variable_says s.variables fs) (λ v. Ok (with_variable s size v))
by_section rooms s size section.Nodes k fs =
    and_then (node_says k fs) (λ e. provided (fitting s.header (length s.nodes) (length s.children) (length e.children)) reason.Children (Ok (with_node s size e)))
by_section rooms s size at k fs = Err reason.Line

-- the first field says what the line is
abbrev pub by_fields : Rooms → Sofar → ℕ → List (List ℕ) → Said Sofar
by_fields rooms s size [] = Err reason.Line
by_fields rooms s size (f ∷ fs) = by_section rooms s size (section_of s) (line_kind_of f) fs

-- what a line says, after the lines before it
unfoldable pub line_says : Rooms → Sofar → List ℕ → Said Sofar
line_says rooms s l = provided (list_all printable l) reason.Line (by_fields rooms s (length l) (fields l))

-- A file: what it leaves in the stores, from their first place on, and the answer.
pub record Reading : Type 0 where
  pub nodes : List Node
  pub children : List ℕ
  pub answer : Result Contents Fault

-- a file is accepted, or refused at the line that is due
abbrev pub accepted : Sofar → Reading
accepted s = record {
  nodes = s.nodes;
  children = s.children;
  answer = Ok (record { variables = variables_of s.variables; nodes = s.header.nodes; children = s.header.children; weights = s.place });
}

abbrev pub refused : Sofar → Reason → Reading
refused s r = record { nodes = s.nodes; children = s.children; answer = Err (fault.Line r s.line) }

-- what the lines from here on make of the file
unfoldable pub read_on : Rooms → Sofar → List (List ℕ) → Reading
read_on rooms s [] = if is_complete s then accepted s else refused s reason.Line
read_on rooms s (l ∷ ls) =
    if is_complete s then accepted s else (elim (line_says rooms s l) [ Ok t ↦ read_on rooms t ls | Err r ↦ refused s r ])

-- what a file says, which has 1 to 65536 bytes
unfoldable pub file_says : Rooms → List ℕ → Reading
file_says rooms bytes =
    if nat_le 1 (length bytes) && nat_le (length bytes) 65536
    then read_on rooms nothing_yet (lines bytes)
    else (record { nodes = []; children = []; answer = Err fault.Length })

-- what a file says to a reader with these two stores
abbrev pub reading_of : List ℕ → List Node → List ℕ → Reading
reading_of file ns cs = file_says (rooms_for ns cs) file

-- as many nodes and children were read as the header says
abbrev pub AsMany : Reading → Contents → Type 0
AsMany told c = (length told.nodes ≡ c.nodes) × (length told.children ≡ c.children)

-- whether a variable's name has only bytes that may stand in a line
abbrev pub named_printable : Variable → Bool
named_printable v = list_all printable (spelled v.name)

-- a store after its first places were written
abbrev pub overwritten : {A : Type 0} → List A → List A → List A
overwritten written store = written ++ drop (length written) store

-- The parts of a table, from its file, and the table that is made of them.
use Rattle.std.specs.Prelude.{◌≡◌, ℕ, true, List, Ok, Err, Result}
use Rattle.std.specs.List.{list_all}
use Rattle.text.specs.Format.{Reading, file_says, listed, named_printable}
use Rattle.text.specs.declared.fault.Fault.{Fault}
use Rattle.table.specs.Check.{check_says}
use Rattle.table.specs.Whole.{IsCheckedTable}
use Rattle.table.specs.declared.fault.Fault as table
use Rattle.table.specs.declared.sets.Mentions.{Mentions}
use Rattle.table.specs.declared.table.Table.{Table}
use Rattle.parts.specs.declared.stores.Room.{Room}
use Rattle.parts.specs.declared.stores.Parts.{Parts}

-- room for the largest table of the limits
abbrev pub largest : Room
largest = record { nodes = 4096; children = 12288 }

-- what a file says, read into stores with this room
abbrev pub read_from : Room → List ℕ → Reading
read_from r file = file_says (record { nodes = r.nodes; children = r.children }) file

-- the file is accepted, and these are its parts; each name is printable
pub record ArePartsOf (r : Room) (file : List ℕ) (p : Parts) : Type 0 where
  pub is_accepted : (read_from r file).answer ≡ Ok p.contents
  pub nodes_are : p.nodes.items ≡ (read_from r file).nodes
  pub children_are : p.children.items ≡ (read_from r file).children
  pub names_are : list_all named_printable (listed p.contents.variables) ≡ true

-- a file gives its parts, or the reader's refusal
abbrev pub Reads : Room → List ℕ → Result Parts Fault → Type 0
Reads r file (Ok p) = ArePartsOf r file p
Reads r file (Err f) = (read_from r file).answer ≡ Err f

-- what the check answers for these parts
abbrev pub check_parts : Parts → Result Mentions table.Fault
check_parts p = check_says p.contents.variables p.nodes.items p.children.items

-- the table of these parts
abbrev pub IsTableOf : Parts → Table → Type 0
IsTableOf p = IsCheckedTable p.nodes.items p.children.items p.contents.variables

-- Figures as text, alone and in a line of fields.
use Rattle.std.specs.Prelude.{◌≡◌, ℕ, List, length, take, drop, Ok}
use Rattle.std.specs.List.{join_with_byte}
use Rattle.std.specs.Option.{ok_or, option_map}
use Rattle.text.specs.declared.fault.Reason.TheVariants as reason
use Rattle.text.specs.Format.{Said}
use Rattle.text.specs.Lines.{fields}
use Rattle.text.specs.Numerals.{numeral}

-- how a kind writes its figures: how many fields a text has, the figure that a text writes, and a figure's text
pub record Notation (F : Type 0) : Type 0 where
  pub fields : ℕ
  pub reading : List ℕ → Said F
  pub text : F → List ℕ

-- each figure has one text, of so many fields: it is read back, and no other text is read as the figure
pub record Exact {F : Type 0} (N : Notation F) : Type 0 where
  pub back : (f : F) → N.reading (N.text f) ≡ Ok f
  pub only : (s : List ℕ) (f : F) → N.reading s ≡ Ok f → s ≡ N.text f
  pub parted : (f : F) → length (fields (N.text f)) ≡ N.fields

-- what is made of the number that a text writes, of at most `most` digits and up to the cap
abbrev pub number_reading : {F : Type 0} → (ℕ → F) → (most cap : ℕ) → List ℕ → Said F
number_reading make most cap s = ok_or (option_map make (numeral most cap s)) reason.Number

-- `count` fields of a line from field k on, counted from 0, with the tabs between them
abbrev pub fields_from : (k count : ℕ) → List ℕ → List ℕ
fields_from k count l = join_with_byte 9 (take count (drop k (fields l)))

-- the figure whose text begins at field k of a line
abbrev pub figure_at : {F : Type 0} → Notation F → (k : ℕ) → List ℕ → Said F
figure_at N k l = N.reading (fields_from k N.fields l)

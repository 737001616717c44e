-- Text that a program prints, as bytes.
use Rattle.std.specs.Prelude.{ℕ, ◌<◌, List, [], ◌∷◌, ◌++◌, length, codes, decimal, IsAscii, slice_index_or}
use Rattle.text.specs.Format.{spelled}
use Rattle.text.specs.declared.record.Variable.{Variable}

-- a text is a list of lines, a line a list of fields
abbrev pub Lines : Type 0
Lines = List (List (List ℕ))

-- the fields behind the first, each behind a tab, then the end of the line, then what follows
abbrev pub fields_onto : List (List ℕ) → List ℕ → List ℕ
fields_onto [] more = 10 ∷ more
fields_onto (f ∷ fs) more = 9 ∷ (f ++ fields_onto fs more)

-- a line, then what follows
abbrev pub line_onto : List (List ℕ) → List ℕ → List ℕ
line_onto [] more = 10 ∷ more
line_onto (f ∷ fs) more = f ++ fields_onto fs more

-- the bytes of the lines
abbrev pub text_of : Lines → List ℕ
text_of [] = []
text_of (l ∷ ls) = line_onto l (text_of ls)

-- for a refusal: X, its number and its place
abbrev pub refusal_fields : ℕ → ℕ → List (List ℕ)
refusal_fields number place = codes "X" ∷ decimal number ∷ decimal place ∷ []

-- every name of these variables is ASCII, as the reader sees to
abbrev pub PlainNames : List Variable → Type 0
PlainNames vs = (k : ℕ) (d : Variable) → k < length vs → IsAscii (spelled (slice_index_or vs k d).name)

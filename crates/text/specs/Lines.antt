-- A text as lines, and a line as fields.
use Rattle.std.specs.Prelude.{◌≡◌, ℕ, suc, ◌+◌, ◌<◌, length, drop, Bool, true, false, ◌&&◌, ◌||◌, List, [], ◌∷◌, ◌==◌, nat_le, if◌then◌else◌}
use Rattle.std.specs.List.{list_all, slice_split}

-- a byte that may stand in a line: a tab, or 32 to 126
abbrev pub printable : ℕ → Bool
printable b = b == 9 || (nat_le 32 b && nat_le b 126)

-- the place of the first byte b, or the length where there is none
abbrev pub index_of : ℕ → List ℕ → ℕ
index_of b [] = 0
index_of b (x ∷ xs) = if x == b then 0 else suc (index_of b xs)

-- puts a byte in front of the first piece, if there is one
abbrev pub onto : ℕ → List (List ℕ) → List (List ℕ)
onto b [] = []
onto b (p ∷ ps) = (b ∷ p) ∷ ps

-- the lines of a text: each is what stands before a byte 10; what stands behind the last is none
abbrev pub lines : List ℕ → List (List ℕ)
lines [] = []
lines (b ∷ bs) = if b == 10 then [] ∷ lines bs else onto b (lines bs)

-- whether there is a first line, and each of its bytes may stand in a line
abbrev pub first_printable : List (List ℕ) → Bool
first_printable [] = false
first_printable (l ∷ ls) = list_all printable l

-- the text begins with the line, which a byte 10 ends
pub record BeginsWithLine (text line : List ℕ) : Type 0 where
  pub within : length line < length text
  pub lines_are : lines text ≡ line ∷ lines (drop (length line + 1) text)

-- the text begins with the line, and each byte of the line may stand there
abbrev pub BeginsWithPrintable : (text line : List ℕ) → Type 0
BeginsWithPrintable text line = BeginsWithLine text line × (list_all printable line ≡ true)

-- the fields of a line, parted by tabs; there is always at least one
abbrev pub fields : List ℕ → List (List ℕ)
fields bs = slice_split (λ b. b == 9) bs

-- Branching orders: which free option to branch on next.
use Rattle.std.specs.Prelude.{◌≡◌, ℕ, ◌+◌, ◌≤◌, Bool, true, false, ◌&&◌, ltb, List, [], ◌∷◌, map, nat_lt, slice_index_or, if◌then◌else◌}
use Rattle.std.specs.List.{list_all, filter}
use Rattle.kinds.specs.Semiring.{Semiring, lesser}
use Rattle.table.specs.Facts.{Among}
use Rattle.search.specs.declared.choice.Choice.{Choice}

-- what an order is told of a free option: whether the root mentions it, and the root's on and off value for it
pub record Lean (F : Type 0) : Type 0 where
  pub option : ℕ
  pub mentioned : Bool
  pub on : F
  pub off : F

-- the numbers of the options that it is told of
abbrev pub numbers : {F : Type 0} → List (Lean F) → List ℕ
numbers ls = map (λ l. l.option) ls

-- each number is above those before it
abbrev pub rising : List ℕ → Bool
rising [] = true
rising (x ∷ xs) = list_all (ltb x) xs && rising xs

-- an order is told of the free options by rising number, and names an option
abbrev pub Order : Type 0 → Type 0
Order F = List (Lean F) → ℕ

-- a lawful order names one of the options that it is told of, if it is told of any
abbrev pub Lawful : {F : Type 0} → Order F → Type 0
Lawful {F} pick = (l : Lean F) (ls : List (Lean F)) → rising (numbers (l ∷ ls)) ≡ true → Among (pick (l ∷ ls)) (numbers (l ∷ ls))

-- number order: the first
abbrev pub lowest : {F : Type 0} → Order F
lowest [] = 0
lowest (l ∷ ls) = l.option

-- number order names the lowest number of those given
abbrev pub LowestAnswers : Type 0 → Type 0
LowestAnswers F =
    (l : Lean F) (ls : List (Lean F)) → rising (numbers (l ∷ ls)) ≡ true →
    Among (lowest (l ∷ ls)) (numbers (l ∷ ls)) × ((v : ℕ) → Among v (numbers (l ∷ ls)) → lowest (l ∷ ls) ≤ v)

module _ {F : Type 0} (R : Semiring F) where
  -- the lesser of the root's two values
  abbrev pub weaker : Lean F → F
  weaker l = lesser R l.on l.off

  -- the first of those whose weaker value ranks lowest
  abbrev pub strongest_of : Lean F → List (Lean F) → Lean F
  strongest_of l [] = l
  strongest_of l (x ∷ xs) = strongest_of (if R.upto (weaker l) (weaker x) then l else x) xs

  -- its option, or v if there is none to choose from
  abbrev pub strongest_or : ℕ → List (Lean F) → ℕ
  strongest_or v [] = v
  strongest_or v (l ∷ ls) = (strongest_of l ls).option

  -- strongest lean: of the options that the root mentions the first whose weaker value ranks lowest; the first of all if
  -- it mentions none
  abbrev pub strongest : Order F
  strongest ls = strongest_or (lowest ls) (filter (λ l. l.mentioned) ls)

  -- l is the strongest lean among ls: none that is mentioned ranks below it, and those that rank alike have no lower number
  pub record Strongest (l : Lean F) (ls : List (Lean F)) : Type 0 where
    pub given : Among l ls
    pub by_root : l.mentioned ≡ true
    pub least : (x : Lean F) → Among x ls → x.mentioned ≡ true → R.upto (weaker l) (weaker x) ≡ true
    pub first : (x : Lean F) → Among x ls → x.mentioned ≡ true → R.upto (weaker x) (weaker l) ≡ true → l.option ≤ x.option

  -- what strongest lean answers: the strongest lean, or number order's answer if the root mentions none of the options
  pub record StrongestAnswers : Type 0 where
    pub leans : (ls : List (Lean F)) → rising (numbers ls) ≡ true → (x : Lean F) → Among x ls → x.mentioned ≡ true
        → (l : Lean F) × Strongest l ls × (strongest ls ≡ l.option)
    pub levels : (ls : List (Lean F)) → ((x : Lean F) → Among x ls → x.mentioned ≡ false) → strongest ls ≡ lowest ls

-- what an order is told by the list of the choices, and the root's part of the work table
abbrev pub lean_at : {F : Type 0} → Semiring F → List F → Choice → Lean F
lean_at R part c = record {
  option = c.option;
  mentioned = c.mentioned;
  on = slice_index_or part c.place R.zero;
  off = slice_index_or part (c.place + 1) R.zero;
}

abbrev pub told : {F : Type 0} → Semiring F → List F → List Choice → List (Lean F)
told R part cs = map (lean_at R part) cs

-- the numbers of the choices
abbrev pub options_of : List Choice → List ℕ
options_of cs = map (λ c. c.option) cs

-- whether an option's two values are in the part
abbrev pub placed : ℕ → Choice → Bool
placed size c = nat_lt (c.place + 1) size

-- of two choices the first, or the second if its weaker value ranks lower
abbrev pub stronger : {F : Type 0} → Semiring F → List F → Choice → Choice → Choice
stronger R part b c = if R.upto (weaker R (lean_at R part b)) (weaker R (lean_at R part c)) then b else c

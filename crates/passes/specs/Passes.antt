-- The counting, the plain and the pair pass: a value for every node, from those of its children.
use Rattle.std.specs.Prelude.{ℕ, Bool, true, false, ◌&&◌, List, [], ◌∷◌, ◌++◌, map, get_or, slice_index_or, if◌then◌else◌}
use Rattle.std.specs.List.{filter}
use Rattle.kinds.specs.Semiring.{Semiring, greater, lesser}
use Rattle.table.specs.Circuit.{Shape, lit, all, fork, top, bottom, World, upward, same, mention, mentions, root, about}
use Rattle.table.specs.Count.{weight}
use Rattle.table.specs.Sound.{Roles, is_option, options}
use Rattle.passes.specs.Holding.{entry, is_free, denies, free}
use Rattle.passes.specs.Problem.{Problem}

-- a node's value, and its on and its off value for each option
pub record Part (F : Type 0) : Type 0 where
  pub value : F
  pub side : Bool → ℕ → F

module _ {F : Type 0} (R : Semiring F) where
  -- the product of figures; of none it is one
  abbrev pub times : List F → F
  times [] = R.one
  times (x ∷ xs) = R.product x (times xs)

  -- the value of node c, of those worked out so far
  abbrev pub value_at : List F → ℕ → F
  value_at done c = slice_index_or done c R.zero

  -- the first of the figures that rank lowest, in order
  abbrev pub least : F → List F → F
  least x [] = x
  least x (y ∷ ys) = least (lesser R x y) ys

  abbrev pub no_part : Part F
  no_part = record { value = R.zero; side = λ b v. R.zero }

module _ {F : Type 0} (R : Semiring F) (p : Problem F) where
  -- the counting pass, for a selection: a chance literal has its weight, an option literal is one if it is selected
  -- so, an and multiplies, a fork adds
  abbrev pub count : World → List F → Shape → F
  count w done (lit v on) =
      if is_option p.roles v then (if same (w v) on then R.one else R.zero) else weight R p.sheet v on
  count w done (all cs) = times R (map (value_at R done) cs)
  count w done (fork v a b) = R.sum (value_at R done a) (value_at R done b)
  count w done top = R.one
  count w done bottom = R.zero

  abbrev pub counts : World → List F
  counts w = upward (count w) p.circuit

  -- the plain pass, for holds: an option literal is zero only if a hold contradicts it, and a fork on an option
  -- takes the greater of its branches
  abbrev pub plain : List F → Shape → F
  plain done (lit v on) =
      if is_option p.roles v then (if denies (entry p.holds v) on then R.zero else R.one) else weight R p.sheet v on
  plain done (all cs) = times R (map (value_at R done) cs)
  plain done (fork v a b) =
      if is_option p.roles v then greater R (value_at R done a) (value_at R done b)
      else R.sum (value_at R done a) (value_at R done b)
  plain done top = R.one
  plain done bottom = R.zero

  abbrev pub plains : List F
  plains = upward plain p.circuit

  abbrev pub plain_bound : F
  plain_bound = root R.zero plains

  -- the pair pass, for holds: the value of node c under v on (or off)
  abbrev pub under : List (Part F) → Bool → ℕ → ℕ → F
  under done b v c =
      if about p.circuit c v then lesser R (get_or done c (no_part R)).value ((get_or done c (no_part R)).side b v)
      else (get_or done c (no_part R)).value

  -- the on (or off) value of a node for a free option that it mentions
  abbrev pub side_of : List (Part F) → Shape → Bool → ℕ → F
  side_of done (lit x on) b v = if same b on then R.one else R.zero
  side_of done (all cs) b v = times R (map (under done b v) cs)
  side_of done (fork x c d) b v =
      if is_option p.roles x then greater R (under done b v c) (under done b v d)
      else R.sum (under done b v c) (under done b v d)
  side_of done top b v = R.zero
  side_of done bottom b v = R.zero

  -- the free options that a node mentions
  abbrev pub free_of : Shape → List ℕ
  free_of s = filter (λ v. mention (mentions p.circuit) s v) (free p.roles p.holds)

  -- the greater of a node's two values for an option
  abbrev pub either_side : List (Part F) → Shape → ℕ → F
  either_side done s v = greater R (side_of done s true v) (side_of done s false v)

  -- without free options the plain value, else the least over these options
  abbrev pub value_of : List (Part F) → Shape → List ℕ → F
  value_of done s [] = plain (map (λ part. part.value) done) s
  value_of done s (v ∷ vs) = least R (either_side done s v) (map (either_side done s) vs)

  abbrev pub pair : List (Part F) → Shape → Part F
  pair done s = record {
    value = value_of done s (free_of s);
    side = λ b v.
        if is_option p.roles v && (is_free (entry p.holds v) && mention (mentions p.circuit) s v)
        then side_of done s b v else R.zero;
  }

  abbrev pub pairs : List (Part F)
  pairs = upward pair p.circuit

  abbrev pub root_part : Part F
  root_part = root (no_part R) pairs

  abbrev pub bound : F
  bound = root_part.value

-- a part as it lies in the work table: its value, then each option's on and off value, by rising number
abbrev pub sides : {F : Type 0} → Part F → List ℕ → List F
sides part [] = []
sides part (v ∷ vs) = part.side true v ∷ part.side false v ∷ sides part vs

abbrev pub work : {F : Type 0} → Roles → List (Part F) → List F
work rs [] = []
work rs (part ∷ parts) = (part.value ∷ sides part (options rs)) ++ work rs parts

-- A selection's figure: the weighted model count.
use Rattle.std.specs.Prelude.{ℕ, ◌-◌, ◌*◌, Bool, true, false, List, [], ◌∷◌, ◌==◌, slice_index_or, slice_set, if◌then◌else◌}
use Rattle.kinds.specs.Semiring.{Semiring}
use Rattle.table.specs.Circuit.{Shape, World, satisfied}
use Rattle.table.specs.Sound.{Roles, chances}

-- the world w with one variable set
abbrev pub put : World → ℕ → Bool → World
put w v b = λ x. if x == v then b else w x

-- where the weight of a side of variable v stands in a sheet: the on weight at place 2v-2, the off weight at 2v-1
abbrev pub place : ℕ → Bool → ℕ
place v b = if b then 2 * v - 2 else 2 * v - 1

-- a sheet with the two weights of a variable written
abbrev pub weighed : {F : Type 0} → List F → ℕ → F → F → List F
weighed sheet v on off = slice_set (slice_set sheet (place v true) on) (place v false) off

module _ {F : Type 0} (R : Semiring F) where
  -- the sum of f over every setting of the variables vs, the others as in w
  unfoldable pub sum_over : List ℕ → World → (World → F) → F
  sum_over [] w f = f w
  sum_over (v ∷ vs) w f = R.sum (sum_over vs (put w v true) f) (sum_over vs (put w v false) f)

  -- the weight of a side of variable v
  abbrev pub weight : List F → ℕ → Bool → F
  weight sheet v b = slice_index_or sheet (place v b) R.zero

  -- the product of a scenario's weights
  unfoldable pub scenario_weight : List F → List ℕ → World → F
  scenario_weight sheet [] w = R.one
  scenario_weight sheet (v ∷ vs) w = R.product (weight sheet v (w v)) (scenario_weight sheet vs w)

  -- the sum, over the scenarios that make the root true with the options as in w, of the product of the scenario's
  -- weights
  unfoldable pub figure : Roles → List Shape → List F → World → F
  figure rs ss sheet w =
      sum_over (chances rs) w (λ u. if satisfied ss u then scenario_weight sheet (chances rs) u else R.zero)

-- What the passes make of a node, in one form: a literal's own value, the product of an and's children, two branches
-- joined.
use Rattle.std.specs.Prelude.{ℕ, Bool, List, map, if◌then◌else◌}
use Rattle.kinds.specs.Semiring.{Semiring, greater}
use Rattle.table.specs.Circuit.{Shape, lit, all, fork, top, bottom, World, same}
use Rattle.table.specs.Count.{weight}
use Rattle.table.specs.Sound.{Roles, is_option}
use Rattle.passes.specs.Holding.{entry, denies}
use Rattle.passes.specs.Passes.{times}
use Rattle.passes.specs.Problem.{Problem}

-- a literal's value, how a fork joins its branches, and the value of true
pub record Way (F : Type 0) : Type 0 where
  pub leaf : ℕ → Bool → F
  pub join : ℕ → F → F → F
  pub edge : F

module _ {F : Type 0} (R : Semiring F) where
  -- a node's value, from those of its children
  abbrev pub made : Way F → (ℕ → F) → Shape → F
  made way f (lit v on) = way.leaf v on
  made way f (all cs) = times R (map f cs)
  made way f (fork v a b) = way.join v (f a) (f b)
  made way f top = way.edge
  made way f bottom = R.zero

  -- one where the test holds, else zero
  abbrev pub indicator : Bool → F
  indicator b = if b then R.one else R.zero

  -- the way that adds branches
  abbrev pub sums : (ℕ → Bool → F) → Way F
  sums leaf = record { leaf = leaf; join = λ _. R.sum; edge = R.one }

  -- an option's branches are joined by the greater, a chance's by the sum
  abbrev pub joined : Roles → ℕ → F → F → F
  joined rs v a b = if is_option rs v then greater R a b else R.sum a b

  -- the way of a node's side b of an option
  abbrev pub side_way : Roles → Bool → Way F
  side_way rs b = record { leaf = λ _ on. indicator (same b on); join = joined rs; edge = R.zero }

  module _ (p : Problem F) where
    -- what a literal counts: a chance's its weight, an option's one if it is taken, else zero
    abbrev pub literal_value : ℕ → Bool → (taken : Bool) → F
    literal_value v on taken = if is_option p.roles v then indicator taken else weight R p.sheet v on

    -- the way of the counting pass, and that of the plain pass
    abbrev pub count_way : World → Way F
    count_way w = sums (λ v on. literal_value v on (same (w v) on))

    abbrev pub plain_way : Way F
    plain_way = record {
      leaf = λ v on.
          if is_option p.roles v then (if denies (entry p.holds v) on then R.zero else R.one) else weight R p.sheet v on;
      join = joined p.roles;
      edge = R.one;
    }

-- the step of a pass: a node's value, from the places of the nodes before it
abbrev pub walked : {F : Type 0} → Semiring F → Way F → (List F → ℕ → F) → List F → Shape → F
walked R way child done = made R way (child done)

-- Which circuits are sound: the refusals of a node, and the first that fits.
use Rattle.std.specs.Prelude.{ℕ, ◌+◌, ◌-◌, Bool, true, false, not, ◌&&◌, List, [], ◌∷◌, length, Some, None, Option, ◌==◌, nat_le, nat_lt, if◌then◌else◌}
use Rattle.std.specs.List.{list_all, list_any, range_with_len}
use Rattle.table.specs.declared.fault.Flaw.{Flaw}
use Rattle.table.specs.declared.fault.Flaw.TheVariants as flaw
use Rattle.table.specs.Circuit.{Shape, lit, all, fork, Vars, same, node, about}

-- whether each of the variables, by number from 1, is an option; the others are chances
abbrev pub Roles : Type 0
Roles = List Bool

-- whether variable v is an option
abbrev pub is_option : Roles → ℕ → Bool
is_option [] v = false
is_option (r ∷ rs) v = if v == 1 then r else is_option rs (v - 1)

-- the numbers of those variables, from number i on, whose role is b
abbrev pub from : ℕ → Bool → Roles → List ℕ
from i b [] = []
from i b (r ∷ rs) = if same r b then i ∷ from (i + 1) b rs else from (i + 1) b rs

-- the options and the chances, by rising number
abbrev pub options : Roles → List ℕ
options rs = from 1 true rs

abbrev pub chances : Roles → List ℕ
chances rs = from 1 false rs

-- whether a node is the literal of v that is on (or off)
abbrev pub is_literal : ℕ → Bool → Shape → Bool
is_literal v b (lit x on) = x == v && same on b
is_literal v b s = false

-- whether a node is that literal, or an and with that literal among its children
abbrev pub has_literal : List Shape → ℕ → Bool → Shape → Bool
has_literal ss v b (all cs) = list_any (λ c. is_literal v b (node ss c)) cs
has_literal ss v b s = is_literal v b s

-- whether no variable of vs is in both sets
abbrev pub disjoint : List ℕ → Vars → Vars → Bool
disjoint vs a b = list_all (λ v. not (a v && b v)) vs

-- whether the nodes cs are decomposable: no two of them mention one variable of vs
abbrev pub apart : List ℕ → List Shape → List ℕ → Bool
apart vs ss [] = true
apart vs ss (c ∷ cs) = list_all (λ d. disjoint vs (about ss c) (about ss d)) cs && apart vs ss cs

-- whether two sets have the same variables of vs
abbrev pub alike : List ℕ → Vars → Vars → Bool
alike vs a b = list_all (λ v. same (a v) (b v)) vs

-- the nodes that a node stands on
abbrev pub children : Shape → List ℕ
children (all cs) = cs
children (fork v a b) = a ∷ b ∷ []
children s = []

-- whether c is one of the first n nodes
abbrev pub is_below : ℕ → ℕ → Bool
is_below n c = nat_lt c n

-- whether v is the number of one of n variables
abbrev pub known : ℕ → ℕ → Bool
known n v = nat_lt 0 v && nat_le v n

-- a flaw unless a test holds, else what follows
abbrev pub unless : Bool → Flaw → Option Flaw → Option Flaw
unless ok f rest = if ok then rest else Some f

-- a circuit is sound, or a node has a flaw
pub data Verdict : Type 0 where
  sound : Verdict
  flawed : Flaw → ℕ → Verdict

abbrev pub is_sound : Verdict → Bool
is_sound sound = true
is_sound (flawed f i) = false

-- the flaw of node i, else what follows
abbrev pub flaw_first : ℕ → Option Flaw → Verdict → Verdict
flaw_first i None rest = rest
flaw_first i (Some f) rest = flawed f i

module _ (rs : Roles) (ss : List Shape) where
  -- the first flaw of node i
  abbrev pub flaw_at : ℕ → Shape → Option Flaw
  flaw_at i (lit v b) = unless (known (length rs) v) flaw.Variable None
  flaw_at i (all cs) =
      unless (list_all (is_below i) cs) flaw.Order (unless (apart (range_with_len 1 (length rs)) ss cs) flaw.Shared None)
  flaw_at i (fork v a b) =
      unless (nat_lt a i && nat_lt b i) flaw.Order
      (unless (known (length rs) v) flaw.Variable
      (unless (has_literal ss v true (node ss a) && has_literal ss v false (node ss b)) flaw.Branch
      (unless (alike (chances rs) (about ss a) (about ss b)) flaw.Uneven None)))
  flaw_at i s = None

  -- the first flaw of the nodes in order, from node i on; the root, which is last, must mention every chance
  unfoldable pub verdict_from : ℕ → List Shape → Verdict
  verdict_from i [] = if list_all (about ss (length ss - 1)) (chances rs) then sound else flawed flaw.Missing (length ss - 1)
  verdict_from i (x ∷ xs) = flaw_first i (flaw_at i x) (verdict_from (i + 1) xs)

  -- the circuit is sound, or its first flaw
  abbrev pub verdict : Verdict
  verdict = verdict_from 0 ss

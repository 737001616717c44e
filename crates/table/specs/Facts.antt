-- What a sound circuit is, in propositions over its nodes.
use Rattle.std.specs.Prelude.{◌≡◌, ℕ, ◌-◌, ◌<◌, ◌≤◌, Bool, true, false, ◌⊎◌, List, [], ◌∷◌, length, ◌≢◌, slice_index}
use Rattle.text.specs.declared.record.Node.{Node}
use Rattle.text.specs.declared.record.Variables.{Variables}
use Rattle.text.specs.Format.{option_count, listed}
use Rattle.table.specs.Nodes.{shapes, roles_of}
use Rattle.table.specs.Circuit.{Shape, lit, all, fork, World, node, about, true_at}
use Rattle.table.specs.Sound.{Roles, chances, children}

-- an element of a list
abbrev pub Among : {A : Type 0} → A → List A → Type 0
Among x [] = ⊥
Among x (y ∷ ys) = (y ≡ x) ⊎ Among x ys

-- each node's children come before it
abbrev pub Ordered : List Shape → Type 0
Ordered ss = (i c : ℕ) → Among c (children (node ss i)) → c < i

-- v is the number of a variable
abbrev pub Known : Roles → ℕ → Type 0
Known rs v = (1 ≤ v) × (v ≤ length rs)

-- the variables of literals and forks are those of the table
abbrev pub KnownVariables : Roles → List Shape → Type 0
KnownVariables rs ss =
    ((i v : ℕ) (b : Bool) → node ss i ≡ lit v b → Known rs v) × ((i v a b : ℕ) → node ss i ≡ fork v a b → Known rs v)

-- decomposability: no variable is mentioned by two children of an and
abbrev pub Decomposable : List Shape → Type 0
Decomposable ss =
    (i : ℕ) (cs : List ℕ) → node ss i ≡ all cs → (j k : ℕ) → j < k → k < length cs →
    (v : ℕ) → about ss (slice_index cs j) v ≡ true → about ss (slice_index cs k) v ≢ true

-- node i is the literal, or an and with the literal among its children
abbrev pub HasLiteral : List Shape → ℕ → Bool → ℕ → Type 0
HasLiteral ss v b i = (node ss i ≡ lit v b) ⊎ ((cs : List ℕ) × (c : ℕ) × (node ss i ≡ all cs) × Among c cs × (node ss c ≡ lit v b))

-- a fork is a decision: its on branch has the on literal of its variable, its off branch the off literal
abbrev pub Decisions : List Shape → Type 0
Decisions ss = (i v a b : ℕ) → node ss i ≡ fork v a b → HasLiteral ss v true a × HasLiteral ss v false b

-- smoothness in the chances: the branches of a fork mention the same
abbrev pub Even : Roles → List Shape → Type 0
Even rs ss = (i v a b : ℕ) → node ss i ≡ fork v a b → (x : ℕ) → Among x (chances rs) → about ss a x ≡ about ss b x

-- the root mentions every chance
abbrev pub Total : Roles → List Shape → Type 0
Total rs ss = (x : ℕ) → Among x (chances rs) → about ss (length ss - 1) x ≡ true

-- what a circuit has to be
pub record Proper (rs : Roles) (ss : List Shape) : Type 0 where
  pub ordered : Ordered ss
  pub known_variables : KnownVariables rs ss
  pub decomposable : Decomposable ss
  pub decisions : Decisions ss
  pub even : Even rs ss
  pub total : Total rs ss

-- determinism: in no world are both branches of a fork true
abbrev pub Deterministic : List Shape → Type 0
Deterministic ss = (w : World) (i v a b : ℕ) → node ss i ≡ fork v a b → true_at ss w a ≡ true → true_at ss w b ≢ true

-- whether a node is true depends only on the variables that it mentions
abbrev pub LocalTruth : List Shape → Type 0
LocalTruth ss = (i : ℕ) (u w : World) → ((x : ℕ) → about ss i x ≡ true → u x ≡ w x) → true_at ss u i ≡ true_at ss w i

-- the limits of a table
pub record Within (vs : Variables) (ns : List Node) : Type 0 where
  pub some_variable : 1 ≤ vs.count
  pub few_options : option_count (listed vs) ≤ 20
  pub some_node : 1 ≤ length ns
  pub few_nodes : length ns ≤ 4096

-- what the check's yes says: the limits hold, and the circuit is what it has to be
abbrev pub Accepts : Variables → List Node → List ℕ → Type 0
Accepts vs ns cs = Within vs ns × Proper (roles_of vs) (shapes cs ns)

-- what that gives: the circuit is deterministic, and a node's truth depends only on the variables that it mentions
abbrev pub Means : Variables → List Node → List ℕ → Type 0
Means vs ns cs = Deterministic (shapes cs ns) × LocalTruth (shapes cs ns)

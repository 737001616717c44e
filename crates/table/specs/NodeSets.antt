-- What the check computes of a node, from what is known of the nodes before it.
use Rattle.std.specs.Prelude.{ℕ, ◌-◌, Bool, true, false, ◌&&◌, List, [], ◌∷◌, ◌++◌, map, replicate, length, None, Option, ◌==◌, bit_and, bit_or, nat_lt, slice_index_or, if◌then◌else◌}
use Rattle.std.specs.List.{list_all}
use Rattle.text.specs.declared.record.Form.{Form}
use Rattle.text.specs.declared.record.Form.TheVariants.{Literal}
use Rattle.text.specs.declared.record.Node.{Node}
use Rattle.table.specs.declared.fault.Flaw.{Flaw}
use Rattle.table.specs.declared.fault.Flaw.TheVariants as flaw
use Rattle.table.specs.declared.sets.Mentions.{Mentions}
use Rattle.table.specs.declared.sets.NodeSets.{NodeSets}
use Rattle.table.specs.Circuit.{Shape, lit, all, fork}
use Rattle.table.specs.Sets.{bit, has_bit}
use Rattle.table.specs.Sound.{known, is_below, unless}

-- the sets of a node of which nothing is known
abbrev pub nothing : NodeSets
nothing = record { mentions = 0; on = 0; off = 0 }

-- what is known of node c
abbrev pub known_at : List NodeSets → ℕ → NodeSets
known_at before c = slice_index_or before c nothing

-- whether no node of cs mentions a variable that one before it mentions, or one of `seen`
abbrev pub apart_masks : ℕ → List NodeSets → List ℕ → Bool
apart_masks seen before [] = true
apart_masks seen before (c ∷ cs) =
    bit_and seen (known_at before c).mentions == 0 && apart_masks (bit_or seen (known_at before c).mentions) before cs

-- the first flaw of an and of the nodes cs
abbrev pub and_flaw : List NodeSets → List ℕ → Option Flaw
and_flaw before cs = unless (list_all (is_below (length before)) cs) flaw.Order (unless (apart_masks 0 before cs) flaw.Shared None)

-- the first flaw of a fork, with n variables, the set of the chances, and what is known of the nodes before it
abbrev pub fork_flaw : (n chances : ℕ) (before : List NodeSets) (v a b : ℕ) → Option Flaw
fork_flaw n chances before v a b =
    unless (nat_lt a (length before) && nat_lt b (length before)) flaw.Order
    (unless (known n v) flaw.Variable
    (unless (has_bit v (known_at before a).on && has_bit v (known_at before b).off) flaw.Branch
    (unless (bit_and (known_at before a).mentions chances == bit_and (known_at before b).mentions chances) flaw.Uneven None)))

-- the first flaw of a node
abbrev pub flaw_by : (n chances : ℕ) (before : List NodeSets) → Shape → Option Flaw
flaw_by n chances before (lit v b) = unless (known n v) flaw.Variable None
flaw_by n chances before (all cs) = and_flaw before cs
flaw_by n chances before (fork v a b) = fork_flaw n chances before v a b
flaw_by n chances before s = None

-- whether a literal is of one of n variables, and the children are among the first i nodes
abbrev pub in_range : (n i : ℕ) → Shape → Bool
in_range n i (lit v b) = known n v
in_range n i (all cs) = list_all (is_below i) cs
in_range n i (fork v a b) = nat_lt a i && nat_lt b i
in_range n i s = true

-- a literal mentions its variable, and has its own literal
abbrev pub literal_sets : ℕ → Bool → NodeSets
literal_sets v on = record { mentions = bit v; on = if on then bit v else 0; off = if on then 0 else bit v }

-- an and mentions what its children mention, and has their literals if they are literals: `seen`, with one child more
abbrev pub with_child : NodeSets → Form → NodeSets → NodeSets
with_child seen (Literal v on) child =
    record { mentions = bit_or seen.mentions child.mentions; on = bit_or seen.on child.on; off = bit_or seen.off child.off }
with_child seen f child = record seen { mentions = bit_or seen.mentions child.mentions }

-- what a read past the nodes would give
abbrev pub no_record : Node
no_record = record { form = Literal 0 false; first = 0; count = 0 }

-- `seen`, with the nodes cs more
abbrev pub with_children : NodeSets → List Node → List NodeSets → List ℕ → NodeSets
with_children seen ns before [] = seen
with_children seen ns before (c ∷ cs) =
    with_children (with_child seen (slice_index_or ns c no_record).form (known_at before c)) ns before cs

-- the sets of a node, by those of the nodes before it
abbrev pub sets_by : List Node → List NodeSets → Shape → NodeSets
sets_by ns before (lit v on) = literal_sets v on
sets_by ns before (all cs) = with_children nothing ns before cs
sets_by ns before (fork v a b) = record nothing { mentions = bit_or (known_at before a).mentions (known_at before b).mentions }
sets_by ns before s = nothing

-- what each node mentions, with zeros behind the last node
abbrev pub mentions_in : List NodeSets → Mentions
mentions_in nodes = record { sets = map (λ s. s.mentions) nodes ++ replicate (4096 - length nodes) 0 }

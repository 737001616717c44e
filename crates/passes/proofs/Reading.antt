-- What a sound table's nodes read: their records' children are in the child store, and their children's parts in the
-- work places before their own.
use Rattle.std.proofs.Common.{◌≡◌, ℕ, ◌+◌, ◌*◌, ◌<◌, ◌≤◌, Bool, true, leb, List, [], ◌∷◌, length, get_or, sym, refl, ap, ◌∙◌, inl, inr, mul-le-mul_right, add-mul, one-mul, arith}
use Rattle.std.proofs.lemmas.List.{get_or_past, get_or-map}
use Rattle.std.proofs.lemmas.Bool.{le-leb, leb-true, lt-ltb, cond-false, and_from, and_parts, cases_lt, lt-leb}
use Rattle.text.specs.declared.record.Form.{Form}
use Rattle.text.specs.declared.record.Form.TheVariants.{Literal, And, Fork, True, False}
use Rattle.text.specs.declared.record.Node.{Node}
use Rattle.table.specs.declared.table.Table.{Table}
use Rattle.table.specs.Circuit.{Shape, lit, all, fork, top, bottom, node}
use Rattle.table.specs.Facts.{Among, Known, Proper}
use Rattle.table.specs.Sound.{Roles, children}
use Rattle.table.specs.Nodes.{shape, shape_by, stretch, no_node}
use Rattle.table.specs.Whole.{circuit, roles}
use Rattle.table.proofs.Asked.{proved_sound}
use Rattle.table.proofs.Decided.{decides_known}
use Rattle.table.proofs.Listed.{decides_every}
use Rattle.table.proofs.Sounds.{sound_proper}
use Rattle.passes.specs.NodeReads.{inside, readable, form_ranged, ranged}

-- a node's part is before those of the nodes after it
pub part_before : (c i stride : ℕ) → c < i → c * stride + stride ≤ i * stride
part_before c i stride h =
    let m : (c + 1) * stride ≤ i * stride = mul-le-mul_right stride (omega arith) in
    let e : (c + 1) * stride ≡ c * stride + 1 * stride = add-mul c 1 stride in
    omega (arith, one-mul stride)

inside_before : (c i stride size : ℕ) → i * stride ≡ size → c < i → inside size stride c ≡ true
inside_before c i stride size e h = le-leb _ _ (let p = part_before c i stride h in omega arith)

module _ (rs : Roles) (i stride size : ℕ) (e : i * stride ≡ size) where
  readable_by : (s : Shape) → ((c : ℕ) → Among c (children s) → c < i) → ((v : ℕ) (b : Bool) → s ≡ lit v b → Known rs v)
      → readable (length rs) size stride s ≡ true
  readable_by (lit v b) below names = (decides_known rs v).1 (names v b refl)
  readable_by (all cs) below names =
      (decides_every (inside size stride) (λ c. inside size stride c ≡ true) (λ c. (λ t. t, λ t. t)) cs).1 (λ c m. inside_before c i stride size e (below c m))
  readable_by (fork v a b) below names =
      and_from _ _ (inside_before a i stride size e (below a (inl refl))) (inside_before b i stride size e (below b (inr (inl refl))))
  readable_by top below names = refl
  readable_by bottom below names = refl

-- a record whose children are below 65535 has them in the child store
ranged_by : (store : List ℕ) (first count : ℕ) (f : Form) (i : ℕ) → i ≤ no_node → ((c : ℕ) → Among c (children (shape_by store first count f)) → c < i)
    → form_ranged (length store) first count f ≡ true
ranged_by store first count (Literal v on) i few below = refl
ranged_by store first count And i few below =
    elim (cases_lt (length store) (first + count)) [
      | inl past ↦ absurd (let h : no_node < i = below no_node (rw (outside past) (inl refl)) in omega arith)
      | inr l ↦ le-leb _ _ l
    ]
  where
    outside : length store < first + count → stretch store first count ≡ no_node ∷ []
    outside past = cond-false _ _ _ (lt-leb _ _ past)
ranged_by store first count (Fork v) i few below =
    elim (cases_lt (first + 1) (length store)) [
      | inl l ↦ lt-ltb _ _ l
      | inr past ↦ absurd (let h = below (get_or store (first + 1) no_node) (inr (inl refl)) in let e = get_or_past store (first + 1) no_node past in omega arith)
    ]
ranged_by store first count True i few below = refl
ranged_by store first count False i few below = refl

module _ (t : Table) (i : ℕ) (h : i < length t.nodes.now) (n : Node) (is : n ≡ get_or t.nodes.now i n) where
  pub node_is : node (circuit t) i ≡ shape t.children.now n
  node_is = get_or-map (shape t.children.now) t.nodes.now i n bottom h ∙ ap (shape t.children.now) (sym is)

  abbrev proper : Proper (roles t) (circuit t)
  proper = sound_proper (roles t) (circuit t) (proved_sound t)

  few_nodes : length t.nodes.now ≤ 4096
  few_nodes = leb-true _ _ (and_parts (leb 1 (length t.nodes.now)) _ (and_parts (leb 1 t.variables.count) _ t.counts).1).1

  below : (c : ℕ) → Among c (children (shape t.children.now n)) → c < i
  below c m = proper.ordered i c (rw node_is m)

  pub node_ranged : ranged t.children.now n ≡ true
  node_ranged = ranged_by t.children.now n.first n.count n.form i (let f = few_nodes in omega arith) below

  pub node_readable : (stride size : ℕ) → i * stride ≡ size → readable (length (roles t)) size stride (shape t.children.now n) ≡ true
  node_readable stride size e =
      readable_by (roles t) i stride size e (shape t.children.now n) below (λ v b s. proper.known_variables.0 i v b (node_is ∙ s))

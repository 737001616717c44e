-- What the sets of the nodes before a node say of it is what the circuit says.
use Rattle.std.specs.List.{list_all, list_any}
use Rattle.std.proofs.Common.{◌≡◌, ℕ, ◌<◌, ◌≤◌, Bool, true, false, cond, ◌&&◌, ◌||◌, eqb, ltb, List, [], ◌∷◌, length, get_or, take, None, Option, sym, refl, ap, ◌∙◌, ap₂, arith}
use mathlib.Core.Path.{fun_ext}
use lib.Bits.{bit_and, bit_or}
use Rattle.std.proofs.lemmas.Cmp.{nat_eq_equiv}
use Rattle.std.proofs.Math.Bool.{and-true, and-false, or-false, or_assoc}
use Rattle.std.proofs.lemmas.List.{length-map, get_or-take, get_or-map}
use Rattle.std.proofs.lemmas.Bool.{and_parts, ltb-true, leb-true}
use Rattle.text.specs.declared.record.Form.{Form}
use Rattle.text.specs.declared.record.Form.TheVariants.{Literal, And, Fork, True, False}
use Rattle.text.specs.declared.record.Node.{Node}
use Rattle.table.specs.declared.fault.Flaw.{Flaw}
use Rattle.table.specs.declared.fault.Flaw.TheVariants as flaw
use Rattle.table.specs.Circuit.{Shape, lit, all, fork, top, bottom, Vars, none, mention, mentions}
use Rattle.table.specs.Sound.{Roles, known, is_literal, has_literal, unless, flaw_at, is_below}
use Rattle.table.specs.Nodes.{shape_by, shape, shapes}
use Rattle.table.specs.Sets.{mask, bit, has_bit, chance_mask}
use Rattle.table.specs.NodeSets.{nothing, apart_masks, no_record, literal_sets, with_child, with_children, and_flaw, fork_flaw, flaw_by, sets_by}
use Rattle.table.specs.declared.sets.NodeSets.{NodeSets}
use Rattle.table.proofs.Packs.{packed_one, packed_or, mask_none, has_bit_is, apart_is}
use Rattle.table.proofs.Chances.{even_is}

-- the variables whose literal that is on (or off) a node has
abbrev pub literals_of : Roles → List Shape → Bool → Shape → ℕ
literals_of rs ss b s = mask (length rs) (λ v. has_literal ss v b s)

-- three sets of variables
abbrev sets : ℕ → Vars → Vars → Vars → NodeSets
sets n m a b = record { mentions = mask n m; on = mask n a; off = mask n b }

same_sets : (n : ℕ) (m a b m' a' b' : Vars) → ((x : ℕ) → m x ≡ m' x) → ((x : ℕ) → a x ≡ a' x) → ((x : ℕ) → b x ≡ b' x) → sets n m a b ≡ sets n m' a' b'
same_sets n m a b m' a' b' p q r = λ i. sets n (λ x. p x i) (λ x. q x i) (λ x. r x i)

-- the sets of a node, by what it mentions
abbrev pub sets_with : Roles → List Shape → Vars → Shape → NodeSets
sets_with rs ss m s = record { mentions = mask (length rs) m; on = literals_of rs ss true s; off = literals_of rs ss false s }

-- the sets of node c
abbrev pub sets_at : Roles → List Shape → ℕ → NodeSets
sets_at rs ss c = sets_with rs ss (get_or (mentions ss) c none) (get_or ss c bottom)

-- the sets of the nodes before node i
pub record Known (rs : Roles) (ss : List Shape) (i : ℕ) (before : List NodeSets) : Type 0 where
  pub size : length before ≡ i
  pub are : (c : ℕ) → c < i → get_or before c nothing ≡ sets_at rs ss c

known_bounds : (n v : ℕ) → known n v ≡ true → (0 < v) × (v ≤ n)
known_bounds n v h = let both = and_parts _ _ h in (ltb-true 0 v both.0, leb-true v n both.1)

unless_same : (ok : Bool) (f : Flaw) (x y : Option Flaw) → (ok ≡ true → x ≡ y) → unless ok f x ≡ unless ok f y
unless_same true f x y h = h refl
unless_same false f x y h = refl

unless_none : (ok : Bool) (f : Flaw) (x : Option Flaw) → unless ok f x ≡ None → ok ≡ true
unless_none true f x e = refl
unless_none false f x e = cc

-- a literal's own set
literal_set : (n x : ℕ) (t : Bool) → cond t (mask n (λ y. eqb y x)) 0 ≡ mask n (λ v. eqb x v && t)
literal_set n x true = ap (mask n) (fun_ext (λ y. nat_eq_equiv.symm y x ∙ sym (and-true (eqb x y))))
literal_set n x false = sym (mask_none n) ∙ ap (mask n) (fun_ext (λ y. sym (and-false (eqb x y))))

module _ (rs : Roles) (ss : List Shape) (i : ℕ) (before : List NodeSets) (known_is : Known rs ss i before) where
  and_same : (cs : List ℕ) → and_flaw before cs ≡ flaw_at rs ss i (all cs)
  and_same cs =
      ap (λ k. unless (list_all (is_below k) cs) flaw.Order (unless (apart_masks 0 before cs) flaw.Shared None)) known_is.size
      ∙ unless_same (list_all (is_below i) cs) flaw.Order _ _ (λ t.
      ap (λ b. unless b flaw.Shared None) (apart_is (length rs) i ss before (λ c l. ap (λ s. s.mentions) (known_is.are c l)) cs t))

  fork_same : (v a b : ℕ) → fork_flaw (length rs) (chance_mask rs) before v a b ≡ flaw_at rs ss i (fork v a b)
  fork_same v a b =
      let n : ℕ = length rs in
      let ms : List Vars = mentions ss in
      let sa : NodeSets = get_or before a nothing in
      let sb : NodeSets = get_or before b nothing in
      ap (λ k. unless (ltb a k && ltb b k) flaw.Order
      (unless (known n v) flaw.Variable
      (unless (has_bit v sa.on && has_bit v sb.off) flaw.Branch
      (unless (eqb (bit_and sa.mentions (chance_mask rs)) (bit_and sb.mentions (chance_mask rs))) flaw.Uneven None)))) known_is.size
      ∙ unless_same (ltb a i && ltb b i) flaw.Order _ _ (λ t. unless_same (known n v) flaw.Variable _ _ (λ k.
      let below = and_parts (ltb a i) (ltb b i) t in
      let ea = known_is.are a (ltb-true a i below.0) in
      let eb = known_is.are b (ltb-true b i below.1) in
      let bounds = known_bounds n v k in
      ap₂ (λ x y. unless x flaw.Branch (unless y flaw.Uneven None))
      (ap₂ ◌&&◌
      (ap (λ s. has_bit v s.on) ea ∙ has_bit_is n v (λ x. has_literal ss x true (get_or ss a bottom)) bounds.0 bounds.1)
      (ap (λ s. has_bit v s.off) eb ∙ has_bit_is n v (λ x. has_literal ss x false (get_or ss b bottom)) bounds.0 bounds.1))
      (ap₂ (λ x y. eqb (bit_and x.mentions (chance_mask rs)) (bit_and y.mentions (chance_mask rs))) ea eb
      ∙ even_is 1 rs (get_or ms a none) (get_or ms b none))))

  pub flaw_same : (s : Shape) → flaw_by (length rs) (chance_mask rs) before s ≡ flaw_at rs ss i s
  flaw_same (lit v b) = refl
  flaw_same (all cs) = and_same cs
  flaw_same (fork v a b) = fork_same v a b
  flaw_same top = refl
  flaw_same bottom = refl

module _ (n : ℕ) where
  nothing_is : nothing ≡ sets n none none none
  nothing_is = λ j. record { mentions = sym (mask_none n) j; on = sym (mask_none n) j; off = sym (mask_none n) j }

  literal_is : (v : ℕ) (on : Bool) → (0 < v) × (v ≤ n) → literal_sets v on ≡ sets n (λ x. eqb x v) (λ x. is_literal x true (lit v on)) (λ x. is_literal x false (lit v on))
  literal_is v true bounds = λ j. record { mentions = one j; on = (one ∙ literal_set n v true) j; off = literal_set n v false j }
    where
      one : bit v ≡ mask n (λ x. eqb x v)
      one = sym (packed_one 1 n v bounds.0 (omega arith))
  literal_is v false bounds = λ j. record { mentions = one j; on = literal_set n v false j; off = (one ∙ literal_set n v true) j }
    where
      one : bit v ≡ mask n (λ x. eqb x v)
      one = sym (packed_one 1 n v bounds.0 (omega arith))

  -- a child that is no literal
  mentions_more : (m a b d : Vars)
      → ◌≡◌ {A = NodeSets} (record { mentions = bit_or (mask n m) (mask n d); on = mask n a; off = mask n b }) (sets n (λ x. m x || d x) (λ x. a x || false) (λ x. b x || false))
  mentions_more m a b d = λ j. record { mentions = packed_or 1 n m d j; on = mask n (λ x. sym (or-false (a x)) j); off = mask n (λ x. sym (or-false (b x)) j) }

module _ (rs : Roles) (store : List ℕ) (ns : List Node) where
  abbrev ss : List Shape
  ss = shapes store ns

  abbrev n : ℕ
  n = length rs

  -- one child more
  with_one : (m a b d : Vars) (first count : ℕ) (f : Form)
      → with_child (sets n m a b) f (sets_with rs ss d (shape_by store first count f))
      ≡ sets n (λ x. m x || d x) (λ x. a x || is_literal x true (shape_by store first count f)) (λ x. b x || is_literal x false (shape_by store first count f))
  with_one m a b d first count (Literal v on) = λ j. record {
    mentions = packed_or 1 n m d j;
    on = packed_or 1 n a (λ x. is_literal x true (lit v on)) j;
    off = packed_or 1 n b (λ x. is_literal x false (lit v on)) j;
  }
  with_one m a b d first count And = mentions_more n m a b d
  with_one m a b d first count (Fork v) = mentions_more n m a b d
  with_one m a b d first count True = mentions_more n m a b d
  with_one m a b d first count False = mentions_more n m a b d

  module _ (i : ℕ) (before : List NodeSets) (short : i ≤ length ss) (known_is : Known rs ss i before) where
    abbrev done : List Vars
    done = take i (mentions ss)

    read : (c : ℕ) → c < i → get_or before c nothing ≡ sets_with rs ss (get_or done c none) (shape store (get_or ns c no_record))
    read c l =
        let size : length ss ≡ length ns = length-map ns (shape store) in
        known_is.are c l
        ∙ ap₂ (sets_with rs ss) (sym (get_or-take i (mentions ss) c none l)) (get_or-map (shape store) ns c no_record bottom (omega arith))

    children_seen : (m a b : Vars) (cs : List ℕ) → list_all (is_below i) cs ≡ true
        → with_children (sets n m a b) ns before cs
        ≡ sets n (λ x. m x || list_any (λ c. get_or done c none x) cs) (λ x. a x || list_any (λ c. is_literal x true (get_or ss c bottom)) cs) (λ x. b x || list_any (λ c. is_literal x false (get_or ss c bottom)) cs)
    children_seen m a b [] e = same_sets n m a b _ _ _ (λ x. sym (or-false (m x))) (λ x. sym (or-false (a x))) (λ x. sym (or-false (b x)))
    children_seen m a b (c ∷ cs) e =
        let parts = and_parts (ltb c i) (list_all (is_below i) cs) e in
        let l = ltb-true c i parts.0 in
        let node : Node = get_or ns c no_record in
        let d : Vars = get_or done c none in
        let size : length ss ≡ length ns = length-map ns (shape store) in
        let here : shape store node ≡ get_or ss c bottom = sym (get_or-map (shape store) ns c no_record bottom (omega arith)) in
        ap (λ s. with_children (with_child (sets n m a b) node.form s) ns before cs) (read c l)
        ∙ ap (λ s. with_children s ns before cs)
        (with_one m a b d node.first node.count node.form
        ∙ ap (λ s. sets n (λ x. m x || d x) (λ x. a x || is_literal x true s) (λ x. b x || is_literal x false s)) here)
        ∙ children_seen (λ x. m x || d x) (λ x. a x || is_literal x true (get_or ss c bottom)) (λ x. b x || is_literal x false (get_or ss c bottom)) cs parts.1
        ∙ same_sets n _ _ _ _ _ _ (λ x. or_assoc (m x) (d x) _) (λ x. or_assoc (a x) (is_literal x true (get_or ss c bottom)) _) (λ x. or_assoc (b x) (is_literal x false (get_or ss c bottom)) _)

    -- the sets of a node with no flaw
    pub sets_same : (s : Shape) → flaw_by (length rs) (chance_mask rs) before s ≡ None → sets_by ns before s ≡ sets_with rs ss (mention (take i (mentions ss)) s) s
    sets_same (lit v on) e = literal_is n v on (known_bounds n v (unless_none (known n v) flaw.Variable None e))
    sets_same (all cs) e =
        ap (λ s. with_children s ns before cs) (nothing_is n)
        ∙ children_seen none none none cs (ap (λ k. list_all (is_below k) cs) (sym known_is.size) ∙ unless_none (list_all (is_below (length before)) cs) flaw.Order _ e)
    sets_same (fork v a b) e =
        let both = and_parts _ _ (ap (λ k. ltb a k && ltb b k) (sym known_is.size) ∙ unless_none (ltb a (length before) && ltb b (length before)) flaw.Order _ e) in
        λ j. record {
          mentions =
              (ap₂ (λ x y. bit_or x.mentions y.mentions) (read a (ltb-true a i both.0)) (read b (ltb-true b i both.1))
              ∙ packed_or 1 n (get_or done a none) (get_or done b none)) j;
          on = sym (mask_none n) j;
          off = sym (mask_none n) j;
        }
    sets_same top e = nothing_is n
    sets_same bottom e = nothing_is n

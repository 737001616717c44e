-- What the lines leave in the stores.
use Rattle.std.proofs.Common.{◌≡◌, ℕ, ◌+◌, ◌<◌, ◌≤◌, true, false, leb, List, [], ◌∷◌, ◌++◌, map, length, get_or, take, drop, set, Ok, Err, sym, ap, ◌∙◌, ap₂, zero-add, arith}
use Rattle.std.specs.List.{enumerate_from}
use Rattle.std.proofs.lemmas.List.Edits.{sets}
use Rattle.std.proofs.lemmas.List.FromFn.{length-enumerate_from, get_or-enumerate_from}
use Rattle.std.proofs.lemmas.List.{at_drop_more, length-append, length-take-le, take_at, drop_at, take_more_set, drop-set-lt}
use Rattle.std.proofs.lemmas.Bool.{and_parts, leb-true, cond-true, cond-false}
use Rattle.text.specs.declared.fault.Reason.TheVariants as reason
use Rattle.text.specs.declared.progress.Progress.{Progress}
use Rattle.text.specs.declared.record.Node.{Node}
use Rattle.text.specs.Format.{number_or_zero, Said, NodeEntry, Sofar, listed, and_then, provided, fitting, with_node}
use Rattle.text.specs.Steps.{written_at, sofar, Taken}

-- the item n of an enumeration
pub enumerated : {A : Type 0} (xs : List A) (n i : ℕ) (x : A) → (n < length (enumerate_from 0 xs)) × (◌≡◌ {A = ℕ × A} (i, x) (get_or (enumerate_from 0 xs) n (i, x)))
    → (n < length xs) × (i ≡ n) × (x ≡ get_or xs n x)
enumerated xs n i x h =
    let l : n < length xs = omega (arith, h.0, length-enumerate_from 0 xs) in
    let e = h.1 ∙ get_or-enumerate_from 0 xs n (i, x) l in
    (l, ap (λ p. p.0) e ∙ zero-add n, ap (λ p. p.1) e)

-- one number more written into a store: what is left to write gives the same
pub one_written : (fs : List (List ℕ)) (store : List ℕ) (first k : ℕ) (f : List ℕ) → k < length fs → f ≡ get_or fs k f
    → sets (set store (first + k) (number_or_zero f)) (first + (k + 1)) (map number_or_zero (drop (k + 1) fs)) ≡ sets store (first + k) (map number_or_zero (drop k fs))
one_written fs store first k f within is =
    ap₂ (λ x n. sets (set store (first + k) (number_or_zero x)) n (map number_or_zero (drop (k + 1) fs))) is (omega arith)
    ∙ sym (at_drop_more (λ gs. sets store (first + k) (map number_or_zero gs)) fs k f within)

module _ {A : Type 0} (at : ℕ) (xs store : List A) (fits : at + length xs ≤ length store) where
  front_length : length (take at store ++ xs) ≡ at + length xs
  front_length = let inside : at ≤ length store = omega arith in length-append (take at store) xs ∙ ap (λ n. n + length xs) (length-take-le at store inside)

  take_written : (n : ℕ) → n ≡ at + length xs → take n (written_at at xs store) ≡ take at store ++ xs
  take_written n e = take_at (take at store ++ xs) (drop (at + length xs) store) n (front_length ∙ sym e)

  drop_written : (n : ℕ) → n ≡ at + length xs → drop n (written_at at xs store) ≡ drop n store
  drop_written n e = drop_at (take at store ++ xs) (drop (at + length xs) store) n (front_length ∙ sym e) ∙ ap (λ k. drop k store) (sym e)

-- The stores hold what was read.
module _ (p : Progress) where
  pub nodes_inside : p.nodes ≤ length p.node_store.now
  nodes_inside = omega (arith, p.nodes_within, p.room_nodes)

  pub children_inside : p.children ≤ length p.child_store.now
  children_inside = omega (arith, p.children_within, p.room_children)

  nodes_read : length (take p.nodes p.node_store.now) ≡ p.nodes
  nodes_read = length-take-le p.nodes p.node_store.now nodes_inside

  children_read : length (take p.children p.child_store.now) ≡ p.children
  children_read = length-take-le p.children p.child_store.now children_inside

-- A node line of `size` bytes with the entry e, after the progress p.
module _ (p : Progress) (size : ℕ) (e : NodeEntry) (due : p.nodes < p.header.nodes) where
  measured : fitting p.header (length (take p.nodes p.node_store.now)) (length (take p.children p.child_store.now)) (length e.children) ≡ fitting p.header p.nodes p.children (length e.children)
  measured = ap₂ (λ i j. fitting p.header i j (length e.children)) (nodes_read p) (children_read p)

  abbrev said_node : Said NodeEntry → Said Sofar
  said_node said = and_then said (λ x. provided (fitting p.header (length (take p.nodes p.node_store.now)) (length (take p.children p.child_store.now)) (length x.children)) reason.Children (Ok (with_node (sofar p) size x)))

  pub node_refused : (said : Said NodeEntry) → said ≡ Ok e → fitting p.header p.nodes p.children (length e.children) ≡ false → said_node said ≡ Err reason.Children
  node_refused said is no-fit = ap said_node is ∙ cond-false _ _ _ (measured ∙ no-fit)

  module _ (f : fitting p.header p.nodes p.children (length e.children) ≡ true) where
    pub stays_within : p.children + length e.children ≤ p.header.children
    stays_within = leb-true (p.children + length e.children) p.header.children (and_parts (leb (p.children + length e.children) p.header.children) _ f).0

    pub node_room : p.children + length e.children ≤ length p.child_store.now
    node_room = omega (arith, stays_within, p.room_children)

    abbrev node_on : ℕ → Node
    node_on k = record { form = e.form; first = p.children; count = k }

    -- q is the progress behind it, with the count k of its children
    pub node_taken : (said : Said NodeEntry) → said ≡ Ok e → (k : ℕ) → k ≡ length e.children → (q : Progress) → q.header ≡ p.header → q.variables ≡ p.variables
        → q.nodes ≡ p.nodes + 1 → q.children ≡ p.children + k → q.line ≡ p.line + 1 → q.place ≡ p.place + (size + 1)
        → q.node_store.now ≡ set p.node_store.now p.nodes (node_on k) → q.child_store.now ≡ written_at p.children e.children p.child_store.now → Taken p q (said_node said)
    node_taken said is k ke q header variables nodes children line place node-store child-store =
        let ns = p.node_store.now in
        let cs = p.child_store.now in
        let xs = e.children in
        let inside : p.nodes < length ns = omega (arith, p.room_nodes, due) in
        let all : q.children ≡ p.children + length xs = omega (arith, children, ke) in
        let record_is : node_on k ≡ record { form = e.form; first = length (take p.children cs); count = length xs } =
        λ i. record { form = e.form; first = sym (children_read p) i; count = ke i } in
        let nodes_are : take q.nodes q.node_store.now ≡ take p.nodes ns ++ record { form = e.form; first = length (take p.children cs); count = length xs } ∷ [] =
        ap₂ (λ n ys. take n ys) nodes node-store ∙ take_more_set ns p.nodes (node_on k) inside ∙ ap (λ n. take p.nodes ns ++ n ∷ []) record_is in
        let children_are : take q.children q.child_store.now ≡ take p.children cs ++ xs =
        ap (take q.children) child-store ∙ take_written p.children xs cs node_room q.children all in
        record {
          says = ap said_node is ∙ cond-true _ _ _ (measured ∙ f)
              ∙ (λ i. Ok (record { header = sym header i; variables = listed (sym variables i); nodes = sym nodes_are i; children = sym children_are i; line = sym line i; place = sym place i }));
          nodes = ap (drop q.nodes) node-store ∙ drop-set-lt q.nodes ns p.nodes (node_on k) (omega arith);
          children = ap (drop q.children) child-store ∙ drop_written p.children xs cs node_room q.children all;
          on = (omega arith, omega arith);
        }

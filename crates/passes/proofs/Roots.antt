-- The root's value in the work table.
use Rattle.std.proofs.Common.{◌≡◌, ℕ, suc, ◌+◌, ◌-◌, ◌*◌, ◌≤◌, Bool, true, false, cond, leb, List, [], ◌∷◌, ◌++◌, map, length, get_or, sym, refl, ap, ◌∙◌, suc-mul, arith}
use Rattle.std.specs.List.{filter}
use Rattle.std.proofs.lemmas.List.{get_or_append_left, length-map}
use Rattle.std.proofs.lemmas.Bool.{and_parts, leb-true}
use Rattle.table.specs.declared.table.Table.{Table}
use Rattle.table.specs.Circuit.{root}
use Rattle.kinds.specs.Semiring.{Semiring}
use Rattle.text.specs.Format.{is_option_role, option_count, listed}
use Rattle.text.specs.declared.record.Variable.{Variable}
use Rattle.table.specs.Nodes.{shape}
use Rattle.table.specs.Sound.{Roles, from, options}
use Rattle.table.specs.Whole.{circuit, roles}
use Rattle.passes.specs.Passes.{Part, no_part, work}
use Rattle.passes.proofs.Rowing.{work_length, value_there}

-- a table has a node, and as many as its circuit
pub some_node : (t : Table) → 1 ≤ length t.nodes.now
some_node t =
    let a = and_parts (leb 1 t.variables.count) _ t.counts in
    leb-true 1 (length t.nodes.now) (and_parts (leb 1 (length t.nodes.now)) _ a.1).0

pub node_count : (t : Table) → length (circuit t) ≡ length t.nodes.now
node_count t = length-map t.nodes.now (shape t.children.now)

-- the last of the values, at the front of a store
pub root_in : {F : Type 0} (d : F) (values rest store : List F) (n : ℕ) → store ≡ values ++ rest → length values ≡ n → 1 ≤ n → get_or store (n - 1) d ≡ root d values
root_in d values rest store n is long some =
    ap (λ xs. get_or xs (n - 1) d) is ∙ get_or_append_left values rest d (n - 1) (omega arith) ∙ ap (λ k. get_or values (k - 1) d) (sym long)

-- as many options are listed as there are
one_option : {A : Type 0} (b : Bool) (i : ℕ) (rs : Roles) (x : A) (xs : List A) → length (from (i + 1) true rs) ≡ length xs → length (from i true (b ∷ rs)) ≡ length (cond b (x ∷ xs) xs)
one_option true i rs x xs e = ap suc e
one_option false i rs x xs e = e

options_from : (vs : List Variable) (i : ℕ) → length (from i true (map (λ v. is_option_role v.role) vs)) ≡ option_count vs
options_from [] i = refl
options_from (v ∷ vs) i =
    one_option (is_option_role v.role) i (map (λ u. is_option_role u.role) vs) v (filter (λ u. is_option_role u.role) vs) (options_from vs (i + 1))

pub options_many : (t : Table) → length (options (roles t)) ≡ option_count (listed t.variables)
options_many t = options_from (listed t.variables) 1

pub few_options : (t : Table) → length (options (roles t)) ≤ 20
few_options t = omega (arith, options_many t, leb-true (option_count (listed t.variables)) 20 t.few)

-- the root's part, in a work table of parts
pub last_part : (n stride : ℕ) → 1 ≤ n → (n - 1) * stride + stride ≡ n * stride
last_part n stride some =
    let up : suc (n - 1) ≡ n = omega arith in
    let e = suc-mul (n - 1) stride in
    sym e ∙ ap (λ k. k * stride) up

module _ {F : Type 0} (R : Semiring F) (rs : Roles) (stride : ℕ) (wide : stride ≡ 2 * length (options rs) + 1) where
  pub root_part_in : (ps : List (Part F)) (rest store : List F) (n : ℕ) → store ≡ work rs ps ++ rest → length ps ≡ n → 1 ≤ n
      → get_or store ((n - 1) * stride) R.zero ≡ (root (no_part R) ps).value
  root_part_in ps rest store n is long some =
      let size = work_length R rs stride wide ps in
      let last = last_part n stride some in
      let whole : length ps * stride ≡ n * stride = ap (λ k. k * stride) long in
      ap (λ xs. get_or xs ((n - 1) * stride) R.zero) is
      ∙ get_or_append_left (work rs ps) rest R.zero ((n - 1) * stride) (omega arith)
      ∙ value_there R rs stride wide ps (n - 1)
      ∙ ap (λ k. (get_or ps (k - 1) (no_part R)).value) (sym long)

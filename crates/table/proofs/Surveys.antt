-- The check, node by node.
use Rattle.std.specs.List.{list_all}
use Rattle.std.proofs.Common.{◌≡◌, ℕ, ◌+◌, ◌-◌, ◌<◌, ◌≤◌, ◌⊎◌, inl, inr, true, false, cond, eqb, List, ◌++◌, map, length, get_or, take, drop, set, replicate, Some, None, Ok, Err, Option, sym, ap, ◌∙◌, ap₂, arith}
use lib.Bits.{bit_and}
use Rattle.std.proofs.lemmas.Bool.{cases_eq, cond-true, cond-false, eq-eqb, ne_eqb, le-leb, lt-leb}
use Rattle.std.proofs.lemmas.List.{get_or-set_same, get_or-set_other, length-take-le, get_or-take, length-map, length-set, get_or-map, at_drop_more, at_drop_all}
use Rattle.std.proofs.lemmas.Grind.{same_number_lists}
use Rattle.std.proofs.Math.ListN.{get_or-map as get_or-mapped}
use Rattle.text.specs.declared.fault.Fault.TheVariants as text_fault
use Rattle.text.specs.declared.fault.Reason.TheVariants as reason
use Rattle.text.specs.declared.record.Node.{Node}
use Rattle.text.specs.declared.record.Variable.{Variable}
use Rattle.text.specs.declared.record.Variables.{Variables}
use Rattle.text.specs.Format.{listed, option_count}
use Rattle.table.specs.declared.fault.Fault.TheVariants as fault
use Rattle.table.specs.declared.fault.Flaw.{Flaw}
use Rattle.table.specs.declared.fault.Flaw.TheVariants as flaw
use Rattle.table.specs.Circuit.{Shape, bottom, Vars, none, mention, mentions}
use Rattle.table.specs.Sound.{Roles, Verdict, sound, flawed, chances, flaw_first, flaw_at, verdict_from, verdict}
use Rattle.table.specs.Nodes.{shape, shapes, roles_of}
use Rattle.table.specs.Sets.{mask, mentions_of, chance_mask}
use Rattle.table.specs.NodeSets.{nothing, mentions_in, no_record, flaw_by, sets_by}
use Rattle.table.specs.declared.sets.NodeSets.{NodeSets}
use Rattle.table.specs.Check.{counts_within, options_within, answer_by, circuit_says, check_says}
use Rattle.table.proofs.Packs.{getD_mask}
use Rattle.table.proofs.Chances.{total_is, roles_length}
use Rattle.table.proofs.Upward.{upward_length, upward_here}
use Rattle.table.proofs.Agree.{sets_at, sets_with, Known, flaw_same, sets_same}

-- the first i nodes are checked
pub record Checked (rs : Roles) (ss : List Shape) (i : ℕ) (all : List NodeSets) : Type 0 where
  pub rest : verdict_from rs ss i (drop i ss) ≡ verdict rs ss
  pub are : (c : ℕ) → c < i → get_or all c nothing ≡ sets_at rs ss c
  pub size : length all ≡ 4096

-- node i is next: the code has the list `all` of the variables and the set `k` of the chances
module _ (vs : Variables) (cs : List ℕ) (ns : List Node) (i : ℕ) (known : List NodeSets) (all : List Variable) (k : ℕ) (l : i < length ns) (few : length ns ≤ 4096)
    (inv : Checked (roles_of vs) (shapes cs ns) i known) (all_are : all ≡ listed vs) (k-is : k ≡ chance_mask (roles_of vs)) where
  abbrev rs : Roles
  rs = roles_of vs

  abbrev ss : List Shape
  ss = shapes cs ns

  abbrev here : Shape
  here = get_or (shapes cs ns) i bottom

  -- the node's record as the code reads it
  abbrev read : Shape
  read = shape cs (get_or ns i no_record)

  size : length ss ≡ length ns
  size = length-map ns (shape cs)

  short : i ≤ length ss
  short = let e = size in omega arith

  node_is : read ≡ here
  node_is = sym (get_or-map (shape cs) ns i no_record bottom l)

  known_is : Known rs ss i (take i known)
  known_is = record {
    size = length-take-le i known (let e = inv.size in omega arith);
    are = λ c m. get_or-take i known c nothing m ∙ inv.are c m;
  }

  flaw_known : flaw_by (length rs) (chance_mask rs) (take i known) here ≡ flaw_at rs ss i here
  flaw_known = flaw_same rs ss i (take i known) known_is here

  flaw_here : flaw_by (length all) k (take i known) read ≡ flaw_at rs ss i here
  flaw_here =
      ap₂ (λ x y. flaw_by x y (take i known) read) (ap length all_are ∙ sym (roles_length vs)) k-is
      ∙ ap (flaw_by (length rs) (chance_mask rs) (take i known)) node_is
      ∙ flaw_known

  step : verdict_from rs ss i (drop i ss) ≡ flaw_first i (flaw_at rs ss i here) (verdict_from rs ss (i + 1) (drop (i + 1) ss))
  unfolding verdict_from
  step = at_drop_more (verdict_from rs ss i) ss i bottom (let e = size in omega arith)

  after : Option Flaw → Verdict
  after o = flaw_first i o (verdict_from rs ss (i + 1) (drop (i + 1) ss))

  -- a node with a flaw decides
  pub stops : (f : Flaw) → Some f ≡ flaw_by (length all) k (take i known) (shape cs (get_or ns i no_record))
      → Err (fault.Node f i) ≡ circuit_says (roles_of vs) (shapes cs ns)
  unfolding after
  stops f e = sym (ap (answer_by rs ss) (sym inv.rest ∙ step ∙ ap after (sym (e ∙ flaw_here))))

  module _ (fine : None ≡ flaw_by (length all) k (take i known) (shape cs (get_or ns i no_record))) where
    flawless : flaw_by (length rs) (chance_mask rs) (take i known) here ≡ None
    flawless = flaw_known ∙ sym (fine ∙ flaw_here)

    goes : verdict_from rs ss (i + 1) (drop (i + 1) ss) ≡ verdict rs ss
    unfolding after
    goes = ap after (fine ∙ flaw_here) ∙ sym step ∙ inv.rest

    module _ (s : NodeSets) (s-by : s ≡ sets_by ns (take i known) (shape cs (get_or ns i no_record))) where
      s_is : s ≡ sets_at rs ss i
      s_is =
          s-by ∙ ap (sets_by ns (take i known)) node_is ∙ sets_same rs cs ns i (take i known) short known_is here flawless
          ∙ ap (λ m. sets_with rs ss m here) (sym (upward_here mention ss i none (let e = size in omega arith)))

      -- one more node is checked
      pub goes_on : Checked (roles_of vs) (shapes cs ns) (i + 1) (set known i s)
      goes_on =
          record {
            rest = goes;
            are = λ c m. by_place c m (cases_eq c i);
            size = length-set known i s ∙ inv.size;
          }
        where
          by_place : (c : ℕ) → c < i + 1 → (c ≡ i) ⊎ (c ≡ i → ⊥) → get_or (set known i s) c nothing ≡ sets_at rs ss c
          by_place c m (inl e) = rw e (get_or-set_same known i s nothing (let q = inv.size in omega arith) ∙ s_is)
          by_place c m (inr n) = get_or-set_other known i c s nothing n ∙ inv.are c (omega arith)

-- every node is checked
module _ (rs : Roles) (cs : List ℕ) (ns : List Node) (i : ℕ) (known : List NodeSets) (filled : 1 ≤ length ns) (low : i ≤ length ns) (high : length ns ≤ i) (few : length ns ≤ 4096)
    (inv : Checked rs (shapes cs ns) i known) (k : ℕ) (k-is : k ≡ chance_mask rs) where
  abbrev whole : List Shape
  whole = shapes cs ns

  -- what the root mentions
  abbrev top_set : Vars
  top_set = get_or (mentions (shapes cs ns)) (length (shapes cs ns) - 1) none

  count : length whole ≡ length ns
  count = length-map ns (shape cs)

  last_is : length whole - 1 ≡ length ns - 1
  last_is = ap (λ n. n - 1) count

  final : verdict rs whole ≡ cond (list_all top_set (chances rs)) sound (flawed flaw.Missing (length whole - 1))
  unfolding verdict_from
  final = sym (sym (at_drop_all (verdict_from rs whole i) whole i (let e = count in omega arith)) ∙ inv.rest)

  root_set : (get_or known (length ns - 1) nothing).mentions ≡ mask (length rs) top_set
  root_set = ap (λ s. s.mentions) (inv.are (length ns - 1) (omega arith)) ∙ ap (λ n. mask (length rs) (get_or (mentions whole) n none)) (sym last_is)

  root_test : eqb (bit_and (get_or known (length ns - 1) nothing).mentions k) k ≡ list_all top_set (chances rs)
  root_test = ap₂ (λ x y. eqb (bit_and x y) y) root_set k-is ∙ total_is 1 rs top_set

  pub misses : (bit_and (get_or known (length ns - 1) nothing).mentions k ≡ k → ⊥) → Err (fault.Node flaw.Missing (length ns - 1)) ≡ circuit_says rs (shapes cs ns)
  misses n =
      sym (ap (answer_by rs whole) (final ∙ cond-false _ sound (flawed flaw.Missing (length whole - 1)) (sym root_test ∙ ne_eqb _ _ n))
      ∙ ap (λ m. Err (fault.Node flaw.Missing m)) last_is)

  taken : length (take (length ns) known) ≡ length whole
  taken = let e = inv.size in length-take-le (length ns) known (omega arith) ∙ sym count

  filled_up : mentions_in (take (length ns) known) ≡ mentions_of (length rs) whole
  filled_up = ap₂ (λ xs n. record { sets = xs ++ replicate (4096 - n) 0 }) (same_number_lists _ _ same_size same) taken
    where
      same_size : length (map (λ (s : NodeSets). s.mentions) (take (length ns) known)) ≡ length (map (mask (length rs)) (mentions whole))
      same_size =
          length-map (take (length ns) known) (λ s. s.mentions) ∙ taken
          ∙ sym (length-map (mentions whole) (mask (length rs)) ∙ upward_length mention whole)

      same : (c : ℕ) → c < length (map (λ (s : NodeSets). s.mentions) (take (length ns) known)) → get_or (map (λ (s : NodeSets). s.mentions) (take (length ns) known)) c 0 ≡ get_or (map (mask (length rs)) (mentions whole)) c 0
      same c l =
          let m : c < length ns = let e = length-map (take (length ns) known) (λ (s : NodeSets). s.mentions) in let f = taken in let g = count in omega arith in
          get_or-mapped (λ s. s.mentions) (take (length ns) known) c nothing
          ∙ ap (λ s. s.mentions) (get_or-take (length ns) known c nothing m ∙ inv.are c (omega arith)) ∙ sym (getD_mask (length rs) (mentions whole) c)

  pub passes : bit_and (get_or known (length ns - 1) nothing).mentions k ≡ k → Ok (mentions_in (take (length ns) known)) ≡ circuit_says rs (shapes cs ns)
  passes e =
      sym (ap (answer_by rs whole) (final ∙ cond-true _ sound (flawed flaw.Missing (length whole - 1)) (sym root_test ∙ eq-eqb _ _ e))
      ∙ ap Ok (sym filled_up))

-- the limits come first
module _ (vs : Variables) (ns : List Node) (cs : List ℕ) where
  pub limits_fail : false ≡ counts_within vs ns → Err (fault.Text (text_fault.Line reason.Limit 1)) ≡ check_says vs ns cs
  unfolding check_says
  limits_fail e = sym (cond-false (counts_within vs ns) _ _ (sym e))

  pub options_fail : true ≡ counts_within vs ns → 20 < option_count (listed vs) → Err (fault.Text (text_fault.Line reason.Variable (vs.count + 1))) ≡ check_says vs ns cs
  unfolding check_says
  options_fail e h = sym (cond-true (counts_within vs ns) _ _ (sym e) ∙ cond-false (options_within vs) _ _ (lt-leb (option_count (listed vs)) 20 h))

  pub limits_hold : true ≡ counts_within vs ns → option_count (listed vs) ≤ 20 → circuit_says (roles_of vs) (shapes cs ns) ≡ check_says vs ns cs
  unfolding check_says
  limits_hold e h = sym (cond-true (counts_within vs ns) _ _ (sym e) ∙ cond-true (options_within vs) _ _ (le-leb (option_count (listed vs)) 20 h))

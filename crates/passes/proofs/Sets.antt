-- The set of the free options that a node mentions.
use Rattle.std.proofs.Common.{◌≡◌, ℕ, ◌<◌, Bool, true, false, ◌&&◌, length, get_or, sym, refl, ap, ap₂, ◌∙◌, arith}
use lib.Bits.{bit_and}
use Rattle.std.proofs.lemmas.Bool.{and_from, lt-ltb, le-leb}
use Rattle.table.specs.Circuit.{about}
use Rattle.table.specs.Facts.{Among}
use Rattle.table.specs.Sets.{has_bit, OptionSet}
use Rattle.table.specs.Sound.{is_option, options}
use Rattle.table.specs.Whole.{circuit, roles}
use Rattle.table.specs.declared.table.Table.{Table}
use Rattle.table.proofs.Asked.{bit_says, variables_few}
use Rattle.table.proofs.Bits.{has_bit_and, has_bit_none}
use Rattle.table.proofs.Decided.{decides_known}
use Rattle.table.proofs.Numbers.{listed_role, option_known}
use Rattle.passes.specs.Holding.{entry, is_free}
use Rattle.passes.specs.Open.{FreeVariables, FreeOptions, OpenOptions}
use Rattle.passes.specs.Problem.{problem}
use Rattle.passes.specs.Rows.{open_in}
use Rattle.passes.specs.declared.query.Query.{Query}

and_assoc : (a b c : Bool) → ((a && b) && c) ≡ (a && (b && c))
and_assoc true b c = refl
and_assoc false b c = refl

module _ {F : Type 0} (q : Query F) (i : ℕ) where
  abbrev t : Table
  t = q.table.now

  -- of the free options those that the node mentions
  pub open_options : (free : ℕ) → i < length t.nodes.now → FreeOptions (problem q) free → OpenOptions (problem q) i (bit_and free (get_or t.mentions.sets i 0))
  open_options free inside are v known =
      has_bit_and v free (get_or t.mentions.sets i 0) ∙ ap₂ ◌&&◌ (are v known) (bit_says t i v inside known)
      ∙ and_assoc (is_option (roles t) v) (is_free (entry q.holds.now.entries v)) (about (circuit t) i v)

  -- an option is in the set if the node has values for it
  pub option_open : (set : ℕ) → OpenOptions (problem q) i set → (v : ℕ) → is_option (roles t) v ≡ true → has_bit v set ≡ open_in (problem q) i v
  option_open set are v is =
      are v ((decides_known (roles t) v).1 (option_known (roles t) v is)) ∙ ap (λ b. b && open_in (problem q) i v) is

  -- no option is in an empty set
  pub none_open : (set : ℕ) → OpenOptions (problem q) i set → set ≡ 0 → (v : ℕ) → Among v (options (roles t)) → open_in (problem q) i v ≡ false
  none_open set are empty v m =
      sym (option_open set are v (listed_role (roles t) true v m).1) ∙ ap (has_bit v) empty ∙ has_bit_none v

-- of the options those that are not held
pub free_options : {F : Type 0} (q : Query F) (all free : ℕ) → OptionSet (roles q.table.now) all → FreeVariables q.holds.now.entries free → FreeOptions (problem q) (bit_and all free)
free_options q all free options variables v known =
    let inside = (decides_known (roles q.table.now) v).0 known in
    let one_of_64 = and_from _ _ (lt-ltb 0 v (omega (arith, inside.0))) (le-leb v 64 (let few = variables_few q.table.now in omega (arith, inside.1))) in
    has_bit_and v all free ∙ ap₂ ◌&&◌ (options v one_of_64) (variables v one_of_64)

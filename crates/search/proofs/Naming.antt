-- A lawful order names a free option.
use Rattle.std.proofs.Common.{◌≡◌, ℕ, true, false, List, [], ◌∷◌, map, Some, None, Option, sym, refl, ap, ◌∙◌, subst}
use Rattle.std.proofs.lemmas.Bool.{both_ways}
use Rattle.kinds.specs.Semiring.{Semiring}
use Rattle.table.specs.Circuit.{Vars}
use Rattle.table.specs.Facts.{Among}
use Rattle.table.specs.Sound.{Roles}
use Rattle.passes.specs.Holding.{Entries, entry, is_free, free}
use Rattle.passes.specs.Passes.{Part, root_part}
use Rattle.passes.specs.declared.holds.Entry.{Entry}
use Rattle.passes.specs.declared.holds.Entry.TheVariants.{Free, On, Off}
use Rattle.passes.specs.Problem.{Problem}
use Rattle.search.specs.Listing.{root_mentions}
use Rattle.search.specs.Orders.{Lean, Order, Lawful, numbers, rising}
use Rattle.search.specs.Select.{lean_of, named, leans}
use Rattle.search.proofs.Holding.{free_option}
use Rattle.search.proofs.Rising.{free_rising}

entry_free : (e : Entry) → is_free e ≡ true → e ≡ Free
entry_free Free t = refl
entry_free On t = absurd (both_ways false refl t)
entry_free Off t = absurd (both_ways false refl t)

leans_numbers : {F : Type 0} (p : Part F) (m : Vars) (vs : List ℕ) → numbers (map (lean_of p m) vs) ≡ vs
leans_numbers p m [] = refl
leans_numbers p m (v ∷ vs) = ap (λ xs. v ∷ xs) (leans_numbers p m vs)

module _ {F : Type 0} (R : Semiring F) (pick : Order F) (law : Lawful pick) (rs : Roles) (h : Entries) where
  -- told of the free options, it names one of them
  names_free : (l : Lean F) (ls : List (Lean F)) → numbers (l ∷ ls) ≡ free rs h → Among (pick (l ∷ ls)) (free rs h)
  names_free l ls same = subst (Among (pick (l ∷ ls))) same (law l ls (ap rising same ∙ free_rising rs h))

  -- the option to branch on is a free one; there is none if none is free
  abbrev pub Names : Option ℕ → Type 0
  Names None = free rs h ≡ []
  Names (Some v) = Among v (free rs h)

  named_names : (ls : List (Lean F)) → numbers ls ≡ free rs h → Names (named pick ls)
  named_names [] same = sym same
  named_names (l ∷ ls) same = names_free l ls same

module _ {F : Type 0} (R : Semiring F) (pick : Order F) (law : Lawful pick) (p : Problem F) where
  pub next_names : Names R pick law p.roles p.holds (named pick (leans R p))
  next_names = named_names R pick law p.roles p.holds (leans R p) (leans_numbers (root_part R p) (root_mentions p.circuit) (free p.roles p.holds))

  pub named_free : (v : ℕ) → named pick (leans R p) ≡ Some v → entry p.holds v ≡ Free
  named_free v e = entry_free _ (free_option p.roles p.holds v (subst (Names R pick law p.roles p.holds) e next_names)).1

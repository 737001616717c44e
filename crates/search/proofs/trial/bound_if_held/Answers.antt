use Rattle.std.proofs.Common.{◌≡◌, ℕ, ◌-◌, ◌<◌, get_or, set, ap, ◌∙◌, arith}
use Rattle.std.proofs.lemmas.List.{set-set, set-get_or}
use Rattle.std.proofs.lemmas.Bool.{cond-false, ne_eqb}
use Rattle.passes.specs.Holding.{Entries}
use Rattle.passes.specs.Marks.{with_entry, held}
use Rattle.passes.specs.declared.holds.Entry.{Entry}
use Rattle.passes.specs.declared.holds.Entry.TheVariants.{Free}
use Rattle.search.proofs.trial.bound_if_held.Goals as goal

-- an entry that was changed is put back
put_back : (h tried final : Entries) (v : ℕ) (e : Entry) → 0 < v → tried ≡ with_entry h v e → final ≡ set tried (v - 1) (get_or h (v - 1) Free) → final ≡ h
put_back h tried final v e low t f =
    let some : v ≡ 0 → ⊥ = λ z. none z low in
    f ∙ ap (λ l. set l (v - 1) (get_or h (v - 1) Free)) (t ∙ cond-false _ h (set h (v - 1) e) (ne_eqb v 0 some))
    ∙ set-set h (v - 1) e (get_or h (v - 1) Free) ∙ set-get_or h (v - 1) Free
  where
    none : v ≡ 0 → 0 < v → ⊥
    none z q = omega arith

pub returns-clause-same : goal.returns-clause-same
returns-clause-same g c = put_back c.args.holds.now.entries c.hold.new.self.entries _ c.args.variable (held c.args.on) c.requires.known.0 c.hold.ensures c.drop-trial.ensures

use Rattle.std.proofs.Common.{◌≡◌, ℕ, ◌+◌, ◌<◌, ◌++◌, false, length, get_or, take, sym, refl, ap, ap₂, ◌∙◌, arith}
use Rattle.std.proofs.lemmas.List.{get_or-map}
use denote.Enum.Bare.{sameb}
use Rattle.text.specs.contracts.record.Role.{the_type}
use Rattle.text.specs.declared.record.Role.{Role}
use Rattle.text.specs.declared.record.Role.TheVariants.{Option, Chance}
use Rattle.text.specs.declared.record.Variable.{Variable}
use Rattle.text.specs.Format.{is_option_role, listed}
use Rattle.table.specs.Whole.{roles}
use Rattle.table.proofs.Asked.{variables_long}
use Rattle.passes.proofs.Options.{rest_from, list_option, list_chance}
use Rattle.passes.proofs.pair.list_options.Goals as goal
use Rattle.passes.proofs.pair.list_options.Goals.{then-eq, else-eq}

role_is : (r : Role) → is_option_role r ≡ sameb the_type r Option
role_is Option = refl
role_is Chance = refl

pub loop-i-preserved : goal.loop-i-preserved
loop-i-preserved c =
    let rs = roles c.args.table.now in
    let i : ℕ = c.loop-i.i in
    let x : Variable = c.variable-item.result in
    let short : i < length rs = omega (arith, ap length c.as_slice-variable-items.ensures, variables_long c.args.table.now) in
    let role : get_or rs i false ≡ c.eq.result =
    get_or-map (λ y. is_option_role y.role) (listed c.args.table.now.variables) i x false (let v = variables_long c.args.table.now in omega arith)
    ∙ sym (ap (λ y. is_option_role y.role) (c.variable-item.is ∙ ap (λ vs. get_or vs i x) c.as_slice-variable-items.ensures))
    ∙ role_is x.role ∙ sym c.eq.ensures in
    elim c.if-eq.branch [
      | then-eq w ↦ record {
        listed = ap₂ (λ k o. take k o ++ rest_from rs (i + 1)) w.count-is w.out-is
            ∙ list_option rs c.loop-i.out c.loop-i.count i short (role ∙ w.if-eq.true) (omega (arith, c.loop-i.invariant.few, c.loop-i.auto.out, c.requires)) _ c.loop-i.invariant.listed;
        few = omega (arith, w.count-is, c.loop-i.invariant.few);
      }
      | else-eq w ↦ record {
        listed = ap₂ (λ k o. take k o ++ rest_from rs (i + 1)) w.count-is w.out-is
            ∙ list_chance rs c.loop-i.out c.loop-i.count i short (role ∙ w.if-eq.false) _ c.loop-i.invariant.listed;
        few = omega (arith, w.count-is, c.loop-i.invariant.few);
      }
    ]

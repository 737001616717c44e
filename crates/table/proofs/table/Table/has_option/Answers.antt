use Rattle.std.proofs.Common.{rules, ◌≡◌, sym, ap, ◌∙◌}
use Rattle.table.proofs.Asked.{unknown_option, option_says}
use Rattle.text.specs.Format.{is_option_role}
use Rattle.table.proofs.table.Table.has_option.Goals as goal

pub returns-then-has_variable : goal.returns-then-has_variable
returns-then-has_variable c =
    let x = c.index-as_slice-variable.result in
    let role : is_option_role x.role ≡ c.eq.result = search rules in
    sym (option_says c.args.self.now c.args.variable x _ (sym c.if-has_variable.ensures) c.as_slice.ensures ∙ ap (λ y. is_option_role y.role) (sym c.index-as_slice-variable.is) ∙ role)

pub returns-else-has_variable : goal.returns-else-has_variable
returns-else-has_variable c = c.if-has_variable.false ∙ sym (unknown_option c.args.self.now c.args.variable (sym c.if-has_variable.ensures))

use Rattle.std.proofs.Common.{◌++◌, ◌∙◌, ap, map, sym}
use Rattle.gql_vars.specs.Lists.{use_of}
use Rattle.gql_vars.specs.Uses.{literal_uses}
use Rattle.gql_vars.proofs.LiteralUses.{in_variable, used_one}
use Rattle.gql_vars.proofs.uses.+values.Goals as goal

pub add_value_uses-returns-in_ok-push-in-Variable : goal.add_value_uses-returns-in_ok-push-in-Variable
add_value_uses-returns-in_ok-push-in-Variable t c =
    used_one _ _ _ c.in_ok-push-in-Variable.ensures.items
    ∙ ap (λ us. map use_of c.args.uses.now.items ++ us)
    (sym (ap (literal_uses c.args.file.now) c.in-Variable.is ∙ in_variable c.args.file.now c.in-Variable.place c.in-Variable.name))

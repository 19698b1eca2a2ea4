use Rattle.std.proofs.Common.{◌∙◌, ap, sym, arith}
use Rattle.gql_vars.specs.Lists.{or_this}
use Rattle.gql_vars.proofs.Lookups.{named_more}
use Rattle.gql_vars.proofs.tables.first_variables.Goals as goal

pub loop-variable-preserved : goal.loop-variable-preserved
loop-variable-preserved c = λ q. c.in_ok-keep_first.ensures q
    ∙ ap (λ o. or_this o c.variable-item.result q) (c.loop-variable.invariant q)
    ∙ sym (named_more c.args.variables.now c.loop-variable.variable-index c.variable-item.result q (omega arith) (sym c.variable-item.is))

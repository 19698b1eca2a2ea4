use Rattle.std.proofs.Common.{◌++◌, ◌∷◌, [], ◌∙◌, ap, sym, arith, if◌then◌else◌}
use Rattle.gql_ast.specs.declared.rule.Rule.TheVariants as rule
use Rattle.gql_rules.specs.Faults.{fault_at}
use Rattle.gql_rules.proofs.Steps.{flat_map_step}
use Rattle.gql_vars.specs.V25VariableUniqueness.{fault_of_variable}
use Rattle.gql_vars.proofs.v25_variable_uniqueness.check.Goals as goal

pub loop-variable-preserved : goal.loop-variable-preserved
loop-variable-preserved c =
    let v = c.variable-item.result in
    flat_map_step (fault_of_variable c.args.owner.now c.args.variables.now) c.args.variables.now c.loop-variable.variable-index v
    c.args.faults.now.items _ _ (omega arith) (sym c.variable-item.is) c.loop-variable.invariant
    (c.in_ok-check_variable.ensures ∙ ap (λ b. c.loop-variable.faults.items ++ (if b then fault_at c.args.owner.now rule.V25 v.name.text v.place ∷ [] else []))
    (c.in_ok-counts.ensures v.name.text))

use Rattle.std.proofs.Common.{◌++◌, ◌∷◌, [], ◌∙◌, ap, sym, arith, if◌then◌else◌}
use Rattle.gql_ast.specs.declared.rule.Rule.TheVariants as rule
use Rattle.gql_rules.specs.Faults.{fault_of}
use Rattle.gql_rules.specs.V09ArgumentUniqueness.{fault_of_argument}
use Rattle.gql_rules.proofs.Steps.{flat_map_step}
use Rattle.gql_rules.proofs.v09_argument_uniqueness.check.Goals as goal

pub loop-argument-preserved : goal.loop-argument-preserved
loop-argument-preserved c = flat_map_step (fault_of_argument c.args.owner.now c.args.given.now) c.args.given.now c.loop-argument.argument-index c.argument-item.result
    c.args.faults.now.items _ _ (omega arith) (sym c.argument-item.is) c.loop-argument.invariant
    (c.in_ok-check_argument.ensures ∙ ap (λ b. c.loop-argument.faults.items ++ (if b then fault_of c.args.owner.now rule.V09 c.argument-item.result.name ∷ [] else []))
    (c.in_ok-counts.ensures c.argument-item.result.name.text))

use Rattle.std.proofs.Common.{[], arith, sym, is_some, bytes_eq, if◌then◌else◌}
use Rattle.std.specs.HashMap as hash
use Rattle.gql_ast.specs.declared.rule.Rule.TheVariants as rule
use Rattle.gql_ast.specs.declared.type_system.InputValueDefinition.{InputValueDefinition}
use Rattle.gql_faults.specs.Faults.{fault_at}
use Rattle.gql_faults.specs.Places.{spot}
use Rattle.gql_node_rules.proofs.Same.{flat_map_step}
use Rattle.gql_node_rules.proofs.s32_bad_arguments.check_all_required.Goals as goal

pub loop-definition-preserved : goal.loop-definition-preserved
loop-definition-preserved c = flat_map_step
    (λ (v : InputValueDefinition). if is_some (hash.get_by (λ k. bytes_eq v.name.text k.now) c.args.given.now) then [] else fault_at rule.S32 v.name.text (spot c.args.at.now))
    (λ v. v.now) c.args.required.now c.loop-definition.definition-index c.definition-item.result c.args.faults.now.items _ _ (omega arith) (sym c.definition-item.is)
    c.loop-definition.invariant c.in_ok-check_required.ensures

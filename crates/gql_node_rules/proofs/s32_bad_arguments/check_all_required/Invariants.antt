use Rattle.std.proofs.Common.{◌≡◌, ◌++◌, [], map, flat_map, take, is_some, bytes_eq, if◌then◌else◌}
use Rattle.std.specs.HashMap as hash
use Rattle.gql_ast.specs.declared.rule.Rule.TheVariants as rule
use Rattle.gql_faults.specs.Faults.{fault_at}
use Rattle.gql_faults.specs.Places.{spot}
use Rattle.gql_node_rules.proofs.s32_bad_arguments.check_all_required.Given as goal

abbrev pub invariant-loop-definition : goal.invariant-loop-definition
invariant-loop-definition l = l.faults.items ≡ l.initial.faults.items
    ++ flat_map (λ v. if is_some (hash.get_by (λ k. bytes_eq v.name.text k.now) l.given) then [] else fault_at rule.S32 v.name.text (spot l.at)) (map (λ v. v.now) (take l.definition-index l.required))

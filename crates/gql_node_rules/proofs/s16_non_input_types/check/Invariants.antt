use Rattle.std.proofs.Common.{◌≡◌, ◌++◌, map, flat_map, take}
use Rattle.gql_ast.specs.declared.rule.Rule.TheVariants as rule
use Rattle.gql_types.specs.Kinds.{is_input}
use Rattle.gql_node_rules.specs.Resolved.{of_wrong_kind, reference}
use Rattle.gql_node_rules.proofs.s16_non_input_types.check.Given as goal

abbrev pub invariant-loop-referring : goal.invariant-loop-referring
invariant-loop-referring l = l.faults.items ≡ l.initial.faults.items
    ++ flat_map (of_wrong_kind is_input rule.S16) (map reference (take l.referring-index l.references))

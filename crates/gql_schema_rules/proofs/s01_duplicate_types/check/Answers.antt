use Rattle.std.proofs.Common.{◌∙◌, ◌≤◌, ap, map, subst}
use Rattle.gql_ast.specs.declared.rule.Rule.TheVariants as rule
use Rattle.gql_ast.specs.declared.type_system.TypeDefinition.{TypeDefinition}
use Rattle.gql_faults.specs.Names.{count_of}
use Rattle.gql_faults.specs.Places.{named}
use Rattle.gql_node_rules.specs.Borrowed.{one}
use Rattle.gql_node_rules.specs.Nodes.{each}
use Rattle.gql_schema_rules.proofs.Distinct.{none_added}
use Rattle.gql_schema_rules.proofs.s01_duplicate_types.check.Goals as goal

pub returns-then-branch : goal.returns-then-branch
returns-then-branch c =
    let names = ap (map named) c.as_slice-2.ensures.value ∙ c.in_ok-names.ensures
    ∙ ap (λ xs. each (λ (d : TypeDefinition). d.name) (map one xs)) c.as_slice.ensures.value in
    none_added rule.S01 (each (λ (d : TypeDefinition). d.name) (map one c.args.nodes.now.types.items)) c.args.faults.now.items
    (λ q. subst (λ xs. count_of q xs ≤ 1) names (c.in_ok-are_distinct.ensures c.if-branch.true q))

use Rattle.std.proofs.Common.{◌≡◌, ◌∙◌, ◌+◌, ℕ, Bool, ap, length}
use Rattle.gql_ast.specs.declared.rule.Rule.TheVariants as rule
use Rattle.gql_ast.specs.declared.type_system.TypeDefinition.{TypeDefinition}
use Rattle.gql_node_rules.specs.Nodes.{each, types}
use Rattle.gql_built_in.specs.BuiltIn.{built_in}
use Rattle.gql_types.specs.Definitions.{of_files, type_definitions}
use Rattle.gql_types.specs.declared.schema.Schema.{Schema}
use Rattle.gql_schema_rules.proofs.DefinedOnce.{are_in_files, defined_once, no_scalar}
use Rattle.gql_schema_rules.proofs.Distinct.{no_repeated}
use Rattle.gql_schema_rules.proofs.KeptChecks.{hold}
use Rattle.gql_schema_rules.proofs.nodes_to_check.are_once.Goals as goal

pub returns-in-Some : goal.returns-in-Some
returns-in-Some c e files floats is checks =
    let held = hold c.args.schema.now files.schema c.args.checks.now checks in
    let built : Bool → ℕ = λ b. length (type_definitions (built_in b)) in
    let counted : length (types (of_files files.schema)) + built c.args.floats ≡ length c.args.schema.now.types =
    ap (λ n. n + built c.args.floats) (c.define_types.ensures e files.schema held) ∙ c.in-Some.ensures in
    let as_many = ap (λ b. length (types (of_files files.schema)) + built b) floats ∙ counted ∙ ap (λ (s : Schema). length s.types) is in
    let placed = are_in_files files.schema in
    record {
      once = no_repeated rule.S01 (each (λ (d : TypeDefinition). d.name) (types (of_files files.schema)))
          (defined_once files.profile.floats (of_files files.schema) placed as_many);
      new = no_scalar files.profile.floats (of_files files.schema) placed as_many;
    }

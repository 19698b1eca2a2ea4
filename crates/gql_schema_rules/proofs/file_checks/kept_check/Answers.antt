use Rattle.std.proofs.Common.{◌≡◌, Some, rules, subst, sym}
use Rattle.gql_ast.specs.FileMaps.{file_named}
use Rattle.gql_types.specs.Schemas.{schema_of}
use Rattle.gql_node_rules.specs.FileChecks.{IsCheckOf}
use Rattle.gql_schema_rules.proofs.KeptChecks.{check_named}
use Rattle.gql_schema_rules.proofs.file_checks.kept_check.Goals as goal

pub returns-then-is_kept : goal.returns-then-is_kept
returns-then-is_kept c = λ after document old were changes there.
    let found : file_named c.args.before.now c.args.name.now ≡ Some c.in-Some.check.now = search rules in
    let other : c.args.name.now ≡ c.args.edited.now → ⊥ = search rules in
    let its = check_named (schema_of old) old.schema c.args.before.now c.args.name.now document c.in-Some.check.now were (there other) found in
    subst (λ x. IsCheckOf after document x) c.get-in-Some.ensures
    (c.is_kept.ensures c.if-is_kept.true document (schema_of old) after (subst (λ x. IsCheckOf (schema_of old) document x) (sym c.get-in-Some.ensures) its) changes)

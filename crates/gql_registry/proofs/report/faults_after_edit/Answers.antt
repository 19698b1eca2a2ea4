use Rattle.std.proofs.Common.{rules, sym, subst}
use Rattle.gql_node_rules.specs.SchemaChanges.{IsChange}
use Rattle.gql_types.specs.Edits.{KeepsOthers}
use Rattle.gql_types.specs.Schemas.{schema_of}
use Rattle.gql_registry.proofs.report.faults_after_edit.Goals as goal

pub after_edit-requires : goal.after_edit-requires
after_edit-requires c = c.requires.schema

pub returns-in_err-change : goal.returns-in_err-change
returns-in_err-change c = search rules

pub returns-in_err-kept : goal.returns-in_err-kept
returns-in_err-kept c = search rules

pub returns : goal.returns
returns c =
    let b = c.requires.before.1 in
    let names = c.args.edited.now in
    let after = c.args.schema.now in
    let keeps : KeepsOthers names (schema_of b.before) after = subst (KeepsOthers names (schema_of b.before)) (sym c.requires.schema) b.edit.keeps in
    let undone : KeepsOthers names after (schema_of b.before) = subst (λ s. KeepsOthers names s (schema_of b.before)) (sym c.requires.schema) b.edit.undone in
    let change : IsChange c.in_ok-change.change (schema_of b.before) after = subst (λ s. IsChange c.in_ok-change.change s after) b.side_of.schema
    (c.in_ok-change.ensures (subst (λ s. KeepsOthers names s after) (sym b.side_of.schema) keeps) (subst (KeepsOthers names after) (sym b.side_of.schema) undone)) in
    c.in_ok-kept.ensures b.before b.side_of.kept b.side_of.schema keeps undone change b.elsewhere

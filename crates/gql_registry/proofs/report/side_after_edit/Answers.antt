use Rattle.std.proofs.Common.{◌∙◌, rules, ap, sym, subst}
use Rattle.gql_facts.specs.Tables.{tables_of}
use Rattle.gql_intro.specs.Made.{made_of}
use Rattle.gql_types.specs.Edits.{KeepsOthers}
use Rattle.gql_types.specs.KeptTypes.{AreKeptAt}
use Rattle.gql_types.specs.Schemas.{schema_of}
use Rattle.gql_registry.specs.Keeping.{IsSideOf}
use Rattle.gql_registry.proofs.Mapped.{ok_of_error}
use Rattle.gql_registry.proofs.report.side_after_edit.Goals as goal

pub assemble_after_edit-requires-clause-others : goal.assemble_after_edit-requires-clause-others
assemble_after_edit-requires-clause-others c = subst (λ s. KeepsOthers c.args.edited.now s (schema_of c.args.files.now)) (sym c.requires.side_of.schema) c.requires.edit.keeps

pub assemble_after_edit-requires-clause-before : goal.assemble_after_edit-requires-clause-before
assemble_after_edit-requires-clause-before c = (c.requires.before, c.requires.side_of.schema, c.requires.side_of.outline, c.requires.files, c.requires.profile)

pub after_edit-requires : goal.after_edit-requires
after_edit-requires c =
    let b = c.requires in
    let s = c.in_ok-schema.field-0.schema in (
      schema_of b.before,
      b.side_of.facts,
      subst (KeepsOthers c.args.edited.now (schema_of b.before)) (sym c.in_ok-schema.ensures.schema) b.edit.keeps,
      subst (λ ps. AreKeptAt (schema_of b.before) s ps) (sym c.as_slice.ensures.value)
          (subst (λ o. AreKeptAt o s c.in_ok-schema.field-0.places.items) b.side_of.schema c.in_ok-schema.ensures.places),
    )

pub faults_after_edit-requires-clause-schema : goal.faults_after_edit-requires-clause-schema
faults_after_edit-requires-clause-schema c = c.in_ok-schema.ensures.schema

pub faults_after_edit-requires-clause-before : goal.faults_after_edit-requires-clause-before
faults_after_edit-requires-clause-before c = (_, c.requires)

pub returns-in_err-schema : goal.returns-in_err-schema
returns-in_err-schema c = search rules

pub returns-in_err-facts : goal.returns-in_err-facts
returns-in_err-facts c = search rules

pub returns-in_err-kept : goal.returns-in_err-kept
returns-in_err-kept c = search rules

pub returns-in_err-made : goal.returns-in_err-made
returns-in_err-made c = search rules

pub returns-in_err-side : goal.returns-in_err-side
returns-in_err-side c = ok_of_error c.from_residual-in_err-side.result (IsSideOf c.args.files.now) _ c.from_residual-in_err-side.ensures.1

pub returns : goal.returns
returns c =
    let b = c.requires in
    let names = c.args.edited.now in
    let s = c.in_ok-schema.field-0.schema in
    let keeps : KeepsOthers names c.args.before.now.schema s = subst (λ o. KeepsOthers names o s) (sym b.side_of.schema)
    (subst (KeepsOthers names (schema_of b.before)) (sym c.in_ok-schema.ensures.schema) b.edit.keeps) in
    let undone : KeepsOthers names s c.args.before.now.schema = subst (λ o. KeepsOthers names s o) (sym b.side_of.schema)
    (subst (λ o. KeepsOthers names o (schema_of b.before)) (sym c.in_ok-schema.ensures.schema) b.edit.undone) in
    c.in_ok-side.ensures c.args.files.now c.in_ok-schema.ensures.schema c.in_ok-schema.ensures.outline
    (c.in_ok-facts.ensures ∙ ap tables_of c.in_ok-schema.ensures.schema)
    (c.in_ok-made.ensures c.requires.before keeps undone (c.requires.side_of.made ∙ ap (made_of c.requires.before) (sym c.requires.side_of.schema)))
    c.in_ok-kept.ensures

use Rattle.std.proofs.Common.{◌++◌, ◌∙◌, ap, map, refl, subst, sym}
use Rattle.std.specs.List.{AllZip}
use Rattle.std.specs.Option.{option_copied}
use Rattle.std.specs.Prelude.{IsTrue}
use Rattle.gql_types.specs.Definitions.{definitions, type_definitions, type_extensions}
use Rattle.gql_types.specs.KeptTypes.{IsConcreteAt, known_place}
use Rattle.gql_types.specs.Outlines.{all_others, edited_files}
use Rattle.gql_types.specs.Sites.{others_in, schema_with}
use Rattle.gql_types.specs.TypesAround.{ArePlaced}
use Rattle.gql_types.proofs.KeptTypes.{kept_places}
use Rattle.gql_types.proofs.Others.{same_schema}
use Rattle.gql_types.proofs.Taken.{others_after, outlines_after, placed, schema_types}
use Rattle.gql_types.proofs.edited_schema.assemble_after_edit.Goals as goal

pub edited_types-requires-clause-placed : goal.edited_types-requires-clause-placed
edited_types-requires-clause-placed c = λ once.
    let was = c.requires.before in
    let outlines = outlines_after was.0 c.args.files.now c.args.name.now (option_copied c.args.document) c.args.outline.now c.in_ok-after.after.files was.2 was.3
    (c.in_ok-after.ensures.files ∙ ap (edited_files c.args.outline.now.files c.args.name.now) c.in_ok-file.ensures) in
    subst (λ s. ArePlaced c.args.name.now (option_copied c.args.document) c.args.files.now c.args.outline.now c.in_ok-after.after s) (sym c.in_ok-edit.ensures.schema)
    (placed was.0 c.args.files.now c.args.name.now (option_copied c.args.document) c.args.before.now c.args.outline.now c.in_ok-after.after was.1 was.2 was.3 was.4 outlines once)

pub schema_with-requires : goal.schema_with-requires
schema_with-requires c =
    let was = c.requires.before in
    let files = c.args.files.now in
    let outlines = outlines_after was.0 files c.args.name.now (option_copied c.args.document) c.args.outline.now c.in_ok-after.after.files was.2 was.3
    (c.in_ok-after.ensures.files ∙ ap (edited_files c.args.outline.now.files c.args.name.now) c.in_ok-file.ensures) in
    let built = c.as_slice-built_in.ensures ∙ c.in_ok-built_in.ensures in
    let others = c.in_ok-others.ensures ∙ ap (λ b. others_in b ++ all_others c.in_ok-after.after.files) built ∙ others_after files c.in_ok-after.after.files outlines in
    let types = schema_types files c.in_ok-edit.edit c.args.edited.now c.args.before.now c.in_ok-others.others c.as_slice-2.result.now c.in_ok-found.found
    c.in_ok-edit.ensures.edited c.in_ok-edit.ensures.schema c.in_ok-edit.ensures.extensions
    (c.as_slice-2.ensures ∙ c.in_ok-extensions.ensures ∙ ap type_extensions c.as_slice.ensures) others c.requires.others c.in_ok-found.ensures.types in
    types.1

pub returns-clause-schema : goal.returns-clause-schema
returns-clause-schema c =
    let was = c.requires.before in
    let files = c.args.files.now in
    let outlines = outlines_after was.0 files c.args.name.now (option_copied c.args.document) c.args.outline.now c.in_ok-after.after.files was.2 was.3
    (c.in_ok-after.ensures.files ∙ ap (edited_files c.args.outline.now.files c.args.name.now) c.in_ok-file.ensures) in
    let built = c.as_slice-built_in.ensures ∙ c.in_ok-built_in.ensures in
    let others = c.in_ok-others.ensures ∙ ap (λ b. others_in b ++ all_others c.in_ok-after.after.files) built ∙ others_after files c.in_ok-after.after.files outlines in
    let types = schema_types files c.in_ok-edit.edit c.args.edited.now c.args.before.now c.in_ok-others.others c.as_slice-2.result.now c.in_ok-found.found
    c.in_ok-edit.ensures.edited c.in_ok-edit.ensures.schema c.in_ok-edit.ensures.extensions
    (c.as_slice-2.ensures ∙ c.in_ok-extensions.ensures ∙ ap type_extensions c.as_slice.ensures) others c.requires.others c.in_ok-found.ensures.types in
    same_schema (definitions files) (type_definitions (definitions files)) c.in_ok-others.others refl others c.in_ok-found.found.types c.in_ok-schema.schema types.0
    (c.in_ok-schema.ensures ∙ ap (schema_with c.in_ok-found.found.types) c.as_slice-3.ensures)

pub returns-clause-outline : goal.returns-clause-outline
returns-clause-outline c =
    let was = c.requires.before in record {
      files = c.known.ensures.files ∙ outlines_after was.0 c.args.files.now c.args.name.now (option_copied c.args.document) c.args.outline.now c.in_ok-after.after.files was.2 was.3
          (c.in_ok-after.ensures.files ∙ ap (edited_files c.args.outline.now.files c.args.name.now) c.in_ok-file.ensures);
      once = λ once. c.in_ok-found.ensures.types.once (subst IsTrue c.known.ensures.once once);
    }

pub returns-clause-places : goal.returns-clause-places
returns-clause-places c =
    let was = c.requires.before in
    kept_places c.args.files.now was.0 c.args.before.now c.in_ok-schema.schema c.in_ok-found.found.types c.in_ok-found.found.places.items was.1
    (returns-clause-schema c) (ap (λ s. s.types) c.in_ok-schema.ensures)
    (subst (λ s. AllZip (IsConcreteAt s.types) c.in_ok-found.found.places.items c.in_ok-found.found.types) c.in_ok-edit.ensures.schema c.in_ok-found.ensures.types.places)

pub returns-clause-exact : goal.returns-clause-exact
returns-clause-exact c =
    c.in_ok-found.ensures.types.exact
    ∙ ((λ k. map (known_place (c.in_ok-edit.ensures.edited k) ((c.in_ok-edit.ensures.schema k).types)) c.in_ok-found.found.types))
    ∙ ap (λ s. map (known_place c.args.edited.now c.args.before.now.types) s.types) (sym c.in_ok-schema.ensures)

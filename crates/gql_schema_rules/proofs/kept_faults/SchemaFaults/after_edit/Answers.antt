use Rattle.std.proofs.Common.{◌∙◌, ap, subst, sym}
use Rattle.gql_types.specs.Edits.{KeepsOthers}
use Rattle.gql_types.specs.Schemas.{schema_of}
use Rattle.gql_types.specs.declared.schema.Schema.{Schema}
use Rattle.gql_iface_rules.specs.Quiet.{IsFound, IsQuiet}
use Rattle.gql_schema_rules.proofs.KeptTypes.{is_not}
use Rattle.gql_schema_rules.proofs.kept_faults.SchemaFaults.after_edit.Goals as goal

pub returns : goal.returns
returns c = λ old before is others undone change differs.
    let s = c.args.schema.now in
    let checks = c.in_ok-checks.ensures old before.checks change differs in
    let found : IsFound s c.in_ok-found.found = c.in_ok-found.ensures
    (subst (λ (o : Schema). KeepsOthers c.args.edited.now o s) (sym is) others)
    (subst (λ (o : Schema). KeepsOthers c.args.edited.now s o) (sym is) undone)
    (λ same. ap (λ (o : Schema). o.directives) is ∙ change.directives (is_not c.args.change.now.directives same))
    (subst (λ (o : Schema). IsQuiet o c.args.before.now.quiet) (sym is) before.quiet) in
    c.in_ok-faults.ensures checks found (c.types_after_edit-types.ensures c.args.edited.now old (c.as_slice-among.ensures.value ∙ c.in_ok-among.ensures) before others change)

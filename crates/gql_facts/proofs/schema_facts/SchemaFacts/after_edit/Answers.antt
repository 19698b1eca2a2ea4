use Rattle.std.proofs.Common.{◌∙◌, ap, map, sym}
use Rattle.gql_types.specs.Possible.{name_of}
use Rattle.gql_facts.specs.declared.schema_facts.TypeEntry.{TypeEntry}
use Rattle.gql_facts.proofs.EditedFacts.{names_of_entries}
use Rattle.gql_facts.proofs.schema_facts.SchemaFacts.after_edit.Goals as goal

pub of_names-requires : goal.of_names-requires
of_names-requires c = ap (map (λ (e : TypeEntry). e.name)) c.in_ok-entries.ensures
    ∙ names_of_entries c.args.schema.now c.args.schema.now.types ∙ ap (map name_of) (sym c.named_types.ensures)

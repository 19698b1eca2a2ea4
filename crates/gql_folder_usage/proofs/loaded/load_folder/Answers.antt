use Rattle.std.proofs.Common.{◌∙◌, ap}
use Rattle.gql_registry.specs.State.{state_of}
use Rattle.gql_types.specs.Schemas.{schema_of}
use Rattle.gql_folder_usage.proofs.Loading.{stored_of}
use Rattle.gql_folder_usage.proofs.loaded.load_folder.Goals as goal

pub returns : goal.returns
returns c =
    let files = (state_of c.in_ok-registry.registry).files in
    record {
      registry = c.in_ok-registry.ensures.loaded;
      sound = c.in_ok-test_schema.ensures;
      schema = c.in_ok-schema.ensures ∙ ap schema_of c.files.ensures;
      stored = stored_of files _ _ _ c.files-2.ensures (c.in_ok-schema.ensures ∙ ap schema_of c.files.ensures) c.in_ok-stored.ensures.facts c.in_ok-stored.ensures.definitions;
    }

-- Helper definitions for private contracts: what a batch of the code has.
use Rattle.std.specs.Prelude.{option_map}
use Rattle.serde_json.specs.View.{members_view, view}
use Rattle.gql_push.specs.Batches as spec
use Rattle.gql_push.specs.declared.batch.Batch.{Batch}

-- what a batch of the code has
abbrev pub said_by : Batch → spec.Batch
said_by b = record {
  schema = members_view b.schema.entries;
  documents = members_view b.documents.entries;
  new_data = option_map view b.new_data;
}

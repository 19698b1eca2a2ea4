use Rattle.std.proofs.Common.{◌≡◌, map}
use Rattle.serde_json.specs.View.{members_view}
use Rattle.gql_manifest.proofs.Listed.{after}
use Rattle.gql_manifest.specs.Entries.{listing_of, texts_by_id}
use Rattle.gql_manifest.proofs.entries.mapped.Given as goal

abbrev pub invariant-loop-id : goal.invariant-loop-id
invariant-loop-id l = after (map listing_of l.entries.items) (texts_by_id (members_view l.id-iterator)) ≡ texts_by_id (members_view l.texts.entries)

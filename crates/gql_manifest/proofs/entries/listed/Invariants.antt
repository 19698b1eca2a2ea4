use Rattle.std.proofs.Common.{◌≡◌, drop, map}
use Rattle.serde_json.specs.View.{items_view}
use Rattle.gql_manifest.proofs.Listed.{after}
use Rattle.gql_manifest.specs.Entries.{listing_of, listings_in}
use Rattle.gql_manifest.proofs.entries.listed.Given as goal

abbrev pub invariant-loop-operation : goal.invariant-loop-operation
invariant-loop-operation l =
    after (map listing_of l.entries.items) (listings_in (items_view (drop l.operation-index l.operations))) ≡ listings_in (items_view l.operations)

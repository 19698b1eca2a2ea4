use Rattle.gql_registry.specs.State.{state_of}
use Rattle.gql_folder_usage.proofs.Loading.{are_stored}
use Rattle.gql_folder_usage.proofs.answer.unread_in.Goals as goal

pub unread_parts-requires : goal.unread_parts-requires
unread_parts-requires c = record { stored = are_stored (state_of c.in_ok-loaded.loaded.registry).files _ _ _ c.in_ok-loaded.ensures.stored c.shelf-shelf.ensures.shelf c.shelf-shelf.ensures.current }

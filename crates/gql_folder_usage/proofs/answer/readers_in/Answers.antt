use Rattle.std.proofs.Common.{subst, sym}
use Rattle.gql_registry.specs.Report.{IsSound}
use Rattle.gql_registry.specs.State.{state_of}
use Rattle.gql_folder_usage.proofs.Loading.{are_stored}
use Rattle.gql_folder_usage.proofs.answer.readers_in.Goals as goal

pub readers_of-requires : goal.readers_of-requires
readers_of-requires c = record { stored = are_stored (state_of c.in_ok-loaded.loaded.registry).files _ _ _ c.in_ok-loaded.ensures.stored c.shelf-shelf.ensures.shelf c.shelf-shelf.ensures.current }

pub faults_brought-requires : goal.faults_brought-requires
faults_brought-requires c = record { sound = subst IsSound (sym c.files.ensures) c.in_ok-loaded.ensures.sound }

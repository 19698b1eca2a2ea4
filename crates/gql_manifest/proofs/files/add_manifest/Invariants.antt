use Rattle.std.proofs.Common.{map, take}
use Rattle.gql_manifest.proofs.GatheredSteps.{Listed}
use Rattle.gql_manifest.specs.Entries.{listing_of}
use Rattle.gql_manifest.proofs.files.add_manifest.Given as goal

abbrev pub invariant-loop-entry : goal.invariant-loop-entry
invariant-loop-entry l = Listed l.path (take l.entry-index (map listing_of l.entry-items)) l.initial.gathered l.gathered

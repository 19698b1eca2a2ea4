use Rattle.std.proofs.Common.{map}
use Rattle.gql_manifest.specs.Files.{Adds, AreBuckets}
use Rattle.gql_manifest.specs.Gathering.{operation_of}
use Rattle.gql_manifest.proofs.files.add_buckets.Given as goal

abbrev pub invariant-loop-bucket : goal.invariant-loop-bucket
invariant-loop-bucket l = Adds (AreBuckets (map operation_of l.operations.entries) l.bucket) l.initial.files.items l.files.items

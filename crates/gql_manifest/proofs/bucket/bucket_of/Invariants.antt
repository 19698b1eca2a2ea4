use Rattle.std.proofs.Common.{◌≡◌, ◌<◌, ◌%◌, take}
use Rattle.gql_manifest.specs.Buckets.{number_of}
use Rattle.gql_manifest.proofs.bucket.bucket_of.Given as goal

abbrev pub invariant-loop-byte : goal.invariant-loop-byte
invariant-loop-byte l = record {
  is : l.number ≡ number_of (take l.byte-index l.bytes) % 65521;
  small : l.number < 65521;
}

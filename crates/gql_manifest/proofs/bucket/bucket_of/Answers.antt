use Rattle.std.proofs.Common.{rules}
use Rattle.gql_manifest.proofs.Hashed.{number_more}
use Rattle.gql_manifest.proofs.bucket.bucket_of.Goals as goal

pub loop-byte-preserved : goal.loop-byte-preserved
loop-byte-preserved c = record {
  is = search (rules, number_more c.as_bytes-bytes.result.now c.loop-byte.byte-index c.loop-byte.number);
  small = search rules;
}

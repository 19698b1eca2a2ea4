use Rattle.std.proofs.Common.{◌∙◌, codes, map, refl}
use Rattle.gql_manifest.proofs.FileSteps.{bucket_more, buckets_none}
use Rattle.gql_manifest.specs.Gathering.{operation_of}
use Rattle.gql_manifest.specs.Packing.{texts_of}
use Rattle.gql_manifest.proofs.files.add_buckets.Goals as goal

pub loop-bucket-init : goal.loop-bucket-init
loop-bucket-init c = buckets_none (map operation_of c.args.operations.now.entries) c.args.files.now.items

pub loop-bucket-preserved : goal.loop-bucket-preserved
loop-bucket-preserved c =
    bucket_more (map operation_of c.args.operations.now.entries) c.loop-bucket.bucket c.args.files.now.items c.loop-bucket.files.items c.add_texts.new.files.items (texts_of c.in_ok-texts.texts.items) c.as_str.result.now
    (codes "operations of manifests") c.loop-bucket.invariant c.in_ok-texts.ensures (c.as_str.ensures.value ∙ c.in_ok-stem.ensures.ok) refl c.in_ok-add_texts.ensures

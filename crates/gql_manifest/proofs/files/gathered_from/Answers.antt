use Rattle.gql_manifest.proofs.GatheredSteps.{all_more, all_none, all_refused, err_of}
use Rattle.gql_manifest.specs.Reading.{IsManifestsFault}
use Rattle.gql_manifest.proofs.files.gathered_from.Goals as goal

pub loop-manifest-init : goal.loop-manifest-init
loop-manifest-init c = all_none c.new-gathered.result c.new-gathered.ensures.operations c.new-gathered.ensures.fragments

pub returns-in_err-add_manifest-clause-err : goal.returns-in_err-add_manifest-clause-err
returns-in_err-add_manifest-clause-err c = err_of (IsManifestsFault c.args.manifests.now) _ _ c.from_residual.ensures.1 (
    all_refused c.args.manifests.now c.loop-manifest.manifest-index c.manifest-item.result c.loop-manifest.gathered c.in_err-add_manifest.field-0.0 c.loop-manifest-test.true c.manifest-item.is c.loop-manifest.invariant
    c.in_err-add_manifest.ensures.err
    )

pub loop-manifest-preserved : goal.loop-manifest-preserved
loop-manifest-preserved c =
    all_more c.args.manifests.now c.loop-manifest.manifest-index c.manifest-item.result c.loop-manifest.gathered c.add_manifest.new.gathered c.loop-manifest-test.true c.manifest-item.is c.loop-manifest.invariant
    c.in_ok-add_manifest.ensures.ok

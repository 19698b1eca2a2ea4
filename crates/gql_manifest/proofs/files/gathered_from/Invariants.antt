use Rattle.std.proofs.Common.{take}
use Rattle.gql_manifest.specs.Reading.{GathersAll}
use Rattle.gql_manifest.proofs.files.gathered_from.Given as goal

abbrev pub invariant-loop-manifest : goal.invariant-loop-manifest
invariant-loop-manifest l = GathersAll (take l.manifest-index l.manifests) l.gathered

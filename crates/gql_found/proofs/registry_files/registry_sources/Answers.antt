use Rattle.gql_found.proofs.RegistryFiles.{indices_more, texts_more}
use Rattle.gql_found.proofs.registry_files.registry_sources.Goals as goal

pub loop-file-init : goal.loop-file-init
loop-file-init c = (c.new-sources.ensures.listed, c.new-sources.ensures.names)

pub loop-file-preserved : goal.loop-file-preserved
loop-file-preserved c =
    let ts = c.args.files.now in
    let i = c.loop-file.file-index in
    let t = c.file-item.result in
    let old = c.loop-file.sources in
    let new = c.add_file.new.sources in (
      texts_more ts i t c.loop-file-test.true c.file-item.is old new c.loop-file.invariant.0 c.in_ok-add_file.ensures.listed,
      indices_more ts i t c.loop-file-test.true c.file-item.is old new c.loop-file.invariant.0 c.loop-file.invariant.1 c.in_ok-add_file.ensures.names,
    )

use Rattle.std.proofs.Common.{◌∙◌, [], refl, subst, sym}
use Rattle.std.specs.List.{AllZip}
use Rattle.gql_check.proofs.Lists.{zip_more}
use Rattle.gql_check.specs.GivenSources.{IsSource}
use Rattle.gql_check.proofs.sources.add_given.Goals as goal

pub loop-file-init : goal.loop-file-init
loop-file-init c = (subst (AllZip (IsSource c.args.folder.now) []) (sym c.requires) tt, λ other q. refl)

pub loop-file-preserved : goal.loop-file-preserved
loop-file-preserved c = (
  zip_more (IsSource c.args.folder.now) c.args.files.now _ _ c.loop-file.file-index c.file-item.result _
      c.loop-file-test.true c.file-item.is c.loop-file.invariant.0 c.in_ok-source.ensures c.in_ok-push.ensures.listed,
  λ other q. c.in_ok-push.ensures.names other q ∙ c.loop-file.invariant.1 other q,
)

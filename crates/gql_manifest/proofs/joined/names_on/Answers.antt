use Rattle.gql_manifest.proofs.JoinedSteps.{names_none, names_step}
use Rattle.gql_manifest.proofs.joined.names_on.Goals as goal

pub loop-at-init : goal.loop-at-init
loop-at-init c = names_none c.args.most c.args.side c.args.files.now c.new-names.result c.new-names.ensures.empty

pub loop-at-preserved : goal.loop-at-preserved
loop-at-preserved c =
    names_step c.args.most c.args.side c.args.files.now c.loop-at.at c.loop-at.names c.add_name.new.names c.index-files-at.result c.as_str.result.now c.loop-at.invariant c.loop-at-test.true c.index-files-at.is
    c.as_str.ensures.value c.in_ok-add_name.ensures

use Rattle.std.proofs.Common.{map}
use Rattle.gql_manifest.proofs.FileSteps.{few_files, few_operations, own_more}
use Rattle.gql_manifest.specs.Gathering.{operation_of}
use Rattle.gql_manifest.proofs.files.add_operations.Goals as goal

pub loop-name-preserved : goal.loop-name-preserved
loop-name-preserved c =
    own_more c.loop-name.files.items c.add_operation.new.files.items c.loop-name.name-iterator c.next.new.self c.in-Some.name c.in-Some.operation _ c.loop-name.invariant c.in-Some.ensures.steps c.in_ok-add_operation.ensures

pub returns : goal.returns
returns c =
    few_files (map operation_of c.args.operations.entries) c.loop-name.name-iterator c.args.files.now.items c.loop-name.files.items
    (few_operations c.args.operations.entries c.len.result c.len.ensures.len c.if-len-gt-MAX_OWN_FILES.false) c.loop-name.invariant c.in-None.ensures.steps.0

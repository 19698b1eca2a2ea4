use Rattle.std.proofs.Common.{arith}
use Rattle.gql_manifest.proofs.JoinedSteps.{apart_all, apart_more, found_free, found_taken, join_fault}
use Rattle.gql_manifest.proofs.joined.stay_apart.Goals as goal

pub returns-in-Some-clause-err : goal.returns-in-Some-clause-err
returns-in-Some-clause-err c =
    join_fault c.args.most c.args.files.now c.args.made.now c.loop-one.one-index c.one-item.result c.in-Some.file.now c.as_str.result.now c.in_ok-clash.field-0 c.loop-one-test.true c.one-item.is c.as_str.ensures.value
    (found_taken c.args.most c.args.files.now c.as_str.result.now c.in_ok-found.found c.in-Some.file c.in_ok-found.ensures c.in-Some.is) c.in_ok-clash.ensures

pub loop-one-preserved : goal.loop-one-preserved
loop-one-preserved c =
    apart_more c.args.most c.args.files.now c.args.made.now c.loop-one.one-index c.one-item.result c.as_str.result.now c.loop-one.invariant c.loop-one-test.true c.one-item.is c.as_str.ensures.value (found_free c.args.most c.args.files.now c.as_str.result.now c.in_ok-found.found c.in_ok-found.ensures c.in_default.is)

pub returns-clause-apart : goal.returns-clause-apart
returns-clause-apart c = apart_all c.args.most c.args.files.now c.args.made.now c.loop-one.one-index c.loop-one.invariant (omega arith)

use Rattle.std.proofs.Common.{rules, ◌≡◌, false, true, length, slice_get, sym}
use Rattle.gql_push.proofs.SameOwners.{all_same, not_same, not_same_at, same_more}
use Rattle.gql_push.specs.Unserved.{is_same_if_some}
use Rattle.gql_push.proofs.unserved.are_same.Goals as goal

pub returns-then-not-is_same_at : goal.returns-then-not-is_same_at
returns-then-not-is_same_at c =
    let long : length c.args.these.now ≡ length c.args.those.now = search rules in
    let other : false ≡ is_same_if_some c.index-these-at.result (slice_get c.args.those.now c.loop-at.at) = search rules in
    sym (not_same_at c.args.these.now c.args.those.now c.loop-at.at c.index-these-at.result long c.loop-at-test.true c.index-these-at.is other c.loop-at.invariant)

pub loop-at-preserved : goal.loop-at-preserved
loop-at-preserved c =
    let long : length c.args.these.now ≡ length c.args.those.now = search rules in
    let same : true ≡ is_same_if_some c.index-these-at.result (slice_get c.args.those.now c.loop-at.at) = search rules in
    same_more c.args.these.now c.args.those.now c.loop-at.at c.index-these-at.result long c.loop-at-test.true c.index-these-at.is same c.loop-at.invariant

pub returns : goal.returns
returns c =
    let long : length c.args.these.now ≡ length c.args.those.now = search rules in
    let end : c.loop-at.at ≡ length c.args.these.now = search rules in
    sym (all_same c.args.these.now c.args.those.now c.loop-at.at long end c.loop-at.invariant)

pub returns-then-these-those : goal.returns-then-these-those
returns-then-these-those c = sym (not_same c.args.these.now c.args.those.now (search rules))

use Rattle.std.proofs.Common.{◌≡◌, bytes_eq, rules, true}
use Rattle.std.specs.List.{list_any}
use Rattle.gql_merge.proofs.CleanNames.{name_there}
use Rattle.gql_merge.specs.Between.{name_of}
use Rattle.gql_pairs.proofs.Grown.{within_more}
use Rattle.gql_pairs.proofs.growing.is_within.Goals as goal

pub loop-member-preserved : goal.loop-member-preserved
loop-member-preserved c =
    let x = c.member-item.result in
    let found : list_any (bytes_eq (name_of x.fragment)) c.args.names.now.keys ≡ true = search rules in
    within_more c.members-member-items.result.now c.loop-member.member-index x c.loop-member-test.true c.member-item.is c.args.names.now.keys c.loop-member.invariant
    (name_there c.args.names.now.keys (name_of x.fragment) found)

use Rattle.std.proofs.Common.{rules}
use Rattle.gql_pairs.specs.Groups.{HasMember}
use Rattle.gql_pairs.proofs.Certifying.{both_named}
use Rattle.gql_pairs.proofs.group.Group.has.Goals as goal

pub returns : goal.returns
returns c =
    let first : HasMember c.args.self.now.members c.args.first.now = search rules in
    both_named c.args.self.now c.args.first.now c.args.second.now c.has_name-2.result first c.has_name-2.ensures

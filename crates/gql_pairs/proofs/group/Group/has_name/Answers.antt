use Rattle.std.proofs.Common.{◌≡◌, None, Some, bytes_eq, find, rules}
use Rattle.gql_merge.specs.Between.{name_of}
use Rattle.gql_pairs.specs.Fragments.{KeptFragment}
use Rattle.gql_pairs.proofs.Certifying.{named_found, not_named}
use Rattle.gql_pairs.proofs.group.Group.has_name.Goals as goal

pub returns-in_default : goal.returns-in_default
returns-in_default c =
    let none : find (λ (y : KeptFragment). bytes_eq c.args.name.now (name_of y.fragment)) c.args.self.now.members ≡ None = search rules in
    λ h. not_named c.args.name.now c.args.self.now.members h.0 none h.1 h.2

pub returns : goal.returns
returns c =
    let some : find (λ (y : KeptFragment). bytes_eq c.args.name.now (name_of y.fragment)) c.args.self.now.members ≡ Some c.in-Some._member.now = search rules in
    let f = named_found c.args.name.now c.args.self.now.members c.in-Some._member.now some in
    (c.in-Some._member.now, f.0, f.1)

use Rattle.std.proofs.Common.{◌≡◌, Contains, rules, subst}
use Rattle.gql_merge.specs.Between.{name_of}
use Rattle.gql_pairs.specs.Groups.{HasMember, IsCertified}
use Rattle.gql_pairs.proofs.Certifying.{pair_certified, pair_made}
use Rattle.gql_pairs.proofs.group.Group.pair.Goals as goal

pub returns-in_default-clause-value : goal.returns-in_default-clause-value
returns-in_default-clause-value c =
    let never : HasMember c.args.self.now.members c.args.first.now → ⊥ = search rules in
    λ k p. never (p.left, p.is_left, p.first)

pub returns-in_default-member-clause-value : goal.returns-in_default-member-clause-value
returns-in_default-member-clause-value c =
    let never : HasMember c.args.self.now.members c.args.second.now → ⊥ = search rules in
    λ k p. never (p.right, p.is_right, p.second)

pub returns-clause-value : goal.returns-clause-value
returns-clause-value c =
    let one : Contains c.args.self.now.members c.in-Some.one.now × (name_of c.in-Some.one.now.fragment ≡ c.args.first.now) = search rules in
    let other : Contains c.args.self.now.members c.in-Some-member.other.now × (name_of c.in-Some-member.other.now.fragment ≡ c.args.second.now) = search rules in
    pair_made c.args.self.now c.args.first.now c.args.second.now c.in-Some.one.now c.in-Some-member.other.now one other c.as_slice.result.now c.in_ok-bad.bad.items _ _
    (search rules) c.in_ok-bad.ensures c.in_ok-copy.ensures c.in_ok-copy-2.ensures

pub returns-clause-certificate : goal.returns-clause-certificate
returns-clause-certificate c = pair_certified c.args.self.now c.args.first.now c.args.second.now _ (subst IsCertified c.self.view_is c.self.invariant) (returns-clause-value c)

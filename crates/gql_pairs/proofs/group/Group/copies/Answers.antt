use Rattle.std.proofs.Common.{◌≡◌, ◌∙◌, Contains, List, rules, subst}
use Rattle.std.proofs.lemmas.List.{take_all}
use Rattle.gql_pairs.specs.Fragments.{KeptFragment}
use Rattle.gql_pairs.specs.Groups.{IsCertified}
use Rattle.gql_pairs.proofs.group.Group.copies.Goals as goal

pub returns-clause-certificate : goal.returns-clause-certificate
returns-clause-certificate c =
    let all : c.as_slice-members.result.now ≡ c.args.self.now.members = search rules in
    let same : c.loop-member.copies.items ≡ c.args.self.now.members = c.loop-member.invariant ∙ (take_all _ _ c.loop-member-test.false ∙ all) in
    λ x k. (subst IsCertified c.self.view_is c.self.invariant).each x (subst (λ (l : List KeptFragment). Contains l x) same k)

use Rattle.std.proofs.Common.{◌≡◌, List, rules, subst, sym}
use Rattle.gql_merge.specs.declared.two_fragments.FragmentClash.{FragmentClash}
use Rattle.gql_pairs.specs.Fragments.{KeptFragment}
use Rattle.gql_pairs.specs.Groups.{IsCertified, KeptGroup}
use Rattle.gql_pairs.proofs.Certifying.{fewer_certified}
use Rattle.gql_pairs.proofs.group.Group.with_members.Goals as goal

abbrev group_from : List KeptFragment → List FragmentClash → KeptGroup
group_from xs clashes = record { members = xs; clashes = clashes }

pub invariant_of-result : goal.invariant_of-result
invariant_of-result c =
    let made = fewer_certified c.args.self.now c.args.members.items c.requires (subst IsCertified c.self.view_is c.self.invariant) in
    let members : c.in_ok-new.field-0 ≡ c.args.members.items = search rules in
    let clashes : c.in_ok-clone.field-0.items ≡ c.args.self.now.clashes = search rules in
    subst (λ xs. IsCertified (group_from xs c.in_ok-clone.field-0.items)) (sym members) (subst (λ cs. IsCertified (group_from c.args.members.items cs)) (sym clashes) made)

use Rattle.std.proofs.Common.{◌≡◌, [], List, rules, subst, sym}
use Rattle.gql_merge.specs.declared.two_fragments.FragmentClash.{FragmentClash}
use Rattle.gql_pairs.specs.Fragments.{KeptFragment}
use Rattle.gql_pairs.specs.Groups.{IsCertified, KeptGroup}
use Rattle.gql_pairs.proofs.Certifying.{clean_certified}
use Rattle.gql_pairs.proofs.group.clean_group.Goals as goal

abbrev group_from : List KeptFragment → List FragmentClash → KeptGroup
group_from xs clashes = record { members = xs; clashes = clashes }

pub invariant_of-result : goal.invariant_of-result
invariant_of-result c =
    let made = clean_certified c.args.members.items c.requires.clean c.requires.certified in
    let none : c.in_ok-clashes.clashes.items ≡ [] = search rules in
    subst (λ (xs : List KeptFragment). IsCertified (group_from xs c.in_ok-clashes.clashes.items)) (sym c.in_ok-members.ensures)
    (subst (λ (cs : List FragmentClash). IsCertified (group_from c.args.members.items cs)) (sym none) made)

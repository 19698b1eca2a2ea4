use Rattle.std.proofs.Common.{◌≡◌, ◌∙◌, [], Contains, List, ap, flat_map, map, subst, sym}
use Rattle.gql_facts.specs.Members.{Lists}
use Rattle.gql_facts.specs.declared.fact.FragmentFact.{FragmentFact}
use Rattle.gql_merge.specs.BadPairs.{AreClosed, IsClashOfTwo}
use Rattle.gql_merge.specs.declared.two_fragments.FragmentClash.{FragmentClash}
use Rattle.gql_pairs.specs.Fragments.{KeptFragment, with_reached}
use Rattle.gql_pairs.specs.Gathering.{Gathers}
use Rattle.gql_pairs.specs.Groups.{IsCertified, KeptGroup}
use Rattle.gql_pairs.proofs.Certifying.{among, group_certified, shut}
use Rattle.gql_pairs.proofs.group.group_of.Goals as goal

pub fragment_clashes-requires-clause-members : goal.fragment_clashes-requires-clause-members
fragment_clashes-requires-clause-members g c =
    let F = g.W.World.facts c.args.world.now in
    let xs = c.args.members.items in
    subst (λ (l : List FragmentFact). AreClosed F l) (sym c.as_slice-3.ensures.value)
    (shut F _ (g.met.W.World.is_world c.args.world.now) xs (λ x k. c.requires.certified x k F (c.requires.hold x k)) c.in_ok-reached.reached.items
    (subst (λ (ys : List KeptFragment). Gathers (Contains (flat_map with_reached ys)) [] c.in_ok-reached.reached.items) c.as_slice.ensures.value c.in_ok-reached.ensures))

pub fragment_clashes-requires-clause-among : goal.fragment_clashes-requires-clause-among
fragment_clashes-requires-clause-among g c =
    let F = g.W.World.facts c.args.world.now in
    let xs = c.args.members.items in
    let is : c.as_slice-4.result.now ≡ map (λ (x : KeptFragment). x.fragment) xs =
    c.as_slice-4.ensures.value ∙ c.in_ok-fragments.ensures ∙ ap (map (λ (x : KeptFragment). x.fragment)) c.as_slice-2.ensures.value in
    λ x h. subst (λ (l : List FragmentFact). Contains l x) (sym c.as_slice-3.ensures.value)
    (among F _ (g.met.W.World.is_world c.args.world.now) xs (λ x k. c.requires.certified x k F (c.requires.hold x k)) c.in_ok-reached.reached.items
    (subst (λ (ys : List KeptFragment). Gathers (Contains (flat_map with_reached ys)) [] c.in_ok-reached.reached.items) c.as_slice.ensures.value c.in_ok-reached.ensures)
    x (subst (λ (l : List FragmentFact). Contains l x) is h))

abbrev group_from : List KeptFragment → List FragmentClash → KeptGroup
group_from xs clashes = record { members = xs; clashes = clashes }

pub invariant_of-result : goal.invariant_of-result
invariant_of-result g c =
    let F = g.W.World.facts c.args.world.now in
    let xs = c.args.members.items in
    let is : c.as_slice-4.result.now ≡ map (λ (x : KeptFragment). x.fragment) xs =
    c.as_slice-4.ensures.value ∙ c.in_ok-fragments.ensures ∙ ap (map (λ (x : KeptFragment). x.fragment)) c.as_slice-2.ensures.value in
    let made : IsCertified (group_from xs c.in_ok-clashes.clashes.items) = group_certified F xs c.in_ok-clashes.clashes.items c.requires.certified c.requires.hold
    (subst (λ (l : List FragmentFact). Lists c.in_ok-clashes.clashes.items (IsClashOfTwo F l)) is c.in_ok-clashes.ensures.found) in
    subst (λ ms. IsCertified (group_from ms c.in_ok-clashes-2.clashes.items)) (sym c.in_ok-members.ensures)
    (subst (λ v. IsCertified (group_from xs v.items)) (sym c.in_ok-clashes-2.ensures) made)

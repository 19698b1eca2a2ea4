use Rattle.std.proofs.Common.{◌≡◌, ◌∙◌, List, ap, rules, subst, sym}
use Rattle.std.specs.Prelude.{ℕ}
use Rattle.gql_merge.specs.Between.{name_of}
use Rattle.gql_reads.specs.Observations.{Hold}
use Rattle.gql_pairs.specs.Fragments.{IsCertified, KeptFragment}
use Rattle.gql_pairs.specs.Tables.{IsKnown}
use Rattle.gql_pairs.proofs.Covered.{known_fragment, known_holds}
use Rattle.gql_pairs.proofs.Results.{if_ok}
use Rattle.gql_pairs.proofs.members.member_for.Goals as goal

pub returns-in-Some-clause-fragment : goal.returns-in-Some-clause-fragment
returns-in-Some-clause-fragment g c =
    let F = g.W.World.facts c.args.world.now in
    let f = c.args.fragment.now in
    let x = c.in-Some.member.now in
    let name : c.as_str.result.now ≡ name_of f = search rules in
    let known : IsKnown c.args.groups.now (name_of f) x = subst (λ (n : List ℕ). IsKnown c.args.groups.now n x) name c.in-Some.ensures.value in
    if_ok (λ (m : KeptFragment). m ≡ x) (λ (m : KeptFragment). m.fragment ≡ f) c.copy.result c.copy.ensures
    (λ m e. ap (λ (m : KeptFragment). m.fragment) e ∙ known_fragment F c.args.groups.now c.requires.groups f x known c.requires.named c.in-Some.ensures.certificate)

pub returns-in-Some-clause-hold : goal.returns-in-Some-clause-hold
returns-in-Some-clause-hold g c =
    let F = g.W.World.facts c.args.world.now in
    let f = c.args.fragment.now in
    let x = c.in-Some.member.now in
    let name : c.as_str.result.now ≡ name_of f = search rules in
    let known : IsKnown c.args.groups.now (name_of f) x = subst (λ (n : List ℕ). IsKnown c.args.groups.now n x) name c.in-Some.ensures.value in
    if_ok (λ (m : KeptFragment). m ≡ x) (λ (m : KeptFragment). Hold F m.observations) c.copy.result c.copy.ensures
    (λ m e. subst (λ (m : KeptFragment). Hold F m.observations) (sym e) (known_holds F c.args.groups.now c.requires.groups f x known))

pub returns-in-Some-clause-certificate : goal.returns-in-Some-clause-certificate
returns-in-Some-clause-certificate g c =
    if_ok (λ (m : KeptFragment). m ≡ c.in-Some.member.now) IsCertified c.copy.result c.copy.ensures
    (λ m e. subst IsCertified (sym e) c.in-Some.ensures.certificate)

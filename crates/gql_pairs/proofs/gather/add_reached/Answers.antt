use Rattle.std.proofs.Common.{◌≡◌, ◌∙◌, Contains, List, ap, subst}
use Rattle.gql_facts.specs.declared.fact.FragmentFact.{FragmentFact}
use Rattle.gql_reads.specs.Readings.{members_of}
use Rattle.gql_pairs.specs.Gathering.{Gathers}
use Rattle.gql_pairs.proofs.Gathered.{gathers_reached}
use Rattle.gql_pairs.proofs.gather.add_reached.Goals as goal

pub returns-clause-gathered : goal.returns-clause-gathered
returns-clause-gathered c =
    let a = c.args.found.now.fragments.items in
    let b = c.add_once.new.found.fragments.items in
    let d = c.add_parts.new.found.fragments.items in
    gathers_reached c.args.member.now a b d (subst (λ (f : FragmentFact). Gathers (λ g. g ≡ f) a b) c.fragment.ensures c.in_ok-add_once.ensures.gathered)
    (subst (λ (l : List FragmentFact). Gathers (Contains l) b d) (ap members_of c.as_slice.ensures.value ∙ c.reading.ensures.reached) c.in_ok-add_parts.ensures.gathered)

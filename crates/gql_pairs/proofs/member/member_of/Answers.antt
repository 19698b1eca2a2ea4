use Rattle.std.proofs.Common.{◌∷◌, subst, sym}
use Rattle.gql_facts.specs.Members.{Lists}
use Rattle.gql_facts.specs.Reads.{Reaches, Reads}
use Rattle.gql_facts.specs.declared.fact.FragmentFact.{FragmentFact}
use Rattle.gql_reads.specs.Observations.{Hold, keys_of}
use Rattle.gql_reads.specs.Readings.{flat, members_of, own_name}
use Rattle.gql_reads.specs.declared.reading.Reading.{Reading}
use Rattle.gql_pairs.specs.Fragments.{IsCertified, KeptFragment}
use Rattle.gql_pairs.proofs.Certifying.{certified, named_hold, named_right}
use Rattle.gql_pairs.proofs.member.member_of.Goals as goal

abbrev member_from : FragmentFact → Reading → KeptFragment
member_from g r = record { fragment = g; reached = members_of r.parts.items; observations = own_name g ∷ flat r }

pub returns-clause-hold : goal.returns-clause-hold
returns-clause-hold g c =
    let F = g.W.World.facts c.args.world.now in
    let d = c.args.fragment.now in
    subst (λ f. Hold F (own_name f ∷ flat c.in_ok-reading.reading)) (sym c.in_ok-fragment.ensures)
    (subst (λ r. Hold F (own_name d ∷ flat r)) (sym c.in_ok-reading.ensures) (named_hold F d c.requires.named (flat c.in_ok-read.read) c.in_ok-read.ensures.hold))

pub returns-clause-certificate : goal.returns-clause-certificate
returns-clause-certificate g c =
    let F = g.W.World.facts c.args.world.now in
    let d = c.args.fragment.now in
    let r = c.in_ok-read.read in
    let is = c.in_ok-definition.ensures in
    let right = named_right F d c.requires.named (flat r) c.in_ok-read.ensures.hold (members_of r.parts.items)
    (subst (λ z. Lists (members_of r.parts.items) (Reaches F z)) is c.in_ok-read.ensures.members)
    (subst (λ z. Lists (keys_of (flat r)) (Reads F z)) is c.in_ok-read.ensures.keys) in
    let made = certified F (member_from d r) right (named_hold F d c.requires.named (flat r) c.in_ok-read.ensures.hold) in
    subst (λ f. IsCertified (member_from f c.in_ok-reading.reading)) (sym c.in_ok-fragment.ensures)
    (subst (λ s. IsCertified (member_from d s)) (sym c.in_ok-reading.ensures) made)

use Rattle.std.proofs.Common.{◌≡◌, ◌∙◌, List, Some, ap, rules, slice_get, subst, sym}
use Rattle.gql_facts.specs.ListMembers.{some_same}
use Rattle.gql_facts.specs.Members.{Lists}
use Rattle.gql_reads.specs.Records.{IsTold, Kept}
use Rattle.gql_reads.specs.declared.observation.Answer.{Answer}
use Rattle.gql_reads.proofs.Meeting.{here_at, meets_told}
use Rattle.gql_reads.proofs.Recorded.{told_named}
use Rattle.gql_reads.proofs.Takes.{at_there}
use Rattle.gql_reads.proofs.reading.visit.Goals as goal

pub meet_all-requires-clause-named : goal.meet_all-requires-clause-named
meet_all-requires-clause-named g c f h =
    let F = g.W.World.facts c.args.world.now in
    let p = c.in-Some.part.now in
    let here : slice_get c.args.met.now.parts.items c.args.at ≡ Some p = here_at c.args.met.now.parts.items c.as_slice.result.now c.args.at c.part_at.result c.in-Some.part c.as_slice.ensures.value c.part_at.ensures c.in-Some.is in
    let seen : c.get.result.now ≡ p.seen = search rules in
    told_named F (g.W.World.names c.args.world.now) (g.met.W.World.is_world c.args.world.now) p.seen f
    (c.requires.met.each p (at_there c.args.met.now.parts.items c.args.at p here)).seen.hold
    (subst (λ (os : List Answer). IsTold os f) seen (c.spreads.ensures.sound f h))

pub returns-clause-meets : goal.returns-clause-meets
returns-clause-meets g c p at =
    let q = c.in-Some.part.now in
    let here : slice_get c.args.met.now.parts.items c.args.at ≡ Some q = here_at c.args.met.now.parts.items c.as_slice.result.now c.args.at c.part_at.result c.in-Some.part c.as_slice.ensures.value c.part_at.ensures c.in-Some.is in
    let e : q ≡ p = some_same q p (sym here ∙ at) in
    let seen : c.get.result.now ≡ q.seen = search rules in
    meets_told c.spreads.result.now p.seen c.args.met.now.parts.items c.meet_all.new.met.parts.items
    (subst (λ (os : List Answer). Lists c.spreads.result.now (IsTold os)) (seen ∙ ap (λ (x : Kept). x.seen) e) c.spreads.ensures) c.in_ok-meet_all.ensures.meets

use Rattle.std.proofs.Common.{◌≡◌, ◌∙◌, ◌∷◌, ◌++◌, [], List, rules, subst, sym}
use Rattle.std.specs.Prelude.{MatchBool}
use Rattle.gql_reads.specs.Observations.{Hold, IsBroken, observed_in}
use Rattle.gql_facts.specs.Worlds.{Facts}
use Rattle.gql_facts.specs.declared.fact.FragmentFact.{FragmentFact}
use Rattle.gql_reads.specs.Readings.{own_name, seen_in}
use Rattle.gql_reads.specs.Records.{Kept}
use Rattle.gql_reads.specs.declared.observation.Answer.{Answer}
use Rattle.gql_reads.specs.declared.observation.Observation.{Observation}
use Rattle.gql_pairs.specs.Fragments.{IsFragmentOfName}
use Rattle.gql_pairs.specs.Doubts.{HoldUndoubted}
use Rattle.gql_pairs.proofs.Doubting.{held_name, held_own, held_parts}
use Rattle.gql_pairs.proofs.Holding.{either_way, name_broken, own_broken}
use Rattle.gql_pairs.proofs.holds.member_holds.Goals as goal

pub returns-then-not-is_named-clause-answer : goal.returns-then-not-is_named-clause-answer
returns-then-not-is_named-clause-answer g c =
    let F = g.W.World.facts c.args.world.now in
    let r = c.reading-reading.result.now in
    let x = c.args.member.now.fragment in
    let never : IsFragmentOfName F x → ⊥ = search rules in
    subst (λ (os : List Observation). IsBroken F os) (sym c.reading-reading.ensures.observations) (name_broken F x (observed_in r.own.record) (seen_in r.parts.items) never)

pub returns-then-not-own-clause-answer : goal.returns-then-not-own-clause-answer
returns-then-not-own-clause-answer g c =
    let F = g.W.World.facts c.args.world.now in
    let r = c.reading-reading.result.now in
    let broken : IsBroken F (observed_in r.own.record) = search rules in
    subst (λ (os : List Observation). IsBroken F os) (sym c.reading-reading.ensures.observations) (own_broken F c.args.member.now.fragment (observed_in r.own.record) (seen_in r.parts.items) broken)

pub returns-clause-answer : goal.returns-clause-answer
returns-clause-answer g c =
    let F = g.W.World.facts c.args.world.now in
    let r = c.reading-reading.result.now in
    let named : IsFragmentOfName F c.args.member.now.fragment = search rules in
    let own : Hold F (observed_in r.own.record) = search rules in
    let answer : MatchBool c.in_ok-hold.hold (Hold F (seen_in r.parts.items)) (IsBroken F (seen_in r.parts.items)) = search rules in
    either_way F c.args.member.now.fragment (observed_in r.own.record) (seen_in r.parts.items) c.in_ok-hold.hold c.args.member.now.observations c.reading-reading.ensures.observations named own answer

pub is_still_named-requires : goal.is_still_named-requires
is_still_named-requires g c =
    let F = g.W.World.facts c.args.world.now in
    let r = c.reading-reading.result.now in
    let x = c.args.member.now.fragment in
    let same : c.fragment.result.now ≡ x = search rules in
    let held : HoldUndoubted F c.args.doubt.now (own_name x ∷ (observed_in r.own.record ++ seen_in r.parts.items)) = subst (λ (os : List Observation). HoldUndoubted F c.args.doubt.now os) c.reading-reading.ensures.observations c.requires in
    subst (λ (y : FragmentFact). HoldUndoubted F c.args.doubt.now (own_name y ∷ [])) (sym same) (held_name F c.args.doubt.now x (observed_in r.own.record) (seen_in r.parts.items) held)

pub answers_still_hold-requires : goal.answers_still_hold-requires
answers_still_hold-requires g c =
    let F = g.W.World.facts c.args.world.now in
    let r = c.reading-reading.result.now in
    let x = c.args.member.now.fragment in
    let own : c.answers.result.now ≡ r.own.record = search rules in
    let held : HoldUndoubted F c.args.doubt.now (own_name x ∷ (observed_in r.own.record ++ seen_in r.parts.items)) = subst (λ (os : List Observation). HoldUndoubted F c.args.doubt.now os) c.reading-reading.ensures.observations c.requires in
    subst (λ (G : Facts). HoldUndoubted G c.args.doubt.now (observed_in c.answers.result.now)) (sym c.is_still_named.ensures.facts)
    (subst (λ (xs : List Answer). HoldUndoubted F c.args.doubt.now (observed_in xs)) (sym own) (held_own F c.args.doubt.now x (observed_in r.own.record) (seen_in r.parts.items) held))

pub parts_hold-requires : goal.parts_hold-requires
parts_hold-requires g c =
    let F = g.W.World.facts c.args.world.now in
    let r = c.reading-reading.result.now in
    let x = c.args.member.now.fragment in
    let parts : c.as_slice.result.now ≡ r.parts.items = search rules in
    let held : HoldUndoubted F c.args.doubt.now (own_name x ∷ (observed_in r.own.record ++ seen_in r.parts.items)) = subst (λ (os : List Observation). HoldUndoubted F c.args.doubt.now os) c.reading-reading.ensures.observations c.requires in
    subst (λ (G : Facts). HoldUndoubted G c.args.doubt.now (seen_in c.as_slice.result.now)) (sym (c.answers_still_hold.ensures.facts ∙ c.is_still_named.ensures.facts))
    (subst (λ (ps : List Kept). HoldUndoubted F c.args.doubt.now (seen_in ps)) (sym parts) (held_parts F c.args.doubt.now x (observed_in r.own.record) (seen_in r.parts.items) held))

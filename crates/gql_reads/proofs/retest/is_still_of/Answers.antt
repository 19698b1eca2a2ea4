use Rattle.std.specs.Prelude.{MatchBool}
use Rattle.std.proofs.Common.{◌≡◌, rules, subst, Bool, List}
use Rattle.gql_reads.specs.Observations.{Hold, IsBroken, observed_in}
use Rattle.gql_reads.specs.Records.{IsCertified}
use Rattle.gql_reads.specs.declared.observation.Answer.{Answer}
use Rattle.gql_reads.proofs.Meeting.{record_stays}
use Rattle.gql_reads.proofs.retest.is_still_of.Goals as goal

pub returns-clause-seen : goal.returns-clause-seen
returns-clause-seen g c = λ yes.
    let F = g.W.World.facts c.args.world.now in
    let p = c.args.part.now in
    let same : p.fragment ≡ c.args.fragment.now = search rules in
    let seen : c.answers.result.now ≡ p.seen = search rules in
    let hold : Hold F (observed_in c.answers.result.now) =
    subst (λ (b : Bool). MatchBool b (Hold F (observed_in c.answers.result.now)) (IsBroken F (observed_in c.answers.result.now))) yes c.in_ok-hold.ensures.answer in
    record_stays F c.args.fragment.now p same (subst (λ (xs : List Answer). IsCertified p.fragment xs) c.seen.ensures.value c.seen.ensures.certificate) (subst (λ (xs : List Answer). Hold F (observed_in xs)) seen hold)

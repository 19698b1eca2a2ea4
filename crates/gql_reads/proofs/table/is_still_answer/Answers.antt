use Rattle.std.proofs.Common.{◌≡◌, ◌∙◌, List, ap, rules, subst, sym}
use Rattle.gql_reads.specs.Observations.{Hold, about_all}
use Rattle.gql_reads.specs.declared.observation.TypeAnswers.{TypeAnswers}
use Rattle.gql_reads.proofs.Held.{answer_held}
use Rattle.gql_reads.proofs.table.is_still_answer.Goals as goal

pub returns-clause-answer : goal.returns-clause-answer
returns-clause-answer g c = λ yes led.
    let F = g.W.World.facts c.args.world.now in
    let a = c.args.answer.now in
    let key : a.observation.key ≡ c.args.key.now = search rules in
    let fact : a.observation.fact ≡ c.args.fact.now = search rules in
    let types : Hold F (about_all a.types) = subst (λ (ts : List TypeAnswers). Hold F (about_all ts)) c.as_slice.ensures (c.in_ok-hold.ensures.hold yes) in
    record {
      key = key;
      hold = answer_held F a (ap F key ∙ sym c.requires.right ∙ sym fact) types;
      led = led;
    }

use Rattle.std.proofs.Common.{List, refl, subst, sym}
use Rattle.gql_facts.specs.Members.{Lists}
use Rattle.gql_reads.specs.Leading.{LeadsTo, names_in}
use Rattle.gql_reads.specs.Observations.{Hold, about_all}
use Rattle.gql_reads.specs.declared.observation.TypeAnswers.{TypeAnswers}
use Rattle.gql_reads.proofs.Held.{answer_held}
use Rattle.gql_reads.proofs.Led.{led_everywhere}
use Rattle.gql_reads.proofs.table.answer_with.Goals as goal

pub returns-clause-answer : goal.returns-clause-answer
returns-clause-answer g c =
    let F = g.W.World.facts c.args.world.now in
    let kept = sym c.from_vec.ensures in
    let hold : Hold F (about_all c.from_vec.result) = subst (λ (ts : List TypeAnswers). Hold F (about_all ts)) kept c.in_ok-types.ensures.hold in
    let led : Lists (names_in c.from_vec.result) (LeadsTo F c.args.fact) = subst (λ (ts : List TypeAnswers). Lists (names_in ts) (LeadsTo F c.args.fact)) kept c.in_ok-types.ensures.led in
    record {
      key = refl;
      hold = answer_held F (record { observation = record { key = c.args.key; fact = c.args.fact }; types = c.from_vec.result }) (sym c.requires.right) hold;
      led = led_everywhere F (record { observation = record { key = c.args.key; fact = c.args.fact }; types = c.from_vec.result }) hold led;
    }

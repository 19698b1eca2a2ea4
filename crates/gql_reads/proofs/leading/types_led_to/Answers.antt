use Rattle.std.proofs.Common.{◌≡◌, ◌∙◌, ◌<◌, ◌≤◌, [], List, arith, length, refl, rules, subst}
use Rattle.gql_facts.specs.Members.{Lists}
use Rattle.gql_facts.specs.Reads.{types_in}
use Rattle.gql_facts.specs.Worlds.{Facts}
use Rattle.gql_facts.specs.declared.key.Key.TheVariants as key
use Rattle.gql_reads.specs.Closings.{add_names}
use Rattle.gql_reads.specs.Leading.{AreTypes, LeadsTo, names_in}
use Rattle.gql_reads.specs.Observations.{Hold, about}
use Rattle.gql_reads.specs.declared.observation.TypeAnswers.{TypeAnswers}
use Rattle.gql_reads.proofs.Led.{leading_end, leading_first, leading_more, names_left}
use Rattle.gql_reads.proofs.Takes.{member_at}
use Rattle.gql_reads.proofs.leading.types_led_to.Goals as goal

pub walk-init : goal.walk-init
walk-init g c =
    let none : c.new-names.result.keys ≡ [] = search rules in
    let no_types : c.new-types.result.items ≡ [] = search rules in
    record {
      same_facts = refl;
      same_names = refl;
      same_lent = refl;
      known = c.requires;
      walked = leading_first (g.W.World.facts c.args.world.now) c.args.fact.now c.new-names.result.keys c.add_named.new.names.keys c.new-types.result.items none no_types c.in_ok-add_named.ensures;
    }

pub walk-smaller : goal.walk-smaller
walk-smaller g c =
    let lt : c.walk.at < length c.walk.names.keys = omega (arith, c.walk-test.true, c.len.ensures.len) in
    names_left (g.W.World.facts c.args.world.now) c.args.fact.now (g.W.World.names c.args.world.now) (g.met.W.World.is_world c.args.world.now)
    c.walk.at c.walk.names.keys c.walk.types.items c.walk.invariant.walked c.len.ensures.unique lt

pub walk-preserved : goal.walk-preserved
walk-preserved g c =
    let F = g.W.World.facts c.args.world.now in
    let same = c.walk.invariant.same_facts in
    let lt : c.walk.at < length c.walk.names.keys = omega (arith, c.walk-test.true, c.len.ensures.len) in
    let m = member_at c.walk.names.keys c.walk.at lt in
    let named : c.visit.new.names.keys ≡ add_names c.walk.names.keys (types_in (F (key.InputOf m.0))) =
    subst (λ (G : Facts). c.visit.new.names.keys ≡ add_names c.walk.names.keys (types_in (G (key.InputOf m.0)))) same (c.in_ok-visit.ensures.named m.0 m.1) in
    let t = c.in_ok-visit.ensures.asked m.0 m.1 in
    record {
      same_facts = c.visit.ensures.facts ∙ same;
      same_names = c.visit.ensures.names ∙ c.walk.invariant.same_names;
      same_lent = c.visit.ensures.lent ∙ c.walk.invariant.same_lent;
      known = subst (λ (G : Facts). AreTypes G c.visit.new.known.entries) same c.visit.ensures.known;
      walked = leading_more F c.args.fact.now c.walk.at c.walk.names.keys c.visit.new.names.keys c.walk.types.items c.visit.new.types.items m.0 t.0
          c.walk.invariant.walked lt m.1 named t.1 t.2 (subst (λ (G : Facts). Hold G (about t.0)) same t.3);
    }

pub returns-clause-led : goal.returns-clause-led
returns-clause-led g c =
    let F = g.W.World.facts c.args.world.now in
    let end : length c.walk.names.keys ≤ c.walk.at = omega (arith, c.walk-test.false, c.len.ensures.len) in
    let led = leading_end F c.args.fact.now c.walk.at c.walk.names.keys c.walk.types.items c.walk.invariant.walked end in
    let kept : c.walk.types.items ≡ c.shrink_to_fit.new.self.items = search rules in
    subst (λ (ts : List TypeAnswers). Lists (names_in ts) (LeadsTo F c.args.fact.now)) kept led

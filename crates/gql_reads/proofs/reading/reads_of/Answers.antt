use Rattle.std.proofs.Common.{◌≡◌, ◌∙◌, ◌<◌, ◌≤◌, List, arith, length, subst, sym}
use Rattle.gql_facts.specs.Members.{Lists}
use Rattle.gql_facts.specs.Worlds.{Facts}
use Rattle.gql_reads.specs.Reaching.{AreMet, IsNamed}
use Rattle.gql_reads.specs.Records.{IsTold}
use Rattle.gql_reads.specs.Tables.{AllHold}
use Rattle.gql_reads.specs.declared.observation.Answer.{Answer}
use Rattle.gql_reads.proofs.Meeting.{keeps_then, meets_told, met_count}
use Rattle.gql_reads.proofs.Reaching.{all_hold, all_keys, all_led, all_members, all_shared, fewer_left, reaching_first, reaching_more}
use Rattle.gql_reads.proofs.Recorded.{told_named}
use Rattle.gql_reads.proofs.reading.reads_of.Goals as goal

pub meet_all-requires-clause-named : goal.meet_all-requires-clause-named
meet_all-requires-clause-named g c f h =
    let F = g.W.World.facts c.args.world.now in
    let seen : c.get.result.now ≡ c.in_ok-own.own.record = c.get.ensures in
    let named = told_named F (g.W.World.names c.args.world.now) (g.met.W.World.is_world c.args.world.now) c.in_ok-own.own.record f c.in_ok-own.ensures.own.hold
    (subst (λ (os : List Answer). IsTold os f) seen (c.spreads.ensures.sound f h)) in
    subst (λ (G : Facts). IsNamed G f) (sym c.own_of.ensures.facts) named

pub returns-in_err-meet_all-clause-keeps : goal.returns-in_err-meet_all-clause-keeps
returns-in_err-meet_all-clause-keeps g c = keeps_then c.args.table.now c.own_of.new.table c.meet_all.new.table c.own_of.ensures.keeps c.meet_all.ensures.keeps

pub walk-init : goal.walk-init
walk-init g c =
    let F = g.W.World.facts c.args.world.now in
    let same : g.W.World.facts c.own_of.new.world ≡ F = c.own_of.ensures.facts in
    let seen : c.get.result.now ≡ c.in_ok-own.own.record = c.get.ensures in
    record {
      same_facts = c.meet_all.ensures.facts ∙ same;
      same_names = c.meet_all.ensures.names ∙ c.own_of.ensures.names;
      same_lent = c.meet_all.ensures.lent ∙ c.own_of.ensures.lent;
      holds = subst (λ (G : Facts). AllHold G c.meet_all.new.table) same c.meet_all.ensures.holds;
      keeps = keeps_then c.args.table.now c.own_of.new.table c.meet_all.new.table c.own_of.ensures.keeps c.meet_all.ensures.keeps;
      met = subst (λ (G : Facts). AreMet G c.meet_all.new.table c.meet_all.new.met.names.keys c.meet_all.new.met.parts.items) same c.in_ok-meet_all.ensures.met;
      walked = reaching_first F (g.W.World.names c.args.world.now) (g.met.W.World.is_world c.args.world.now) c.args.definition.now c.in_ok-own.own.record c.in_ok-own.ensures.own
          c.new-2.result.items c.meet_all.new.met.parts.items c.new-2.ensures.items
          (meets_told c.spreads.result.now c.in_ok-own.own.record c.new-2.result.items c.meet_all.new.met.parts.items
          (subst (λ (os : List Answer). Lists c.spreads.result.now (IsTold os)) seen c.spreads.ensures) c.in_ok-meet_all.ensures.meets);
    }

pub returns-in_err-visit-clause-keeps : goal.returns-in_err-visit-clause-keeps
returns-in_err-visit-clause-keeps g c = keeps_then c.args.table.now c.walk.table c.visit.new.table c.walk.invariant.keeps c.visit.ensures.keeps

pub walk-smaller : goal.walk-smaller
walk-smaller g c =
    let F = g.W.World.facts c.args.world.now in
    let met = c.walk.invariant.met in
    let lt : c.walk.at < length c.walk.met.parts.items = let n = met_count F c.walk.table c.walk.met.names.keys c.walk.met.parts.items met in omega (arith, n, c.walk-test.true, c.len.ensures.len) in
    fewer_left F (g.W.World.names c.args.world.now) (g.met.W.World.is_world c.args.world.now) c.args.definition.now c.in_ok-own.own.record c.in_ok-own.ensures.own
    c.walk.at c.walk.table c.walk.met.names.keys c.walk.met.parts.items c.walk.invariant.holds met c.len.ensures.unique lt

pub walk-preserved : goal.walk-preserved
walk-preserved g c =
    let F = g.W.World.facts c.args.world.now in
    let met = c.walk.invariant.met in
    let same = c.walk.invariant.same_facts in
    let ps = c.walk.met.parts.items in
    let lt : c.walk.at < length ps = let n = met_count F c.walk.table c.walk.met.names.keys ps met in omega (arith, n, c.walk-test.true, c.len.ensures.len) in
    record {
      same_facts = c.visit.ensures.facts ∙ same;
      same_names = c.visit.ensures.names ∙ c.walk.invariant.same_names;
      same_lent = c.visit.ensures.lent ∙ c.walk.invariant.same_lent;
      holds = subst (λ (G : Facts). AllHold G c.visit.new.table) same c.visit.ensures.holds;
      keeps = keeps_then c.args.table.now c.walk.table c.visit.new.table c.walk.invariant.keeps c.visit.ensures.keeps;
      met = subst (λ (G : Facts). AreMet G c.visit.new.table c.visit.new.met.names.keys c.visit.new.met.parts.items) same c.in_ok-visit.ensures.met;
      walked = reaching_more F (g.W.World.names c.args.world.now) (g.met.W.World.is_world c.args.world.now) c.args.definition.now c.in_ok-own.own.record c.in_ok-own.ensures.own
          c.walk.at ps c.visit.new.met.parts.items c.walk.invariant.walked lt (λ p m. (met.each p m).seen) c.in_ok-visit.ensures.meets;
    }

pub returns-clause-hold : goal.returns-clause-hold
returns-clause-hold g c =
    let F = g.W.World.facts c.args.world.now in
    let met = c.walk.invariant.met in
    let ps = c.walk.met.parts.items in
    let end : length ps ≤ c.walk.at = let n = met_count F c.walk.table c.walk.met.names.keys ps met in omega (arith, n, c.walk-test.false, c.len.ensures.len) in
    all_hold F (g.W.World.names c.args.world.now) (g.met.W.World.is_world c.args.world.now) c.args.definition.now c.in_ok-own.own.record c.in_ok-own.ensures.own
    c.walk.at c.walk.table c.walk.met.names.keys ps c.walk.invariant.walked met end

pub returns-clause-keys : goal.returns-clause-keys
returns-clause-keys g c =
    let F = g.W.World.facts c.args.world.now in
    let met = c.walk.invariant.met in
    let ps = c.walk.met.parts.items in
    let end : length ps ≤ c.walk.at = let n = met_count F c.walk.table c.walk.met.names.keys ps met in omega (arith, n, c.walk-test.false, c.len.ensures.len) in
    all_keys F (g.W.World.names c.args.world.now) (g.met.W.World.is_world c.args.world.now) c.args.definition.now c.in_ok-own.own.record c.in_ok-own.ensures.own
    c.walk.at c.walk.table c.walk.met.names.keys ps c.walk.invariant.walked met end

pub returns-clause-members : goal.returns-clause-members
returns-clause-members g c =
    let F = g.W.World.facts c.args.world.now in
    let met = c.walk.invariant.met in
    let ps = c.walk.met.parts.items in
    let end : length ps ≤ c.walk.at = let n = met_count F c.walk.table c.walk.met.names.keys ps met in omega (arith, n, c.walk-test.false, c.len.ensures.len) in
    all_members F (g.W.World.names c.args.world.now) (g.met.W.World.is_world c.args.world.now) c.args.definition.now c.in_ok-own.own.record c.in_ok-own.ensures.own
    c.walk.at c.walk.table c.walk.met.names.keys ps c.walk.invariant.walked met end

pub returns-clause-shared : goal.returns-clause-shared
returns-clause-shared g c =
    let F = g.W.World.facts c.args.world.now in
    let met = c.walk.invariant.met in
    let ps = c.walk.met.parts.items in
    let end : length ps ≤ c.walk.at = let n = met_count F c.walk.table c.walk.met.names.keys ps met in omega (arith, n, c.walk-test.false, c.len.ensures.len) in
    all_shared F (g.W.World.names c.args.world.now) (g.met.W.World.is_world c.args.world.now) c.args.definition.now c.in_ok-own.own.record c.in_ok-own.ensures.own
    c.walk.at c.walk.table c.walk.met.names.keys ps c.walk.invariant.walked met end

pub returns-clause-led : goal.returns-clause-led
returns-clause-led g c =
    let F = g.W.World.facts c.args.world.now in
    let met = c.walk.invariant.met in
    let ps = c.walk.met.parts.items in
    let end : length ps ≤ c.walk.at = let n = met_count F c.walk.table c.walk.met.names.keys ps met in omega (arith, n, c.walk-test.false, c.len.ensures.len) in
    all_led F (g.W.World.names c.args.world.now) (g.met.W.World.is_world c.args.world.now) c.args.definition.now c.in_ok-own.own.record c.in_ok-own.ensures.own
    c.walk.at c.walk.table c.walk.met.names.keys ps c.walk.invariant.walked met end

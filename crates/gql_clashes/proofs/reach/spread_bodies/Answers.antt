use Rattle.std.proofs.Common.{◌≡◌, ◌∙◌, ℕ, get_or, length, rules}
use Rattle.std.proofs.lemmas.List.{get_or_default}
use Rattle.std.proofs.lemmas.List.Elements.{Contains-get_or}
use Rattle.gql_clashes.specs.Seen.{rows_of}
use Rattle.gql_clashes.proofs.Members.{take_has, take_kept}
use Rattle.gql_clashes.proofs.SpreadBodies.{spread_all, spread_more, spread_none}
use Rattle.gql_clashes.proofs.reach.spread_bodies.Goals as goal

pub loop-body-init : goal.loop-body-init
loop-body-init c =
    let k : c.len.result ≡ length c.args.sets.now.bodies.items = search rules in
    record {
      count = c.nothing_seen-seen.ensures.count ∙ k;
      spread = spread_none c.args.sets.now c.len.result (rows_of c.nothing_seen-seen.result) c.new-found.result.items c.nothing_seen-seen.ensures.rows c.new-found.ensures.items;
    }

pub reach-requires-clause-body : goal.reach-requires-clause-body
reach-requires-clause-body c = c.requires.bodies _ (Contains-get_or c.args.bodies.now c.loop-body.body-index 0 c.loop-body-test.true)

pub loop-body-preserved : goal.loop-body-preserved
loop-body-preserved c =
    let u : ℕ = get_or c.args.bodies.now c.loop-body.body-index 0 in
    let is = get_or_default c.args.bodies.now c.loop-body.body-index u 0 c.loop-body-test.true in
    record {
      count = c.reach.ensures.count;
      spread = spread_more c.args.sets.now _ _ u _ (rows_of c.reach.new.seen) c.loop-body.found.items c.in_ok-new.new.items c.append.new.self.items c.loop-body.invariant.spread c.in_ok-new.ensures.reach c.in_ok-append.ensures.items
          (λ d h. take_has c.args.bodies.now c.loop-body.body-index u d c.loop-body-test.true is h) (λ d h. take_kept c.args.bodies.now c.loop-body.body-index u d c.loop-body-test.true is h);
    }

pub returns : goal.returns
returns c = spread_all c.args.sets.now c.args.bodies.now c.loop-body.body-index (rows_of c.loop-body.seen) c.loop-body.found.items c.loop-body-test.false c.loop-body.invariant.spread

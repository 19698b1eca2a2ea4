use Rattle.std.proofs.Common.{◌∙◌, arith}
use Rattle.gql_facts.proofs.Walked.{first_visit, next_visit, failed_first, failed_next, fewer_left, at_end, walked_keys, walked_members, walked_asked}
use Rattle.gql_facts.proofs.Failing.{on_error}
use Rattle.gql_facts.proofs.walk.walk_reads.Goals as goal

pub walk-init : goal.walk-init
walk-init g c = record {
  same_facts = c.in_ok-scan_definition.ensures.facts;
  same_names = c.in_ok-scan_definition.ensures.names;
  same_lent = c.in_ok-scan_definition.ensures.lent;
  walked = first_visit (g.W.World.facts c.args.world.now) (g.W.World.names c.args.world.now) (g.met.W.World.is_world c.args.world.now) c.args.definition.now _ _ _ _ _
      c.new-keys.ensures.empty c.new-members.ensures.items c.in_ok-scan_definition.ensures.scanned;
}

pub walk-smaller : goal.walk-smaller
walk-smaller g c = fewer_left (g.W.World.facts c.args.world.now) (g.W.World.names c.args.world.now) (g.met.W.World.is_world c.args.world.now) c.args.definition.now _ _ c.walk.at c.walk.keys.keys _
    c.walk.invariant.walked c.len.ensures.unique (omega (arith, c.walk-test.true, c.len.ensures.len))

pub walk-preserved : goal.walk-preserved
walk-preserved g c = record {
  same_facts = c.in_ok-visit.ensures.facts ∙ c.walk.invariant.same_facts;
  same_names = c.in_ok-visit.ensures.names ∙ c.walk.invariant.same_names;
  same_lent = c.in_ok-visit.ensures.lent ∙ c.walk.invariant.same_lent;
  walked = next_visit (g.W.World.facts c.args.world.now) (g.W.World.names c.args.world.now) (g.met.W.World.is_world c.args.world.now) c.args.definition.now _ _ _ _ c.walk.at c.walk.keys.keys _ _ _
      c.walk.invariant.same_facts (omega (arith, c.walk-test.true, c.len.ensures.len)) c.walk.invariant.walked c.in_ok-visit.ensures.visited;
}

pub returns-clause-keys : goal.returns-clause-keys
returns-clause-keys g c =
    let F = g.W.World.facts c.args.world.now in
    let N = g.W.World.names c.args.world.now in
    let w = g.met.W.World.is_world c.args.world.now in
    walked_keys F N w c.args.definition.now c.walk.keys.keys _ _ _ (at_end F N w c.args.definition.now _ _ c.walk.at c.walk.keys.keys _ c.walk.invariant.walked (λ lt. omega (arith, lt, c.walk-test.false, c.len.ensures.len)))

pub returns-clause-members : goal.returns-clause-members
returns-clause-members g c =
    let F = g.W.World.facts c.args.world.now in
    let N = g.W.World.names c.args.world.now in
    let w = g.met.W.World.is_world c.args.world.now in
    walked_members F N w c.args.definition.now c.walk.keys.keys _ _ _ (at_end F N w c.args.definition.now _ _ c.walk.at c.walk.keys.keys _ c.walk.invariant.walked (λ lt. omega (arith, lt, c.walk-test.false, c.len.ensures.len)))

pub returns-clause-asked : goal.returns-clause-asked
returns-clause-asked g c =
    let F = g.W.World.facts c.args.world.now in
    let N = g.W.World.names c.args.world.now in
    let w = g.met.W.World.is_world c.args.world.now in
    walked_asked F N w c.args.definition.now c.walk.keys.keys _ _ _ (at_end F N w c.args.definition.now _ _ c.walk.at c.walk.keys.keys _ c.walk.invariant.walked (λ lt. omega (arith, lt, c.walk-test.false, c.len.ensures.len)))

pub returns-in_err-scan_definition-clause-failed : goal.returns-in_err-scan_definition-clause-failed
returns-in_err-scan_definition-clause-failed g c = on_error c.from_residual.result (failed_first (g.W.World.facts c.args.world.now) (g.W.World.names c.args.world.now) (g.met.W.World.is_world c.args.world.now)
    c.args.definition.now _ _ c.in_err-scan_definition.ensures.failed)

pub returns-in_err-visit-clause-failed : goal.returns-in_err-visit-clause-failed
returns-in_err-visit-clause-failed g c = on_error c.from_residual-in_err-visit.result (failed_next (g.W.World.facts c.args.world.now) (g.W.World.names c.args.world.now) (g.met.W.World.is_world c.args.world.now)
    c.args.definition.now _ _ _ _ c.walk.at c.walk.keys.keys _ c.walk.invariant.same_facts (omega (arith, c.walk-test.true, c.len.ensures.len))
    c.walk.invariant.walked c.in_err-visit.ensures.failed)

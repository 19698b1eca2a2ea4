use Rattle.std.proofs.Common.{refl, flat_map}
use Rattle.gql_clashes.specs.Compared.{bad_at, fields_in, items_of}
use Rattle.gql_clashes.proofs.Looking.{class_inside, more_by}
use Rattle.gql_clashes.proofs.visit.visit_each.Goals as goal

pub visit_named-requires-clause-left : goal.visit_named-requires-clause-left
visit_named-requires-clause-left c = class_inside c.args.lefts.now c.loop-left.left-index c.left-item.result _ _ c.loop-left-test.true c.left-item.is refl c.requires.lefts

pub loop-left-preserved : goal.loop-left-preserved
loop-left-preserved c = record {
  bad = more_by (λ d. flat_map (λ e. bad_at c.args.sets.now c.args.mode (fields_in d) (fields_in e)) c.args.rights.now) c.args.lefts.now c.loop-left.left-index c.left-item.result _ _ _ c.loop-left-test.true c.left-item.is c.loop-left.invariant.bad c.in_ok-visit_named.ensures.bad;
  items = more_by (λ d. flat_map (items_of c.args.sets.now c.args.mode d) c.args.rights.now) c.args.lefts.now c.loop-left.left-index c.left-item.result _ _ _ c.loop-left-test.true c.left-item.is c.loop-left.invariant.items c.in_ok-visit_named.ensures.items;
}

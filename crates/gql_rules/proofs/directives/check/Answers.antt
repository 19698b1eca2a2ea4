use Rattle.std.proofs.Common.{◌++◌, ◌∙◌, ap, sym, arith, rules}
use Rattle.gql_rules.specs.LocalFaults.{directive_faults}
use Rattle.gql_rules.proofs.Steps.{flat_map_step}
use Rattle.gql_rules.proofs.directives.check.Goals as goal

pub loop-directive-preserved : goal.loop-directive-preserved
loop-directive-preserved g c =
    let F = g.W.World.facts c.args.world.now in
    let x = c.directive-item.result in
    let before = c.loop-directive.invariant in
    record {
      same_facts = c.in_ok-check_directive.ensures.facts ∙ before.same_facts;
      same_names = c.in_ok-check_directive.ensures.names ∙ before.same_names;
      same_lent = c.in_ok-check_directive.ensures.lent ∙ before.same_lent;
      found = flat_map_step (directive_faults F c.args.owner.now c.args.location c.args.all.now) c.args.all.now c.loop-directive.directive-index x
          c.args.faults.now.items _ _ (omega arith) (sym c.directive-item.is) before.found
          (c.in_ok-check_directive.ensures.found c.args.all.now (sym (c.in_ok-counts.ensures x.name.text) ∙ search rules)
          ∙ ap (λ f. c.loop-directive.faults.items ++ directive_faults f c.args.owner.now c.args.location c.args.all.now x) before.same_facts);
    }

use Rattle.std.proofs.Common.{◌++◌, ◌∙◌, ap, sym, arith, flat_map}
use Rattle.std.proofs.lemmas.Grind.{common_steps}
use Rattle.gql_rules.proofs.Steps.{flat_map_step}
use Rattle.gql_vars.specs.Misuses.{misuse, misuses_of_member}
use Rattle.gql_vars.specs.Usages.{fragment_usages}
use Rattle.gql_vars.proofs.usage_nodes.check_members.Goals as goal

pub loop-member-preserved : goal.loop-member-preserved
loop-member-preserved g c =
    let F = g.W.World.facts c.args.world.now in
    let owner = c.args.owner.now in
    let x = c.member-item.result in
    let before = c.loop-member.invariant in
    record {
      same_facts = c.in_ok-check_member.ensures.facts ∙ before.same_facts;
      same_names = c.in_ok-check_member.ensures.names ∙ before.same_names;
      same_lent = c.in_ok-check_member.ensures.lent ∙ before.same_lent;
      found = λ variables first. flat_map_step (misuses_of_member F owner variables) c.args.members.now c.loop-member.member-index x
          c.args.faults.now.items _ _ (omega arith) (sym c.member-item.is) (before.found variables first)
          (c.in_ok-check_member.ensures.found variables first
          ∙ ap (λ f. c.loop-member.faults.items ++ flat_map (misuse f owner variables) (fragment_usages f x.file c.get-fragment.result.now)) before.same_facts
          ∙ ap (λ k. c.loop-member.faults.items ++ flat_map (misuse F owner variables) (fragment_usages F x.file k)) c.get-fragment.ensures);
    }

pub returns-clause-found : goal.returns-clause-found
returns-clause-found g c = λ variables first. grind (arith, common_steps, c.loop-member.invariant.found variables first)

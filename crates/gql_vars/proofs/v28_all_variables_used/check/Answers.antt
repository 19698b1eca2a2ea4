use Rattle.std.proofs.Common.{◌++◌, [], ◌∙◌, ap, sym, arith, bytes_eq, map, option_map, if◌then◌else◌}
use Rattle.std.specs.HashMap as hash
use Rattle.std.proofs.lemmas.Grind.{common_steps}
use Rattle.gql_rules.proofs.Steps.{flat_map_step}
use Rattle.gql_vars.specs.Lists.{is_used, unused, unused_first, use_of}
use Rattle.gql_vars.proofs.v28_all_variables_used.check.Goals as goal

pub loop-variable-preserved : goal.loop-variable-preserved
loop-variable-preserved c = λ first.
    let v = c.variable-item.result in
    let uses = map use_of c.args.uses.now in
    flat_map_step (unused c.args.owner.now c.args.variables.now uses) c.args.variables.now c.loop-variable.variable-index v
    c.args.faults.now.items _ _ (omega arith) (sym c.variable-item.is) (c.loop-variable.invariant first)
    (c.in_ok-check_variable.ensures
    ∙ ap (λ b. c.loop-variable.faults.items ++ (if b then [] else unused_first c.args.owner.now (option_map (λ w. w.now) (hash.get_by (λ k. bytes_eq v.name.text k.now) c.args.first.now)))) (c.in_ok-used.ensures v.name.text)
    ∙ ap (λ o. c.loop-variable.faults.items ++ (if is_used uses v.name.text then [] else unused_first c.args.owner.now o)) (first v.name.text))

pub returns : goal.returns
returns c = λ first. grind (arith, common_steps, c.loop-variable.invariant first)

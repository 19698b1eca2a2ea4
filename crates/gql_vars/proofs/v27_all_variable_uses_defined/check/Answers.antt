use Rattle.std.proofs.Common.{◌++◌, ◌∷◌, [], ◌∙◌, ap, sym, arith, is_some, if◌then◌else◌}
use Rattle.gql_ast.specs.declared.rule.Rule.TheVariants as rule
use Rattle.std.proofs.lemmas.Grind.{common_steps}
use Rattle.gql_rules.proofs.Steps.{flat_map_step}
use Rattle.gql_vars.specs.Faults.{fault_of_use}
use Rattle.gql_vars.specs.Lists.{undefined, use_of}
use Rattle.gql_vars.proofs.Lookups.{is_there}
use Rattle.gql_vars.proofs.v27_all_variable_uses_defined.check.Goals as goal

pub loop-used-preserved : goal.loop-used-preserved
loop-used-preserved c = λ variables first.
    let x = c.used-item.result in
    flat_map_step (λ y. undefined c.args.owner.now variables (use_of y)) c.args.uses.now c.loop-used.used-index x
    c.args.faults.now.items _ _ (omega arith) (sym c.used-item.is) (c.loop-used.invariant variables first)
    (c.in_ok-check_use.ensures ∙ ap (λ b. c.loop-used.faults.items ++ (if b then [] else fault_of_use c.args.owner.now rule.V27 (use_of x) ∷ []))
    (is_there _ _ ∙ ap is_some (first x.name.now)))

pub returns : goal.returns
returns c = λ variables first. grind (arith, common_steps, c.loop-used.invariant variables first)

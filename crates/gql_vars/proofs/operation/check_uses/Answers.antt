use Rattle.std.proofs.Common.{◌++◌, ◌∙◌, ap, flat_map, map}
use Rattle.gql_vars.specs.Lists.{use_of, undefined, unused}
use Rattle.gql_vars.proofs.Whole.{use_faults_are}
use Rattle.gql_vars.proofs.operation.check_uses.Goals as goal

pub returns : goal.returns
returns c =
    let owner = c.args.owner.now in
    let vs = c.args.variables.now in
    use_faults_are owner c.args.definition.now c.args.members.now vs c.in_ok-uses.uses.items c.args.faults.now.items _ _
    c.in_ok-uses.ensures
    (c.in_ok-check.ensures vs c.in_ok-first.ensures ∙ ap (λ us. c.args.faults.now.items ++ flat_map (λ x. undefined owner vs (use_of x)) us) c.as_slice.ensures.value)
    (c.in_ok-check-2.ensures c.in_ok-first.ensures ∙ ap (λ us. c.check.new.faults.items ++ flat_map (unused owner vs (map use_of us)) vs) c.as_slice-2.ensures.value)

use Rattle.std.proofs.Common.{◌++◌, ◌∙◌, [], arith, ap, sym, cond, nat_lt, map}
use Rattle.gql_faults.specs.Names.{count_of}
use Rattle.gql_faults.specs.Places.{named}
use Rattle.gql_node_rules.specs.Applied.{name_of}
use Rattle.gql_node_rules.specs.Borrowed.{application}
use Rattle.gql_node_rules.specs.S31RepeatedDirectives.{fault_in_group, unless_repeatable}
use Rattle.std.proofs.lemmas.Grind.{common_steps}
use Rattle.gql_node_rules.proofs.Few.{few, none_added}
use Rattle.gql_node_rules.proofs.Same.{flat_map_step}
use Rattle.gql_node_rules.proofs.s31_repeated_directives.check_group.Goals as goal

pub loop-applied-preserved : goal.loop-applied-preserved
loop-applied-preserved c =
    let x = application c.applied-item.result in
    flat_map_step (fault_in_group c.args.schema.now (map application c.args.group.now)) application
    c.args.group.now c.loop-applied.applied-index c.applied-item.result c.args.faults.now.items _ _ (omega arith)
    (sym c.applied-item.is) c.loop-applied.invariant
    (c.in_ok-check_applied.ensures ∙ ap (λ n. c.loop-applied.faults.items
    ++ cond (nat_lt 1 n) (unless_repeatable c.args.schema.now x) [])
    (c.in_ok-counts.ensures (name_of x) ∙ ap (λ ns. count_of (name_of x) (map named ns)) c.as_slice.ensures.value
    ∙ ap (count_of (name_of x)) c.in_ok-names.ensures))

pub returns-then-group-lt2 : goal.returns-then-group-lt2
returns-then-group-lt2 c = none_added _ _ (few c.args.schema.now (map application c.args.group.now)
    (grind (arith, common_steps, c.if-group-lt2.true)))

use Rattle.std.proofs.Common.{rules, [], map, take}
use Rattle.std.specs.Option.{option_map_or}
use Rattle.std.specs.HashMap as hash
use Rattle.gql_schema_rules.specs.S25SharedRootTypes.{faults_of_root}
use Rattle.gql_schema_rules.proofs.Earlier.{one_more}
use Rattle.gql_schema_rules.proofs.Grouping.{held_more, faults_by_groups}
use Rattle.gql_schema_rules.proofs.s25_shared_root_types.check.Goals as goal

pub loop-root-preserved : goal.loop-root-preserved
loop-root-preserved c =
    let before = c.loop-root.invariant in
    let roots = c.args.schema.now.roots in
    let r = c.root-item.result in (
      λ q. held_more q roots c.loop-root.root-index r _ _ (search rules) (search rules) (before.0 q) (c.in_ok-remember.ensures q),
      one_more (faults_of_root c.args.schema.now) roots c.loop-root.root-index r _ _ _ _ (search rules) (search rules) before.1
          (faults_by_groups (λ q. option_map_or (λ group. map (λ x. x.now) group.items) (hash.get_by_text c.loop-root.groups q) []) (take c.loop-root.root-index roots) before.0 c.args.schema.now r)
          c.in_ok-check_root.ensures,
    )

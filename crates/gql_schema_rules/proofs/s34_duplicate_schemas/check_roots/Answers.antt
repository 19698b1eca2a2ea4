use Rattle.std.proofs.Common.{rules, ap, cond, []}
use Rattle.gql_schema_rules.specs.S34DuplicateSchemas.{fault_at_entry, fault_if_again}
use Rattle.gql_schema_rules.proofs.Earlier.{one_more, seen_more}
use Rattle.gql_schema_rules.proofs.s34_duplicate_schemas.check_roots.Goals as goal

pub loop-root-preserved : goal.loop-root-preserved
loop-root-preserved c =
    let before = c.loop-root.invariant in
    let r = c.root-item.result in (
      λ k. seen_more k c.args.roots.now c.loop-root.root-index r _ _ (search rules) (search rules) (before.0 k) (c.with-seen.ensures k),
      one_more fault_if_again c.args.roots.now c.loop-root.root-index r _ _ _ _ (search rules) (search rules) before.1
          (ap (λ b. cond b (fault_at_entry r.kind r.name.file r.entry) []) (before.0 r.kind)) c.in_ok-check_root.ensures,
    )

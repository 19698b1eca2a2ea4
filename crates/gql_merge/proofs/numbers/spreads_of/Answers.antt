use Rattle.std.proofs.Common.{[], arith, bytes_eq, sym}
use Rattle.std.specs.HashMap as hash
use Rattle.gql_merge.specs.FieldSets.{list_of}
use Rattle.gql_rules.proofs.Steps.{flat_map_step}
use Rattle.gql_merge.proofs.numbers.spreads_of.Goals as goal

pub loop-name-preserved : goal.loop-name-preserved
loop-name-preserved c =
    flat_map_step (λ n. list_of (hash.get_by (λ k. bytes_eq n.now k.now) c.args.fragments.now)) c.args.names.now c.loop-name.name-index c.name-item.result
    [] _ _ (omega arith) (sym c.name-item.is) c.loop-name.invariant c.in_ok-add_number.ensures

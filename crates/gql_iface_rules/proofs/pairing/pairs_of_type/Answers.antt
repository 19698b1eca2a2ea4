use Rattle.std.proofs.Common.{rules}
use Rattle.gql_iface_rules.proofs.MetPairs.{all_paired, next_paired}
use Rattle.gql_iface_rules.proofs.pairing.pairs_of_type.Goals as goal

pub loop-name-preserved : goal.loop-name-preserved
loop-name-preserved c = next_paired c.args.schema.now c.args.of_type.now c.as_slice-name-items.result.now c.loop-name.name-index c.name-item.result _ _
    (search rules) (search rules) (c.in_ok-add_once.ensures _ c.loop-name.invariant)

pub returns : goal.returns
returns c = all_paired c.args.schema.now c.args.of_type.now c.as_slice-name-items.result.now c.loop-name.name-index _ _
    c.as_slice-name-items.ensures c.loop-name-test.false c.loop-name.invariant

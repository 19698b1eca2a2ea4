use Rattle.std.proofs.Common.{arith, rules}
use Rattle.std.proofs.lemmas.Map.Text.{text_keys}
use Rattle.gql_iface_rules.proofs.Names.{among_step}
use Rattle.gql_iface_rules.proofs.name_set.set_of.Goals as goal

pub loop-name-preserved : goal.loop-name-preserved
loop-name-preserved c = λ q. among_step q c.args.names.now c.loop-name.name-index c.name-item.result _ _ (search rules) (search rules) (c.loop-name.invariant q) (grind (arith, text_keys))

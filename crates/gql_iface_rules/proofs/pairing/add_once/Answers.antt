use Rattle.std.proofs.Common.{arith, rules}
use Rattle.std.proofs.lemmas.Map.Text.{text_keys}
use Rattle.gql_iface_rules.proofs.MetPairs.{again, fresh}
use Rattle.gql_iface_rules.proofs.pairing.add_once.Goals as goal

pub returns-then-contains_key : goal.returns-then-contains_key
returns-then-contains_key c = λ before. again c.args.schema.now c.args.of_type.now c.args.name.now before _ _ (search rules)

pub returns : goal.returns
returns c = λ before. fresh c.args.schema.now c.args.of_type.now c.args.name.now before _ _ _ _ (λ q. grind (arith, text_keys)) c.in_ok-add_named.ensures

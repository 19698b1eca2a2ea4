use Rattle.std.proofs.Common.{◌∙◌, ap, bytes_eq, option_map}
use Rattle.gql_node_rules.proofs.Found.{found_in, map_copied}
use Rattle.gql_node_rules.proofs.signature.signature_named.Goals as goal

pub returns : goal.returns
returns c = map_copied (λ g. g.definition.now) c.get.result ∙ ap (option_map (λ g. g.definition.now)) c.get.ensures
    ∙ found_in (λ g. g.definition.now) (λ d. bytes_eq c.args.name.now d.node.name.text) c.args.signatures.now

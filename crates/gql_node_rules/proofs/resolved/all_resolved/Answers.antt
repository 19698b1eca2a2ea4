use Rattle.std.proofs.Common.{◌∙◌, ap, arith, sym, map, find, bytes_eq}
use Rattle.gql_node_rules.specs.Borrowed.{application}
use Rattle.gql_node_rules.specs.Resolved.{resolution, resolved_by}
use Rattle.gql_node_rules.proofs.Same.{map_step}
use Rattle.gql_node_rules.proofs.resolved.all_resolved.Goals as goal

pub loop-applied-preserved : goal.loop-applied-preserved
loop-applied-preserved c =
    let definitions = map (λ g. g.definition.now) c.args.signatures.now in
    let known = c.signature_named.ensures ∙ ap (λ q. find (λ d. bytes_eq q d.node.name.text) definitions) c.name.ensures in
    map_step resolution (resolved_by definitions) application c.args.all.now c.loop-applied.applied-index c.applied-item.result
    c.loop-applied.found.items c.push.new.self.items _ (omega arith) (sym c.applied-item.is) c.loop-applied.invariant c.in_ok-push.ensures.items
    (λ k. record { application = application c.applied-item.result; known = known k })

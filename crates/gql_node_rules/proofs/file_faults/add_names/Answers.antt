use Rattle.std.proofs.Common.{◌∙◌, ◌||◌, List, sym, ap, bytes_eq, arith}
use Rattle.std.specs.HashSet.{contains}
use Rattle.std.specs.List.{list_any}
use Rattle.std.proofs.lemmas.List.{take_all}
use Rattle.gql_node_rules.specs.Resolved.{TypeReference, reference}
use Rattle.gql_node_rules.specs.declared.references.Reference.{Reference}
use Rattle.gql_node_rules.proofs.Sets.{any_map, one_more}
use Rattle.gql_node_rules.proofs.file_faults.add_names.Goals as goal

pub loop-reference-preserved : goal.loop-reference-preserved
loop-reference-preserved c = λ q. one_more (λ (r : Reference). (reference r).name.node.text) q c.in_ok-copy.field-0 c.args.references.now
    c.loop-reference.reference-index c.reference-item.result (contains bytes_eq c.args.names.now q)
    (contains bytes_eq c.loop-reference.names q) (contains bytes_eq c.insert.new.self q) (omega arith) (sym c.reference-item.is) c.in_ok-copy.ensures
    (c.loop-reference.invariant q) (c.in_ok-insert.ensures.updates.0 q)

pub returns : goal.returns
returns c = λ q. c.loop-reference.invariant q
    ∙ ap (λ (rs : List Reference). contains bytes_eq c.args.names.now q || list_any (λ (r : Reference). bytes_eq q (reference r).name.node.text) rs)
    (take_all c.loop-reference.reference-index c.args.references.now (omega arith))
    ∙ ap (λ b. contains bytes_eq c.args.names.now q || b)
    (sym (any_map (λ (r : TypeReference). bytes_eq q r.name.node.text) reference c.args.references.now))

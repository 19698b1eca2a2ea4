use Rattle.std.proofs.Common.{◌∙◌, Bor, false, sym, ap, bytes_eq, arith}
use Rattle.std.specs.HashSet.{contains}
use Rattle.std.specs.List.{list_any}
use Rattle.std.proofs.lemmas.List.{take_all}
use Rattle.gql_ast.specs.declared.text.Text.{Text}
use Rattle.gql_node_rules.proofs.Sets.{any_map, one_more}
use Rattle.gql_node_rules.proofs.directive_use.set_of.Goals as goal

pub loop-name-preserved : goal.loop-name-preserved
loop-name-preserved c = λ q. one_more (λ (n : Bor Text). n.now) q c.in_ok-copy.field-0 c.args.names.now c.loop-name.name-index c.name-item.result false
    (contains bytes_eq c.loop-name.set q) (contains bytes_eq c.insert.new.self q) (omega arith) (sym c.name-item.is) c.in_ok-copy.ensures
    (c.loop-name.invariant q) (c.in_ok-insert.ensures.updates.0 q)

pub returns : goal.returns
returns c = λ q. c.loop-name.invariant q
    ∙ ap (list_any (λ (n : Bor Text). bytes_eq q n.now)) (take_all c.loop-name.name-index c.args.names.now (omega arith))
    ∙ sym (any_map (bytes_eq q) (λ (n : Bor Text). n.now) c.args.names.now)

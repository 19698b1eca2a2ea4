use Rattle.std.proofs.Common.{◌∙◌, ap, arith, sym, map, nat_lt}
use Rattle.gql_ast.specs.declared.text.Name.{Name}
use Rattle.gql_built_in.specs.declared.sited.Sited.{Sited}
use Rattle.gql_faults.specs.Names.{count_of}
use Rattle.gql_faults.specs.Places.{named}
use Rattle.gql_faults.proofs.Apart.{apart_none}
use Rattle.gql_faults.proofs.Counting.{repeated_step}
use Rattle.gql_faults.proofs.names.repeated.Goals as goal

pub loop-name-preserved : goal.loop-name-preserved
loop-name-preserved c = repeated_step (λ (n : Sited Name). nat_lt 1 (count_of n.node.text (map named c.args.names.now)))
    c.args.names.now c.loop-name.name-index c.name-item.result _ _ (omega arith) (sym c.name-item.is) c.loop-name.invariant
    (rw (← c.in_ok-counts.ensures c.name-item.result.name.now.text) c.in_ok-add_if_repeated.ensures)

pub returns-then-are_apart : goal.returns-then-are_apart
returns-then-are_apart c = ap (map named) c.new.ensures.items
    ∙ sym (apart_none (map named c.args.names.now) (sym c.are_apart.ensures ∙ c.if-are_apart.true))

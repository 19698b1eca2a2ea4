use Rattle.std.proofs.Common.{map, subst, arith, bytes_eq}
use Rattle.std.specs.HashMap as hash
use Rattle.std.proofs.lemmas.List.{length-map, take_all}
use Rattle.gql_cycles.specs.Names.{row_of}
use Rattle.gql_cycles.specs.NameGraph.{Joins}
use Rattle.gql_cycles.proofs.Joining.{joins_more}
use Rattle.gql_cycles.proofs.Members.{read_at}
use Rattle.gql_cycles.proofs.Placing.{names_length}
use Rattle.gql_cycles.proofs.name_graph.edges_of.Goals as goal

pub add_row-requires : goal.add_row-requires
add_row-requires c = λ i e. let t = c.requires.there c.row-item.result.name.now i e in
    omega (arith, t.0, c.loop-row.invariant.length_is, names_length row_of c.args.rows.now)

pub loop-row-preserved : goal.loop-row-preserved
loop-row-preserved c = record {
  length_is = omega (arith, c.in_ok-add_row.ensures.length_is, c.loop-row.invariant.length_is, length-map c.loop-row.edges.items (λ v. v.items), length-map c.add_row.new.edges.items (λ v. v.items));
  joins = joins_more (λ q. hash.get_by (λ k. bytes_eq q k.now) c.args.nodes.now) (map row_of c.args.rows.now) c.loop-row.row-index (row_of c.row-item.result) _ _
      (omega (arith, c.loop-row-test.true, length-map c.args.rows.now row_of))
      (read_at row_of c.args.rows.now c.loop-row.row-index c.row-item.result (row_of c.row-item.result) c.loop-row-test.true c.row-item.is)
      c.loop-row.invariant.joins c.in_ok-add_row.ensures;
}

pub returns-clause-joins : goal.returns-clause-joins
returns-clause-joins c =
    subst (λ rs. Joins (λ q. hash.get_by (λ k. bytes_eq q k.now) c.args.nodes.now) rs (map (λ v. v.items) c.loop-row.edges.items))
    (take_all c.loop-row.row-index (map row_of c.args.rows.now) (omega (arith, c.loop-row-test.false, length-map c.args.rows.now row_of)))
    c.loop-row.invariant.joins

use Rattle.std.proofs.Common.{map, arith, bytes_eq}
use Rattle.std.specs.HashMap as hash
use Rattle.std.proofs.lemmas.Map.Text.{hash_map_updates_str}
use Rattle.gql_cycles.specs.Names.{row_of}
use Rattle.gql_cycles.specs.NameGraph.{names_of}
use Rattle.gql_cycles.proofs.Placing.{noded_more, noded_all, names_length, name_at}
use Rattle.gql_cycles.proofs.name_graph.nodes_of.Goals as goal

pub loop-node-preserved : goal.loop-node-preserved
loop-node-preserved c = noded_more (names_of (map row_of c.args.rows.now)) (λ q. hash.get_by (λ k. bytes_eq q k.now) c.loop-node.nodes) (λ q. hash.get_by (λ k. bytes_eq q k.now) c.insert.new.self)
    c.loop-node.node c.index-rows-node.result.name.now
    (name_at row_of c.args.rows.now c.loop-node.node c.index-rows-node.result c.loop-node-test.true c.index-rows-node.is)
    (omega (arith, names_length row_of c.args.rows.now, c.loop-node-test.true))
    (λ q. hash_map_updates_str c.index-rows-node.result.name.now c.loop-node.nodes c.insert.new.self _ c.in_ok-insert.ensures.updates q)
    c.loop-node.invariant

pub returns : goal.returns
returns c = noded_all (names_of (map row_of c.args.rows.now)) (λ q. hash.get_by (λ k. bytes_eq q k.now) c.loop-node.nodes) c.loop-node.node
    (omega (arith, names_length row_of c.args.rows.now, c.loop-node-test.false)) c.loop-node.invariant

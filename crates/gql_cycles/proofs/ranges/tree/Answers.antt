use Rattle.std.proofs.Common.{map, length, ap, ◌∙◌}
use Rattle.std.proofs.lemmas.List.{length-map, map-append}
use Rattle.gql_cycles.proofs.Rowing.{tree_of}
use Rattle.gql_cycles.proofs.ranges.tree.Goals as goal

pub returns : goal.returns
returns c = tree_of (map (λ v. v.items) c.args.ranges.now) (map (λ v. v.items) c.args.ends.now) (map (λ v. v.items) c.in_ok-graph.graph.items) (map (λ v. v.items) c.in_ok-leaves.leaves.items) (map (λ v. v.items) c.in_ok-nodes.nodes.items)
    (map (λ v. v.items) c.append.new.self.items) (map (λ v. v.items) c.append-2.new.self.items) (length c.args.ends.now) (length c.args.ranges.now)
    (length-map c.args.ends.now (λ v. v.items)) (length-map c.args.ranges.now (λ v. v.items)) c.in_ok-graph.ensures c.in_ok-leaves.ensures
    (ap (map (λ v. v.items)) c.in_ok-append.ensures.items ∙ map-append (λ v. v.items) c.in_ok-graph.graph.items c.in_ok-leaves.leaves.items)
    (ap (map (λ v. v.items)) c.in_ok-append-2.ensures.items ∙ map-append (λ v. v.items) c.append.new.self.items c.in_ok-nodes.nodes.items)
    (length-map c.in_ok-nodes.nodes.items (λ v. v.items) ∙ c.in_ok-nodes.ensures.length) c.in_ok-nodes.ensures.rows

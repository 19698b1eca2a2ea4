use Rattle.std.proofs.Common.{◌≡◌, ◌<◌, ◌+◌, [], length, map, get_or, ◌∙◌, ap, subst, sym, refl, arith}
use Rattle.std.specs.Vec.{with_item}
use Rattle.std.proofs.lemmas.List.{length-map, get_or_default}
use Rattle.gql_cycles.proofs.Steps.{follow_steps, end_within}
use Rattle.gql_cycles.proofs.walk.follow_edge.Goals as goal
use Rattle.gql_cycles.proofs.walk.follow_edge.Goals.{After-ends_of}

-- the number of the edge
number : (c : After-ends_of) → c.index-next_edges.result.now ≡ get_or c.args.walk.now.next_edges.items c.node_of-node.result 0
number c = c.index-next_edges.ensures ∙ get_or_default c.args.walk.now.next_edges.items c.node_of-node.result c.index-next_edges.result.now 0 c.node_of-node.ensures.next_edges

more : (c : After-ends_of) → c.index-next_edges.result.now < length (get_or (map (λ v. v.items) c.args.edges.now) c.node_of-node.result [])
more c =
    let graph = map (λ v. v.items) c.args.edges.now in
    let h : get_or c.args.walk.now.next_edges.items c.node_of-node.result 0 < length (get_or graph c.node_of-node.result []) =
    subst (λ x. get_or c.args.walk.now.next_edges.items x 0 < length (get_or graph x [])) (sym c.node_of-node.ensures.value) c.requires.more in
    omega (arith, h, number c)

pub meet-requires-clause-end : goal.meet-requires-clause-end
meet-requires-clause-end c =
    let m = more (goal.at.meet-requires-clause-end c).After-ends_of in
    let h = end_within (map (λ v. v.items) c.args.edges.now) c.node_of-node.result c.index-next_edges.result.now c.ends_of.result.now c.requires.graph c.ends_of.ensures (omega (arith, m, ap length c.ends_of.ensures)) in
    omega (arith, h, length-map c.args.edges.now (λ v. v.items))

pub returns : goal.returns
returns c = follow_steps (map (λ v. v.items) c.args.edges.now) c.args.walk.now c.meet.new.walk
    (record c.meet.new.walk { next_edges = with_item c.meet.new.walk.next_edges c.node_of-node.result (c.index-next_edges.result.now + 1) })
    c.args.at c.node_of-node.result c.index-next_edges.result.now (get_or c.ends_of.result.now c.index-next_edges.result.now 0) c.requires.walk c.requires.at c.node_of-node.ensures.value
    (number (goal.at.returns c).After-ends_of) (more (goal.at.returns c).After-ends_of)
    (ap (λ xs. get_or xs c.index-next_edges.result.now 0) c.ends_of.ensures)
    c.in_ok-meet.ensures refl refl refl refl refl

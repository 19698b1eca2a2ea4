use Rattle.std.proofs.Common.{◌≡◌, map, get_or, ◌∙◌, arith}
use Rattle.std.proofs.lemmas.List.{length-map, get_or_default}
use Rattle.gql_cycles.proofs.Steps.{called, node_called}
use Rattle.gql_cycles.proofs.walk.node_of.Goals as goal
use Rattle.gql_cycles.proofs.walk.node_of.Goals.{After-index}

pub index-requires : goal.index-requires
index-requires c = let h = called (map (λ v. v.items) c.args.edges.now) c.args.walk.now c.args.at c.requires.walk c.requires.at in omega (arith, h, c.args.walk.now.path.ok.0)

value : (c : After-index) → c.index.result.now ≡ get_or c.args.walk.now.path.items c.args.at 0
value c =
    let h = called (map (λ v. v.items) c.args.edges.now) c.args.walk.now c.args.at c.requires.walk c.requires.at in
    c.index.ensures ∙ get_or_default c.args.walk.now.path.items c.args.at c.index.result.now 0 h

pub returns-clause-value : goal.returns-clause-value
returns-clause-value c = value (goal.at.returns-clause-value c).After-index

pub returns-clause-edges : goal.returns-clause-edges
returns-clause-edges c =
    let h = node_called (map (λ v. v.items) c.args.edges.now) c.args.walk.now c.args.at c.requires.walk c.requires.at in
    omega (arith, h, value (goal.at.returns-clause-edges c).After-index, length-map c.args.edges.now (λ v. v.items))

pub returns-clause-next_edges : goal.returns-clause-next_edges
returns-clause-next_edges c =
    let h = node_called (map (λ v. v.items) c.args.edges.now) c.args.walk.now c.args.at c.requires.walk c.requires.at in
    omega (arith, h, value (goal.at.returns-clause-next_edges c).After-index, c.requires.walk.next_edges_are)

pub returns-clause-path : goal.returns-clause-path
returns-clause-path c = called (map (λ v. v.items) c.args.edges.now) c.args.walk.now c.args.at c.requires.walk c.requires.at

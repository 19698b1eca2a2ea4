use Rattle.std.proofs.Common.{◌≡◌, ◌<◌, map, length, Some, bytes_eq, ap, sym, rules}
use Rattle.std.specs.HashMap as hash
use Rattle.gql_cycles.specs.Names.{row_of}
use Rattle.gql_cycles.proofs.Joining.{adds_answer}
use Rattle.gql_cycles.proofs.name_graph.add_row.Goals as goal

pub returns-in_ok-add_leads : goal.returns-in_ok-add_leads
returns-in_ok-add_leads c =
    let is_at : hash.get_by (λ k. bytes_eq c.args.row.now.name.now k.now) c.args.nodes.now ≡ Some c.in-Some.node.now = search rules in
    let fits : c.in-Some.node.now < length c.args.edges.now.items = c.requires c.in-Some.node.now is_at in
    adds_answer (λ v. v.items) (λ b. b.now) (λ q. hash.get_by (λ k. bytes_eq q k.now) c.args.nodes.now) (row_of c.args.row.now) c.args.edges.now.items
    c.in-Some.node.now c.index_mut-found.result.now c.add_leads.new.found c.deref.result.now is_at fits c.index_mut-found.ensures.value
    (ap (λ bs. map (λ b. b.now) bs) (sym c.deref.ensures.value)) c.in_ok-add_leads.ensures

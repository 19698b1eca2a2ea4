use Rattle.std.proofs.Common.{◌≡◌, ◌∙◌, ℕ, List, ap, Bor, bytes_eq, flat_map, subst}
use Rattle.std.specs.HashMap as hash
use Rattle.gql_ast.specs.declared.executable.Fragment.{Fragment}
use Rattle.gql_merge.proofs.SpreadWalks.{places_from}
use Rattle.gql_merge.specs.FieldSets.{list_of}
use Rattle.gql_merge.proofs.spreading.own_body.Goals as goal

pub returns-clause-spreads : goal.returns-clause-spreads
returns-clause-spreads c =
    places_from (λ q. hash.get_by (λ k. bytes_eq q k.now) c.args.places.now) c.args.member.now c.as_slice.result.now c.in_ok-names.names.items c.in_ok-spreads.spreads.items
    (c.as_slice.ensures ∙ ap (λ (x : Fragment). x.selections) c.get.ensures) c.in_ok-names.ensures
    (subst (λ (ns : List (Bor (List ℕ))). c.in_ok-spreads.spreads.items ≡ flat_map (λ n. list_of (hash.get_by (λ k. bytes_eq n.now k.now) c.args.places.now)) ns)
    c.as_slice-2.ensures.value c.in_ok-spreads.ensures)

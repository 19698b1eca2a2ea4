use Rattle.std.proofs.Common.{◌≡◌, map, rules, subst, sym}
use Rattle.gql_types.specs.Possible.{in_order}
use Rattle.gql_intro.specs.SortedNames.{AreSorted}
use Rattle.gql_intro.proofs.InOrder.{sorted_in_order}
use Rattle.gql_intro.proofs.sorted_names.SortedNames.new.Goals as goal

pub invariant_of-result : goal.invariant_of-result
invariant_of-result c =
    let is : c.add.new.self ≡ in_order (map (λ n. n.now) c.args.names.items) = search rules in
    subst AreSorted (sym is) (sorted_in_order (map (λ n. n.now) c.args.names.items))

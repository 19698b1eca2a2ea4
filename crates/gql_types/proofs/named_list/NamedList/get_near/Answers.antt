use Rattle.std.proofs.Common.{◌≡◌, ◌∙◌, Some, ap, bytes_eq, find, option_and_then, rules, slice_get, sym}
use Rattle.std.specs.List.{position_from}
use Rattle.gql_types.proofs.Places.{found_there}
use Rattle.gql_types.proofs.named_list.NamedList.get_near.Goals as goal

pub returns-then-is_at : goal.returns-then-is_at
returns-then-is_at g c =
    let there : position_from (λ x. bytes_eq c.args.name.now (g.T.HasName.name x)) 0 c.self.inside.things.items ≡ Some c.args.place = search rules in
    let found : slice_get c.self.inside.things.items c.args.place ≡ find (λ x. bytes_eq c.args.name.now (g.T.HasName.name x)) c.self.inside.things.items
    = ap (λ o. option_and_then (λ i. slice_get c.self.inside.things.items i) o) (sym there)
    ∙ found_there (λ x. bytes_eq c.args.name.now (g.T.HasName.name x)) c.self.inside.things.items in
    search rules

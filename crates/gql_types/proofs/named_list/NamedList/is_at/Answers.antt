use Rattle.std.proofs.Common.{◌≡◌, Some, bytes_eq, map, rules, slice_get, subst, sym}
use Rattle.std.specs.List.{position_from}
use Rattle.gql_types.specs.Names.{AreOnce}
use Rattle.gql_types.proofs.Once.{once_placed}
use Rattle.gql_types.proofs.named_list.NamedList.is_at.Goals as goal

pub returns-in-Some : goal.returns-in-Some
returns-in-Some g c = λ is.
    let once : AreOnce (map g.T.HasName.name c.self.inside.things.items) = search rules in
    let there : slice_get c.self.inside.things.items c.args.place ≡ Some c.in-Some.thing.now = search rules in
    let same : c.args.name.now ≡ g.T.HasName.name c.in-Some.thing.now = search rules in
    let found : position_from (λ x. bytes_eq c.args.name.now (g.T.HasName.name x)) 0 c.self.inside.things.items ≡ Some c.args.place =
    subst (λ q. position_from (λ x. bytes_eq q (g.T.HasName.name x)) 0 c.self.inside.things.items ≡ Some c.args.place) (sym same)
    (once_placed g.T.HasName.name c.self.inside.things.items c.args.place c.in-Some.thing.now once there) in
    search rules

use Rattle.std.proofs.Common.{[], ap, length, map, subst}
use Rattle.gql_types.specs.EditedTypes.{AreMade}
use Rattle.gql_types.specs.Sites.{site}
use Rattle.gql_types.proofs.EditedTypes.{made_none}
use Rattle.gql_types.proofs.TypesAround.{around_same}
use Rattle.gql_types.proofs.types_around.types_around.Goals as goal

pub returns : goal.returns
returns c =
    let edit = c.args.edit.now in
    let none = made_none edit c.in_ok-list.list c.in_ok-list.ensures.types c.in_ok-list.ensures.roles c.in_ok-list.ensures.places c.in_ok-list.ensures.prints in
    let first = c.in_ok-add_kept.ensures [] none in
    let second = c.in_ok-add_types.ensures _ first in
    subst (λ ds. AreMade edit ds c.add_kept-2.new.list)
    (around_same edit.schema.now.types (map site c.args.definitions.now) c.args.until c.args.past (length c.types-count.result.now) (ap length c.types-count.ensures))
    (c.in_ok-add_kept-2.ensures _ second)

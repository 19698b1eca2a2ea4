use Rattle.std.proofs.Common.{[]}
use Rattle.gql_types.proofs.EditedTypes.{made_none}
use Rattle.gql_types.proofs.edited_types.all_types.Goals as goal

pub returns : goal.returns
returns c = c.in_ok-add_types.ensures [] (made_none c.args.edit.now c.in_ok-list.list c.in_ok-list.ensures.types c.in_ok-list.ensures.roles c.in_ok-list.ensures.places c.in_ok-list.ensures.prints)

-- The edit that the changes of a call are.
use Rattle.std.specs.Prelude.{List, map}
use Rattle.gql_registry.specs.Edits.{Change, Edit, put, remove, put_data, set_data}
use Rattle.gql_registry.specs.declared.change.Change.{Change as GivenChange}
use Rattle.gql_registry.specs.declared.change.Change.TheVariants as given
use Rattle.serde_json.specs.View.{view}

-- the change that one of a call is
abbrev pub change_of : GivenChange → Change
change_of (given.Put side name bytes) = put side name bytes.now
change_of (given.Remove side name) = remove side name
change_of (given.PutData bytes) = put_data bytes.now
change_of (given.SetData value) = set_data (view value.now)

-- the changes of a call, in their order
abbrev pub edit_of : List GivenChange → Edit
edit_of = map change_of

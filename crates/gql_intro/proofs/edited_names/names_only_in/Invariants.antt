use Rattle.std.proofs.Common.{◌≡◌, filter, take}
use Rattle.gql_intro.specs.EditedNames.{is_only_in}
use Rattle.gql_intro.proofs.edited_names.names_only_in.Given as goal

abbrev pub invariant-loop-name : goal.invariant-loop-name
invariant-loop-name l = l.found.items ≡ filter (is_only_in l.schema l.other) (take l.name-index l.names)

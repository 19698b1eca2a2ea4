use Rattle.std.proofs.Common.{◌≡◌, map, take}
use Rattle.gql_built_in.specs.BuiltInTables.{field_of_row}
use Rattle.gql_built_in.proofs.tables.fields_of.Given as goal

abbrev pub invariant-rows : goal.invariant-rows
invariant-rows l = l.fields ≡ map field_of_row (take l.row-index l.rows)

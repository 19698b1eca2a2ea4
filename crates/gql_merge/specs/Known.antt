-- Helper definitions for private contracts: a field whose definition is known, as specifications
-- see it.
use Rattle.gql_merge.specs.FieldNodes.{FieldInfo}
use Rattle.gql_merge.specs.FieldSets.{own_name}
use Rattle.gql_merge.specs.declared.known.KnownField.{KnownField}

-- what is compared of the field
abbrev pub info_in : KnownField → FieldInfo
info_in x = record {
  file = x.file.now;
  start = (own_name x.field.now.alias x.field.now.name).place;
  response_name = (own_name x.field.now.alias x.field.now.name).text;
  parent = x.parent;
  of_object = x.of_object;
  call = x.call;
  shape = x.shape;
}

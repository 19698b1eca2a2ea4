-- Helper definitions for private contracts: the fields that the rows of a table define.
use Rattle.gql_ast.specs.declared.type_ref.TypeRef.{TypeRef}
use Rattle.gql_ast.specs.declared.type_system.FieldDefinition.{FieldDefinition}
use Rattle.gql_built_in.specs.declared.tables.TypeWord.{TypeWord}
use Rattle.gql_built_in.specs.declared.tables.TypeWord.TheVariants as w
use Rattle.gql_built_in.specs.declared.tables.FieldRow.{FieldRow}
use Rattle.gql_built_in.specs.declared.tables.FieldRow.TheVariants as f
use Rattle.gql_built_in.specs.BuiltIn.{include_deprecated}
use Rattle.gql_built_in.specs.BuiltInWords.{named, required, list_of, required_list_of, field, field_with}

-- the type of a row: T, T!, [T!] or [T!]!
abbrev pub type_of_word : TypeWord → TypeRef
type_of_word (w.Named name) = named name.now
type_of_word (w.Required name) = required (named name.now)
type_of_word (w.List name) = list_of (named name.now)
type_of_word (w.RequiredList name) = required_list_of (named name.now)

-- the field that a row defines
abbrev pub field_of_row : FieldRow → FieldDefinition
field_of_row (f.Plain name word) = field name.now (type_of_word word)
field_of_row (f.ShowsDeprecated name word) = field_with name.now include_deprecated
    (type_of_word word)

-- Required arguments and input fields (GraphQL specification, 3.6.1 and 3.10).
use Rattle.std.specs.Prelude.{◌&&◌, Bool, true, false, not, is_some}
use Rattle.gql_ast.specs.declared.type_system.InputValueDefinition.{InputValueDefinition}
use Rattle.gql_types.specs.Written.{Written, named, listed, required, written}

-- whether a type is Non-Null
abbrev pub is_non_null : Written → Bool
is_non_null (required t) = true
is_non_null (listed t) = false
is_non_null (named n) = false

-- whether an input is required: its type is Non-Null, and it has no default value
abbrev pub is_required : Written → Bool → Bool
is_required t has_default = is_non_null t && not has_default

-- whether an argument or an input field is required, by its definition
abbrev pub is_required_input : InputValueDefinition → Bool
is_required_input d = is_required (written d.of_type) (is_some d.default)

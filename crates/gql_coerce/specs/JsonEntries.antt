-- The members that an object is to have, from an object of JSON.
use Rattle.std.specs.Prelude.{List, String, find, not, Option, option_map}
use Rattle.std.specs.Global.{Global}
use Rattle.gql_ast.specs.declared.type_system.InputValueDefinition.{InputValueDefinition}
use Rattle.gql_built_in.specs.declared.sited.Sited.{Sited}
use Rattle.serde_json.specs.View.{view, members_view}
use Rattle.serde_json.specs.declared.value.Value.{Value}
use Rattle.gql_coerce.specs.Coercion.{Entry, is_defined}
use Rattle.gql_coerce.specs.Inputs.{Field, all_fields, json_input, json_fields}
use Rattle.gql_coerce.specs.declared.json_entries.JsonEntry.{JsonEntry}

-- a member that an object is to have
abbrev pub entry_of : JsonEntry → Entry
entry_of e = record {
  name = e.name.now;
  definition = option_map (λ d. d.now) e.definition;
  given = option_map (λ v. json_input (view v.now)) e.given;
}

-- the fields that an object of JSON gives
abbrev pub fields_in : List (String Global × Value) → List Field
fields_in es = all_fields (json_fields (members_view es))

-- the first field that is not defined
abbrev pub first_unknown : List (Sited InputValueDefinition) → List Field → Option Field
first_unknown ds fs = find (λ (f : Field). not (is_defined ds f)) fs

-- The members that an object is to have, from an object literal.
use Rattle.std.specs.Prelude.{ℕ, List, map, find, not, is_some, bytes_eq, Option, option_map}
use Rattle.gql_ast.specs.declared.literal.ObjectField.{ObjectField}
use Rattle.gql_ast.specs.declared.type_system.InputValueDefinition.{InputValueDefinition}
use Rattle.gql_built_in.specs.declared.sited.Sited.{Sited}
use Rattle.serde_json.specs.Data.{Data}
use Rattle.gql_coerce.specs.Coercion.{Entry}
use Rattle.gql_coerce.specs.Inputs.{Field, firsts, literal, literal_field}
use Rattle.gql_coerce.specs.declared.literal_entries.LiteralEntry.{LiteralEntry}

-- a member that an object is to have
abbrev pub entry_of : Data → LiteralEntry → Entry
entry_of vs e = record {
  name = e.name.now;
  definition = option_map (λ d. d.now) e.definition;
  given = option_map (λ x. literal vs x.now) e.given;
}

-- the fields that an object literal gives
abbrev pub fields_in : Data → List ObjectField → List Field
fields_in vs fs = firsts (map (literal_field vs) fs)

-- the name of a field
abbrev pub name_of : ObjectField → List ℕ
name_of f = f.name.text

-- the first field that is not defined
abbrev pub first_unknown : List (Sited InputValueDefinition) → List ObjectField → Option ObjectField
first_unknown ds fs = find (λ (f : ObjectField). not (is_some (find
    (λ (d : Sited InputValueDefinition). bytes_eq (name_of f) d.node.name.text) ds))) fs

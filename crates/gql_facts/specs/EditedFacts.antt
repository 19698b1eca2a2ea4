-- The facts of a schema after an edit, by those before it.
use Rattle.std.specs.Prelude.{◌≡◌, ℕ, List, Option, find, bytes_eq, is_some, false, Some}
use Rattle.gql_types.specs.Edits.{KeepsOthers}
use Rattle.gql_types.specs.KeptTypes.{AreKeptAt}
use Rattle.gql_types.specs.Possible.{name_of}
use Rattle.gql_types.specs.Schemas.{type_named}
use Rattle.gql_types.specs.declared.schema.Schema.{Schema}
use Rattle.gql_types.specs.declared.schema_type.SchemaType.{SchemaType}
use Rattle.gql_facts.specs.Tables.{tables_of, type_entry}
use Rattle.gql_facts.specs.declared.schema_facts.SchemaFacts.{SchemaFacts}
use Rattle.gql_facts.specs.declared.schema_facts.TypeEntry.{TypeEntry}

-- the entry is that of the type after an edit of these names, whatever schema the facts before are
-- of, if the edit leaves the type as it is there or has its name
abbrev pub IsEntryAfter : SchemaFacts → List (List ℕ) → Schema → SchemaType → TypeEntry → Type 0
IsEntryAfter before names after t e = (old : Schema) → before ≡ tables_of old
    → (is_some (find (bytes_eq (name_of t)) names) ≡ false → type_named old (name_of t) ≡ Some t)
    → e ≡ type_entry after t

-- The facts are those of a schema whose types of other names than these are the same after an edit.
-- If a place is given for a type after it, the type stood there, and has the same possible types.
abbrev pub AreFactsBefore : SchemaFacts → List (List ℕ) → List (Option ℕ) → Schema → Type 0
AreFactsBefore before names places after = (old : Schema) × (before ≡ tables_of old)
    × KeepsOthers names old after × AreKeptAt old after places

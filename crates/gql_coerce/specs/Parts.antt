-- Helper definitions for private contracts: inputs, and the parts of lists and objects, as Rust
-- code has them.
use Rattle.std.specs.Prelude.{List, map, option_map}
use Rattle.serde_json.specs.View.{view}
use Rattle.gql_coerce.specs.Coercion.{Entry, are, unknown, no_object, defined_entry}
use Rattle.gql_coerce.specs.Coercion as spec
use Rattle.gql_coerce.specs.Inputs.{Input, Field, literal, json_input}
use Rattle.gql_coerce.specs.JsonEntries as of_json
use Rattle.gql_coerce.specs.LiteralEntries as of_literal
use Rattle.gql_coerce.specs.Scopes.{values_in}
use Rattle.gql_coerce.specs.declared.entry.Entries.{Entries}
use Rattle.gql_coerce.specs.declared.entry.Entries.TheVariants as entries
use Rattle.gql_coerce.specs.declared.entry.Entry.{Entry as AnEntry}
use Rattle.gql_coerce.specs.declared.entry.FoundEntries.{FoundEntries}
use Rattle.gql_coerce.specs.declared.entry.FoundEntries.TheVariants as found
use Rattle.gql_coerce.specs.declared.part.ListItems.{ListItems}
use Rattle.gql_coerce.specs.declared.part.ListItems.TheVariants as items
use Rattle.gql_coerce.specs.declared.part.ObjectFields.{ObjectFields}
use Rattle.gql_coerce.specs.declared.part.ObjectFields.TheVariants as fields
use Rattle.gql_coerce.specs.declared.part.Part.{Part}
use Rattle.gql_coerce.specs.declared.part.Part.TheVariants as part

-- an input
abbrev pub input_of : Part → Input
input_of (part.Literal x vs) = literal (values_in (option_map (λ v. view v.now) vs)) x.now
input_of (part.Json v) = json_input (view v.now)

-- the items of a list
abbrev pub items_in : ListItems → List Input
items_in (items.Literals xs vs) = map (literal (values_in (option_map (λ v. view v.now) vs))) xs.now
items_in (items.Json vs) = map (λ v. json_input (view v)) vs.now

-- the fields of an object
abbrev pub fields_of : ObjectFields → List Field
fields_of (fields.Literal fs vs) =
    of_literal.fields_in (values_in (option_map (λ v. view v.now) vs)) fs.now
fields_of (fields.Json ms) = of_json.fields_in ms.now.entries

-- a member that an object is to have
abbrev pub entry_of : AnEntry → Entry
entry_of e = record {
  name = e.name.now;
  definition = option_map (λ d. d.now) e.definition;
  given = option_map input_of e.given;
}

-- the members that an object is to have
abbrev pub entries_in : Entries → List Entry
entries_in (entries.Literals es vs) =
    map (of_literal.entry_of (values_in (option_map (λ v. view v.now) vs))) es.items
entries_in (entries.LiteralFields ds fs vs) = map (defined_entry
    (of_literal.fields_in (values_in (option_map (λ v. view v.now) vs)) fs.now)) ds.now
entries_in (entries.Json es) = map of_json.entry_of es.items
entries_in (entries.JsonFields ds ms) = map (defined_entry (of_json.fields_in ms.now.entries)) ds.now

-- what an object is made of
abbrev pub entries_of : FoundEntries → spec.Entries
entries_of (found.Are es) = are (entries_in es)
entries_of (found.Unknown n) = unknown n.now
entries_of found.NoObject = no_object

-- The parts of a schema that no stored operation or fragment reads: those whose removal breaks none.
use Rattle.std.specs.Prelude.{ℕ, ◌≡◌, ◌⊎◌, List, [], ◌∷◌, ◌++◌, Bool, true, false, Option, Some, None}
use Rattle.gql_ast.specs.declared.definition.Definition.{Definition}
use Rattle.gql_ast.specs.declared.fault.FileSide.TheVariants as side
use Rattle.gql_ast.specs.declared.type_system.DirectiveDefinition.{DirectiveDefinition}
use Rattle.gql_ast.specs.declared.type_system.FieldDefinition.{FieldDefinition}
use Rattle.gql_built_in.specs.declared.sited.Sited.{Sited}
use Rattle.gql_facts.specs.Worlds.{Facts}
use Rattle.gql_removal.specs.declared.removal.Removal.TheVariants as removal
use Rattle.gql_text.specs.declared.place.Place.{Place}
use Rattle.gql_types.specs.declared.schema.Schema.{Schema}
use Rattle.gql_types.specs.declared.schema_type.SchemaType.{SchemaType}
use Rattle.gql_removal.specs.Asked.{field_removal, name_of}
use Rattle.gql_usage.specs.Breaks.{IsUnread}
use Rattle.gql_usage.specs.declared.unread.Unread.{Unread}
use Rattle.gql_usage.specs.declared.unread.UnreadPart.{UnreadPart}
use Rattle.gql_usage.specs.declared.unread.UnreadPart.TheVariants as part

-- ---- entries

-- a part at a place of a schema file; built-in definitions are in none
abbrev pub at_place : Option (List ℕ) → Place → UnreadPart → Bool → List Unread
at_place None at p answered = []
at_place (Some name) at p answered = (record {
  part = p;
  place = record { side = side.Schema; file = name; place = at };
  is_answered = answered;
}) ∷ []

-- the entry of a field
abbrev pub field_entry : SchemaType → Sited FieldDefinition → List Unread
field_entry t f =
    at_place f.file f.node.name.place (part.Field (name_of t) f.node.name.text) false

-- the entry of a type, which says whether answers may hold objects of it
abbrev pub type_entry : (List ℕ → Bool) → SchemaType → List Unread
type_entry is_answered t = at_place t.definition.file t.definition.node.name.place
    (part.«Type» (name_of t)) (is_answered (name_of t))

-- the entry of a directive
abbrev pub directive_entry : Sited DirectiveDefinition → List Unread
directive_entry d = at_place d.file d.node.name.place (part.Directive d.node.name.text) false

-- ---- lists of entries

-- the entries if P holds, else none
abbrev pub IsListedIf : Type 0 → List Unread → List Unread → Type 0
IsListedIf P entries us = (P × (us ≡ entries)) ⊎ ((P → ⊥) × (us ≡ []))

-- entries of which P holds are added
abbrev pub Adds : (List Unread → Type 0) → List Unread → List Unread → Type 0
Adds P old new = (us : List Unread) × P us × (new ≡ old ++ us)

-- the entries of these things, in their order: those of a thing x are such that P x holds of them
pub data AreListed {A : Type 0} (P : A → List Unread → Type 0) : List A → List Unread → Type 0 where
  of_nothing : AreListed P [] []
  of_one_more : {xs : List A} {us vs : List Unread} (x : A) → AreListed P xs us → P x vs
      → AreListed P (xs ++ x ∷ []) (us ++ vs)

-- ---- fields

-- a field of a type, if nobody reads it
abbrev pub IsFieldListed : Facts → List Definition → SchemaType → Sited FieldDefinition
    → List Unread → Type 0
IsFieldListed facts ds t f =
    IsListedIf (IsUnread facts (field_removal t f.node.name.text) ds) (field_entry t f)

-- ---- types

-- nobody reads this type
abbrev pub IsTypeUnread : Facts → List Definition → SchemaType → Type 0
IsTypeUnread facts ds t = IsUnread facts (removal.«Type» (name_of t)) ds

-- a type in a file, if nobody reads it; or else those of its fields that nobody reads
abbrev pub IsListedInFile : Facts → List Definition → (List ℕ → Bool) → SchemaType → List Unread
    → Type 0
IsListedInFile facts ds is_answered t us =
    (IsTypeUnread facts ds t × (us ≡ type_entry is_answered t))
    ⊎ ((IsTypeUnread facts ds t → ⊥) × AreListed (IsFieldListed facts ds t) t.fields us)

-- whether a definition is in no file
abbrev pub is_built_in : Option (List ℕ) → Bool
is_built_in None = true
is_built_in (Some name) = false

-- what nobody reads of a type: of a built-in one, nothing is listed
abbrev pub IsTypeListed : Facts → List Definition → (List ℕ → Bool) → SchemaType → List Unread
    → Type 0
IsTypeListed facts ds is_answered t us =
    ((is_built_in t.definition.file ≡ true) × (us ≡ []))
    ⊎ ((is_built_in t.definition.file ≡ false) × IsListedInFile facts ds is_answered t us)

-- ---- directives

-- a directive, if nobody reads it
abbrev pub IsDirectiveListed : Facts → List Definition → Sited DirectiveDefinition → List Unread
    → Type 0
IsDirectiveListed facts ds d =
    IsListedIf (IsUnread facts (removal.Directive d.node.name.text) ds) (directive_entry d)

-- The parts of a schema that nobody reads: types and fields, in the order of the types, and then
-- directives.
abbrev pub AreUnreadParts : Facts → List Definition → (List ℕ → Bool) → Schema → List Unread → Type 0
AreUnreadParts facts ds is_answered s unread = (ts : List Unread) × (us : List Unread)
    × AreListed (IsTypeListed facts ds is_answered) s.types ts
    × AreListed (IsDirectiveListed facts ds) s.directives us
    × (unread ≡ ts ++ us)

-- Helper definitions for private contracts: definitions of types before and after those of a file.
use Rattle.std.specs.Prelude.{◌≡◌, ℕ, Option, Some, None, ◌+◌, ◌-◌, ◌≤◌, ◌++◌, List, [], ◌∷◌, drop, length, map, refl, take}
use Rattle.gql_ast.specs.declared.definition.Document.{Document}
use Rattle.gql_ast.specs.declared.files.Files.{Files}
use Rattle.gql_built_in.specs.BuiltIn.{built_in as all_built_in}
use Rattle.gql_types.specs.Definitions.{definitions, type_definitions}
use Rattle.gql_types.specs.EditedTypes.{definition_of}
use Rattle.gql_types.specs.Names.{AreOnce}
use Rattle.gql_types.specs.Outlines.{count_types, files_past, files_until, types_in}
use Rattle.gql_types.specs.Possible.{name_of}
use Rattle.gql_types.specs.declared.outline.FileOutline.{FileOutline}
use Rattle.gql_types.specs.declared.outline.Outline.{Outline}
use Rattle.gql_types.specs.declared.schema.Schema.{Schema}
use Rattle.gql_types.specs.declared.schema_type.SchemaType.{SchemaType}

-- these, between the first and the last of others, so many of each
abbrev pub sites_around : {D : Type 0} → ℕ → ℕ → List D → List D → List D
sites_around until past others these =
    take until others ++ these ++ drop (length others - past) others

-- among types are these built-in ones, those of the files before the one of this name, and those of
-- the files after it; the types have different names
pub record AreAround (built_in : ℕ) (name : List ℕ) (others : List (List ℕ × FileOutline))
    (types : List SchemaType) : Type 0 where
  pub once : AreOnce (map name_of types)
  pub within : built_in + count_types (files_until name others)
      + count_types (files_past name others) ≤ length types

-- these definitions, between those of the built-in types and of the files before the one of this name,
-- and those of the files after it
abbrev pub sites_in_place : {D : Type 0} → ℕ → List ℕ → List (List ℕ × FileOutline)
    → List D → List D → List D
sites_in_place built_in name others all these = sites_around
    (built_in + count_types (files_until name others)) (count_types (files_past name others)) all these

-- where the files are that an edit leaves: among those after it, if it puts a file, or those before it
abbrev pub others_around : Option Document → Outline → Outline → List (List ℕ × FileOutline)
others_around (Some document) before after = after.files
others_around None before after = before.files

-- The definitions of types after an edit that leaves this file are those of the built-in types, of the
-- file, and of the other files, which are those of the types before it.
pub record ArePlaced (name : List ℕ) (document : Option Document) (files : Files)
    (before after : Outline) (schema : Schema) : Type 0 where
  pub around : AreAround (length (type_definitions (all_built_in files.profile.floats))) name
      (others_around document before after) schema.types
  pub sites : type_definitions (definitions files)
      ≡ sites_in_place (length (type_definitions (all_built_in files.profile.floats))) name
      (others_around document before after) (map definition_of schema.types) (types_in document)

-- those of a file in the middle are replaced
example : {D : Type 0} (a b c d e : D)
    → sites_around 1 2 (a ∷ b ∷ c ∷ d ∷ []) (e ∷ []) ≡ a ∷ e ∷ c ∷ d ∷ []
example a b c d e = refl

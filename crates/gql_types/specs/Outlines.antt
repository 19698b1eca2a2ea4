-- What schema files give to the schema: how many types each defines, and its other definitions. An
-- edit of a file takes over what the other files give.
use Rattle.std.specs.Prelude.{◌≡◌, ℕ, ◌+◌, List, [], ◌∷◌, Option, Some, None, IsTrue, codes, flat_map, if◌then◌else◌, length, map, refl}
use Rattle.std.specs.BTreeMap.{is_at}
use Rattle.gql_ast.specs.FileMaps.{name_order, with_file, without_file}
use Rattle.gql_ast.specs.declared.definition.Document.{Document}
use Rattle.gql_ast.specs.declared.definition.Tree.{Tree}
use Rattle.gql_ast.specs.declared.files.Files.{Files}
use Rattle.gql_ast.specs.declared.type_system.TypeDefinition.{TypeDefinition}
use Rattle.gql_built_in.specs.declared.sited.Sited.{Sited}
use Rattle.gql_types.specs.Definitions.{definitions, in_order_of, type_definitions}
use Rattle.gql_types.specs.EditedTypes.{defined_name}
use Rattle.gql_types.specs.Names.{AreOnce}
use Rattle.gql_types.specs.Prints.{HaveOwnPrints}
use Rattle.gql_types.specs.Schemas.{schema_of}
use Rattle.gql_types.specs.Sites.{others_in}
use Rattle.gql_types.specs.declared.outline.FileOutline.{FileOutline}
use Rattle.gql_types.specs.declared.outline.Outline.{Outline}
use Rattle.gql_types.specs.declared.schema.Schema.{Schema}

-- the definitions of types in a file; none if there is no file
abbrev pub types_in : Option Document → List (Sited TypeDefinition)
types_in (Some document) = type_definitions (in_order_of document.definitions)
types_in None = []

-- what a file gives to the schema
abbrev pub outline_of : Document → FileOutline
outline_of document = record {
  types = length (type_definitions (in_order_of document.definitions));
  others = others_in (in_order_of document.definitions);
}

-- the same, under the name of the file
abbrev pub outline_at : List ℕ × Document → List ℕ × FileOutline
outline_at file = (file.0, outline_of file.1)

-- this is what each schema file gives to the schema; and where it is said that each type is defined
-- once, it is
pub record IsOutline (all : Files) (outline : Outline) : Type 0 where
  pub files : outline.files ≡ map outline_at all.schema
  pub once : IsTrue outline.are_once
      → AreOnce (map defined_name (type_definitions (definitions all)))

-- no two definitions of types have names of one print, so that each name is that of one definition
abbrev pub HaveOwnNamePrints : Files → Type 0
HaveOwnNamePrints files =
    HaveOwnPrints (map defined_name (type_definitions (definitions files)))

module _ {T : Type 0} where
  -- the files with this one in place of any of its name; or without the file of that name, if there is
  -- none to put
  abbrev pub edited_files : List (List ℕ × T) → List ℕ → Option T → List (List ℕ × T)
  edited_files files name (Some file) = with_file files name file
  edited_files files name None = without_file files name

-- The schema and the outline are those of files before an edit that makes these files: it puts this
-- file under its name, or removes the file of that name if there is none to put. The profile stays.
abbrev pub IsEditedFrom : List ℕ → Option Document → Files → Schema → Outline → Type 0
IsEditedFrom name document after schema outline = (before : Files)
    × (schema ≡ schema_of before) × IsOutline before outline
    × (after.schema ≡ edited_files before.schema name document)
    × (before.profile ≡ after.profile)

-- how many types these files define
abbrev pub count_types : List (List ℕ × FileOutline) → ℕ
count_types [] = 0
count_types (file ∷ files) = file.1.types + count_types files

-- the definitions of these files that are not of types
abbrev pub all_others : List (List ℕ × FileOutline) → List (Sited Tree)
all_others files = flat_map (λ (file : List ℕ × FileOutline). file.1.others) files

module _ {T : Type 0} where
  -- the files before the first of this name
  abbrev pub files_until : List ℕ → List (List ℕ × T) → List (List ℕ × T)
  files_until name [] = []
  files_until name (file ∷ files) =
      if is_at (name_order name) file.0 then [] else file ∷ files_until name files

  -- the files after the first of this name
  abbrev pub files_past : List ℕ → List (List ℕ × T) → List (List ℕ × T)
  files_past name [] = []
  files_past name (file ∷ files) =
      if is_at (name_order name) file.0 then files else files_past name files

-- three files, for the examples below
abbrev three : FileOutline → FileOutline → FileOutline → List (List ℕ × FileOutline)
three a b c = (codes "a", a) ∷ (codes "b", b) ∷ (codes "c", c) ∷ []

-- before `b` is `a`
example_until : (a b c : FileOutline)
    → files_until (codes "b") (three a b c) ≡ (codes "a", a) ∷ []
example_until a b c = refl

-- after it is `c`
example_past : (a b c : FileOutline)
    → files_past (codes "b") (three a b c) ≡ (codes "c", c) ∷ []
example_past a b c = refl

-- where there is no file of the name, all are before it, and none is after it
example_all_until : (a b c : FileOutline) → files_until (codes "d") (three a b c) ≡ three a b c
example_all_until a b c = refl

example_none_past : (a b c : FileOutline) → files_past (codes "d") (three a b c) ≡ []
example_none_past a b c = refl

-- the counts of all files are added
example_count : (b : FileOutline) → count_types (three (record { types = 2; others = [] }) b
    (record { types = 3; others = [] })) ≡ 2 + (b.types + 3)
example_count b = refl

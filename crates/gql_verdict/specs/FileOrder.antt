-- The order of definitions: by the bytes of the names of their files, then by their places.
use Rattle.std.specs.Prelude.{◌≡◌, ◌<◌, ℕ, List, Contains}
use Rattle.std.specs.List.{AllPairs}
use Rattle.std.specs.declared.cmp.Ordering.TheVariants.{Less}
use Rattle.gql_ast.specs.Trees.{id_of}
use Rattle.gql_ast.specs.declared.definition.Definition.{Definition}
use Rattle.gql_ast.specs.declared.definition.Document.{Document}
pub use Rattle.gql_readers.specs.Orders.{id_order}

-- a definition is before another
abbrev pub IsBefore : Definition → Definition → Type 0
IsBefore d e = id_order (id_of d) (id_of e) ≡ Less

-- each definition is before all that come later in the list
abbrev pub InFileOrder : List Definition → Type 0
InFileOrder = AllPairs IsBefore

-- the definitions of a file have its name, and their offsets rise
pub record ArePlaced (name : List ℕ) (definitions : List Definition) : Type 0 where
  pub named : (d : Definition) → Contains definitions d → d.file ≡ name
  pub rising : AllPairs (λ (d e : Definition). (id_of d).offset < (id_of e).offset) definitions

-- the definitions of each file have its name, and their offsets rise
abbrev pub AreFilesPlaced : List (List ℕ × Document) → Type 0
AreFilesPlaced documents = (file : List ℕ × Document) → Contains documents file
    → ArePlaced file.0 file.1.definitions

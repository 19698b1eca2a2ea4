-- The law of introspection. `src/laws.rt` has a function for it.
use Rattle.std.specs.Prelude.{◌≡◌, ℕ, List, Some}
use Rattle.gql_ast.specs.declared.files.Files.{Files}
use Rattle.gql_types.specs.Schemas.{schema_of}
use Rattle.gql_types.specs.Written.{Written}
use Rattle.gql_intro.specs.AnswerTypes.{HasField, HasType}
use Rattle.gql_intro.specs.InFiles.{IsIntrospectable, resolve_in}
use Rattle.gql_intro.specs.Introspection.{Given}
use Rattle.gql_intro.specs.Nodes.{Answer, Node}
use Rattle.gql_intro.specs.SchemaNodes.{AreNodesOf, IsNodeOf}

-- the field of this name of a node resolves to an answer of this type, whose nodes are nodes of the
-- schema
abbrev pub IsAnswered : Files → Given → Node → List ℕ → Written → Type 0
IsAnswered files given n name t = (a : Answer) × (resolve_in files given n name ≡ Some a)
    × HasType (schema_of files) t a × AreNodesOf (schema_of files) a

-- each field of a node of the schema resolves to an answer of the field's type
abbrev pub AnswersHaveTheirTypes : Type 0
AnswersHaveTheirTypes = (files : Files) (given : Given) (n : Node) (name : List ℕ) (t : Written)
    → IsIntrospectable files → IsNodeOf (schema_of files) n → HasField (schema_of files) n name t
    → IsAnswered files given n name t

-- What the definitions of schema files give to the rules that are checked for all files together:
-- how many define a type, and those that define none.
use Rattle.std.specs.Prelude.{◌≡◌, ℕ, List, flat_map, length}
use Rattle.std.specs.List.{AllZip, sum_by}
use Rattle.gql_ast.specs.declared.definition.Document.{Document}
use Rattle.gql_ast.specs.declared.definition.Tree.{Tree}
use Rattle.gql_built_in.specs.declared.sited.Sited.{Sited}
use Rattle.gql_types.specs.Definitions.{in_order_of}
use Rattle.gql_node_rules.specs.Nodes.{types}
use Rattle.gql_node_rules.specs.OtherTrees.{others}
use Rattle.gql_node_rules.specs.declared.file_check.FileCheck.{FileCheck}
use Rattle.gql_node_rules.specs.declared.file_definitions.FileDefinitions.{FileDefinitions}

-- what the definitions of this file give
pub record AreDefinitionsOf (d : Document) (own : FileDefinitions) : Type 0 where
  -- how many define a type; one of Float counts too
  pub types : own.types ≡ length (types (in_order_of d.definitions))
  -- those that define no type, each with its file
  pub others : in_order_of own.others ≡ others (in_order_of d.definitions)

-- these checks, one for each file, hold what the definitions of the files give
abbrev pub HoldDefinitionsOf : List (List ℕ × Document) → List (List ℕ × FileCheck) → Type 0
HoldDefinitionsOf files checks = AllZip (λ (file : List ℕ × Document) (check : List ℕ × FileCheck).
    AreDefinitionsOf file.1 check.1.definitions) files checks

-- how many definitions of types these checks count
abbrev pub types_counted : List (List ℕ × FileCheck) → ℕ
types_counted checks = sum_by (λ (check : List ℕ × FileCheck). check.1.definitions.types) checks

-- the definitions in these checks, which define no type
abbrev pub others_held : List (List ℕ × FileCheck) → List (Sited Tree)
others_held checks = flat_map
    (λ (check : List ℕ × FileCheck). in_order_of check.1.definitions.others) checks

-- Selections and fields, with the files that they are in.
use Rattle.std.specs.Prelude.{ℕ, List, map}
use Rattle.gql_ast.specs.declared.executable.Field.{Field}
use Rattle.gql_ast.specs.declared.executable.Selection.{Selection}

-- a selection, and the file that it is in
pub record FileSelection : Type 0 where
  pub file : List ℕ
  pub selection : Selection

-- a field, and the file that it is in
pub record FieldNode : Type 0 where
  pub file : List ℕ
  pub field : Field

-- the selections of a set in a file
abbrev pub in_file : List ℕ → List Selection → List FileSelection
in_file file xs = map (λ x. record { file = file; selection = x }) xs

-- what takes the place of a selection: a field, or other selections, or none
pub data Part : Type 0 where
  node : FieldNode → Part
  selections : List FileSelection → Part

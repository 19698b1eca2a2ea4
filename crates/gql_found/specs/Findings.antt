-- Faults and operations, as a check lists them.
use Rattle.std.specs.Prelude.{◌≡◌, List, [], ◌∷◌, map}
use Rattle.gql_ast.specs.declared.definition.Definition.{Definition}
use Rattle.gql_ast.specs.declared.definition.Tree.{Tree}
use Rattle.gql_ast.specs.declared.definition.Tree.TheVariants as tree
use Rattle.gql_ast.specs.declared.fault.Fault.{Fault}
use Rattle.gql_ast.specs.declared.files.Files.{Files}
use Rattle.gql_found.specs.Homes.{definition_of}
use Rattle.gql_found.specs.Owners.{IsOwnerAt, name_of}
use Rattle.gql_found.specs.Spots.{spot_of, start_of}
use Rattle.gql_findings.specs.declared.finding.Finding.{Finding}
use Rattle.gql_findings.specs.declared.finding.OperationAt.{OperationAt}
use Rattle.gql_found.specs.declared.sources.Sources.{Sources}

-- a fault of a report of these files, with its places in given texts, and the definition that owns
-- it, or the one that it is in
pub record IsFinding (s : Sources) (files : Files) (definitions : List Definition) (fault : Fault)
    (x : Finding) : Type 0 where
  pub rule : x.rule ≡ fault.rule
  pub about : x.about ≡ fault.about
  pub spots : x.spots.items ≡ map (spot_of s) fault.places
  pub owner : IsOwnerAt s definitions fault.owner x.owner
  pub definition : x.definition ≡ definition_of files fault

-- an operation, and where it starts; nothing for another definition
abbrev pub operation_in : Sources → Definition → List OperationAt
operation_in s d = at d.tree where
  at : Tree → List OperationAt
  at (tree.Operation o) =
      record { kind = o.kind; name = name_of o; spot = spot_of s (start_of d) } ∷ []
  at _ = []

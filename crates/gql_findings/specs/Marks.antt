-- What faults, causes and operations are known by, in whatever file and on whatever line they are.
use Rattle.std.specs.Prelude.{ℕ, ◌+◌, List, [], Bool, ◌&&◌, ◌==◌, bytes_eq, Option, Some, None, option_map, unwrap_or, slice_get, map}
use Rattle.gql_ast.specs.Rules.{name_of}
use Rattle.gql_ast.specs.declared.executable.OperationKind.{OperationKind}
use Rattle.gql_ast.specs.declared.executable.OperationKind.TheVariants.{Query, Mutation, Subscription}
use Rattle.gql_findings.specs.Sources.{TextFile, line_at}
use Rattle.gql_findings.specs.declared.finding.Finding.{Finding}
use Rattle.gql_findings.specs.declared.finding.Findings.{Findings}
use Rattle.gql_findings.specs.declared.finding.Owner.{Owner}
use Rattle.gql_findings.specs.declared.finding.Owner.TheVariants.{Fragment, Operation, TypeSystem}
use Rattle.gql_findings.specs.declared.finding.OwnerAt.{OwnerAt}
use Rattle.gql_findings.specs.declared.finding.Spot.{Spot}
use Rattle.gql_findings.specs.declared.finding.SystemKind.{SystemKind}
use Rattle.gql_findings.specs.declared.finding.SystemKind.TheVariants as system
use Rattle.gql_findings.specs.Tokens.{token_at}

-- What something is known by: the kind and the name of a definition, a rule, the text that a fault
-- is about, and the tokens at its first and at its second place. Parts that do not matter, or that
-- it does not have, are empty.
pub record Mark : Type 0 where
  pub kind : ℕ
  pub rule : List ℕ
  pub about : List ℕ
  pub first : List ℕ
  pub second : List ℕ
  pub owner : List ℕ

-- whether two marks are equal in every part
abbrev pub same_mark : Mark → Mark → Bool
same_mark a b = a.kind == b.kind && bytes_eq a.rule b.rule && bytes_eq a.about b.about
    && bytes_eq a.first b.first && bytes_eq a.second b.second && bytes_eq a.owner b.owner

-- the path, as it is shown, of the file of a place; empty where the list has no such file
abbrev pub label_at : List TextFile → Spot → List ℕ
label_at sources spot = unwrap_or (option_map (λ s. s.label) (slice_get sources spot.source)) []

-- the path of the file of a place below its folder; empty where the list has no such file
abbrev pub path_at : List TextFile → Spot → List ℕ
path_at sources spot = unwrap_or (option_map (λ s. s.path) (slice_get sources spot.source)) []

-- the line that a place is in; empty where the list has no such file
abbrev pub line_of : List TextFile → Spot → List ℕ
line_of sources spot =
    unwrap_or (option_map (λ s. line_at s.text spot.line) (slice_get sources spot.source)) []

-- the number of a kind of operation
abbrev pub kind_number : OperationKind → ℕ
kind_number Query = 2
kind_number Mutation = 3
kind_number Subscription = 4

-- the number of a form of a definition of the type system
abbrev pub system_number : SystemKind → ℕ
system_number system.Schema = 8
system_number system.Type = 9
system_number system.Directive = 10
system_number system.SchemaExtension = 11
system_number system.TypeExtension = 12

-- the number of a kind of definition: a fragment, an operation with a name, one without, or a
-- definition of the type system
abbrev pub owner_kind : Owner → ℕ
owner_kind (Fragment name) = 1
owner_kind (Operation kind (Some name)) = kind_number kind
owner_kind (Operation kind None) = kind_number kind + 3
owner_kind (TypeSystem kind name) = system_number kind

-- the name of a definition; empty for one without
abbrev pub owner_name : Owner → List ℕ
owner_name (Fragment name) = name
owner_name (Operation kind name) = unwrap_or name []
owner_name (TypeSystem kind name) = unwrap_or name []

-- the definition that owns a fault, or else the one that it has its first place in
abbrev pub owner_or : Option OwnerAt → Option Owner → Option Owner
owner_or (Some o) definition = Some o.owner
owner_or None definition = definition

-- the definition that a fault is known by
abbrev pub definition_of : Finding → Option Owner
definition_of f = owner_or f.owner f.definition

-- the token at the place of this index of a fault; empty where the fault has no such place
abbrev pub token_in : List TextFile → Finding → ℕ → List ℕ
token_in sources f i = unwrap_or (option_map (token_at sources) (slice_get f.spots.items i)) []

-- A fault is known by its rule, the text that it is about, the kind and the name of its definition,
-- and the tokens at its first two places.
abbrev pub fault_mark : List TextFile → Finding → Mark
fault_mark sources f = record {
  kind = unwrap_or (option_map owner_kind (definition_of f)) 0;
  rule = name_of f.rule;
  about = f.about;
  first = token_in sources f 0;
  second = token_in sources f 1;
  owner = unwrap_or (option_map owner_name (definition_of f)) [];
}

-- A cause of faults is known by their rule and their text.
abbrev pub cause_mark : Finding → Mark
cause_mark f = record {
  kind = 0;
  rule = name_of f.rule;
  about = f.about;
  first = [];
  second = [];
  owner = [];
}

-- whether an operation has a name: 1, or else 0
abbrev pub has_name : Option (List ℕ) → ℕ
has_name (Some name) = 1
has_name None = 0

-- An operation is known by its name, and one without a name by having none.
abbrev pub operation_mark : Option (List ℕ) → Mark
operation_mark name = record {
  kind = has_name name;
  rule = [];
  about = unwrap_or name [];
  first = [];
  second = [];
  owner = [];
}

-- the marks of the faults
abbrev pub fault_marks : Findings → List Mark
fault_marks f = map (fault_mark f.sources.items) f.findings.items

-- the marks of all operations
abbrev pub operation_marks : Findings → List Mark
operation_marks f = map (λ o. operation_mark o.name) f.operations.items

-- the marks of the operations that are not served
abbrev pub affected_marks : Findings → List Mark
affected_marks f = map (λ o. operation_mark o.name) f.affected.items

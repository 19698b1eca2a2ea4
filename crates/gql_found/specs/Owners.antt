-- The definitions that own faults.
use Rattle.std.specs.Prelude.{ℕ, ◌≡◌, ◌&&◌, Bool, true, false, List, Contains, Option, Some, None, bytes_eq, nat_eq, option_map}
use Rattle.std.specs.List.{list_any}
use Rattle.gql_ast.specs.Trees as trees
use Rattle.gql_ast.specs.declared.definition.Definition.{Definition}
use Rattle.gql_ast.specs.declared.definition.Tree.{Tree}
use Rattle.gql_ast.specs.declared.definition.Tree.TheVariants as tree
use Rattle.gql_ast.specs.declared.executable.Operation.{Operation}
use Rattle.gql_ast.specs.declared.fault.Fault.{Fault}
use Rattle.gql_ast.specs.declared.fault.FilePlace.{FilePlace}
use Rattle.gql_ast.specs.declared.text.Name.{Name}
use Rattle.gql_found.specs.Spots.{spot_of, start_of}
use Rattle.gql_findings.specs.declared.finding.Owner.{Owner}
use Rattle.gql_findings.specs.declared.finding.Owner.TheVariants as owner
use Rattle.gql_findings.specs.declared.finding.OwnerAt.{OwnerAt}
use Rattle.gql_findings.specs.declared.finding.SystemKind.TheVariants as system
use Rattle.gql_found.specs.declared.sources.Sources.{Sources}

-- whether a definition starts at a place of a document file: it is in that file, at that offset
abbrev pub is_at : FilePlace → Definition → Bool
is_at p d = bytes_eq p.file d.file && nat_eq p.place.offset (trees.place_of d.tree).offset

-- whether a definition starts at a place of a document file, if there is one
abbrev pub is_at_owner : Option FilePlace → Definition → Bool
is_at_owner None d = false
is_at_owner (Some p) d = is_at p d

-- whether a definition owns a fault
abbrev pub is_owned_by : Definition → Fault → Bool
is_owned_by d f = is_at_owner f.owner d

-- whether a definition owns one of these faults
abbrev pub is_owner : List Fault → Definition → Bool
is_owner faults d = list_any (is_owned_by d) faults

-- the name of an operation, if it has one
abbrev pub name_of : Operation → Option (List ℕ)
name_of o = option_map (λ (n : Name). n.text) o.name

-- a definition, by its kind and its name
abbrev pub owner_of : Tree → Owner
owner_of (tree.Operation o) = owner.Operation o.kind (name_of o)
owner_of (tree.Fragment f) = owner.Fragment f.name.text
owner_of (tree.Schema d) = owner.TypeSystem system.Schema None
owner_of (tree.Type d) = owner.TypeSystem system.Type (Some d.name.text)
owner_of (tree.Directive d) = owner.TypeSystem system.Directive (Some d.name.text)
owner_of (tree.SchemaExtension e) = owner.TypeSystem system.SchemaExtension None
owner_of (tree.TypeExtension e) = owner.TypeSystem system.TypeExtension (Some e.name.text)

-- The definition that owns a fault, and where it starts: the one at the place of the owner, if
-- there is one.
pub data IsOwnerAt (s : Sources) (definitions : List Definition) : Option FilePlace
    → Option OwnerAt → Type 0 where
  -- the fault has no owner
  none : IsOwnerAt s definitions None None
  -- the owner is this definition
  found : {p : FilePlace} (d : Definition) → Contains definitions d → is_at p d ≡ true
      → IsOwnerAt s definitions (Some p)
      (Some (record { owner = owner_of d.tree; spot = spot_of s (start_of d) }))
  -- no definition is there
  missing : {p : FilePlace} → ((d : Definition) → Contains definitions d → is_at p d ≡ true → ⊥)
      → IsOwnerAt s definitions (Some p) None

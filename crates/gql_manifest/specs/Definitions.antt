-- What the definitions that manifests bring come to: their operations, and each fragment once.
use Rattle.std.specs.Prelude.{ℕ, ◌≡◌, ◌++◌, ◌∷◌, ◌⊎◌, [], List, Option, Some, None, bytes_eq, filter, not}
use Rattle.std.specs.List.{flat_map}
use Rattle.gql_ast.specs.declared.definition.Tree.{Tree}
use Rattle.gql_ast.specs.declared.definition.Tree.TheVariants as tree
use Rattle.gql_ast.specs.declared.text.Name.{Name}
use Rattle.gql_manifest.specs.Fragments as fragments
use Rattle.gql_manifest.specs.Fragments.{Fragment, IsDiffering, IsKept, fragment_from}
use Rattle.gql_manifest.specs.Gathering.{IsFresh, IsNameFault, Operation, operation_from, operations_of}
use Rattle.gql_manifest.specs.Origins.{Place, place_of}
use Rattle.gql_manifest.specs.Pieces.{Brought, OrMemory}
use Rattle.gql_manifest.specs.declared.fault.ManifestFault.{ManifestFault}
use Rattle.gql_manifest.specs.declared.fault.ManifestFault.TheVariants.{NotExecutable}
use Rattle.gql_manifest.specs.declared.gathered.Gathered.{Gathered}

-- ---- operations

-- the operation of a definition with this name
abbrev pub operation_named : Option Name → Brought → List Operation
operation_named None b = []
operation_named (Some name) b = operation_from name.text b.place b.text ∷ []

-- the operation of a definition with this tree, if it is one
abbrev pub operation_by : Tree → Brought → List Operation
operation_by (tree.Operation o) b = operation_named o.name b
operation_by (tree.Fragment f) b = []
operation_by (tree.Schema d) b = []
operation_by (tree.Type d) b = []
operation_by (tree.Directive d) b = []
operation_by (tree.SchemaExtension e) b = []
operation_by (tree.TypeExtension e) b = []

-- the operations among these definitions, in their order
abbrev pub operations_in : List Brought → List Operation
operations_in = flat_map (λ (b : Brought). operation_by b.tree b)

-- ---- fragments

-- the fragment that a definition with this name is
abbrev pub fragment_named : Name → Brought → Fragment
fragment_named name b = fragment_from name.text b.tokens b.text b.place

-- the fragment of a definition with this tree, if it is one
abbrev pub fragment_by : Tree → Brought → List Fragment
fragment_by (tree.Operation o) b = []
fragment_by (tree.Fragment f) b = fragment_named f.name b ∷ []
fragment_by (tree.Schema d) b = []
fragment_by (tree.Type d) b = []
fragment_by (tree.Directive d) b = []
fragment_by (tree.SchemaExtension e) b = []
fragment_by (tree.TypeExtension e) b = []

-- the fragments of other names
abbrev pub others : List ℕ → List Fragment → List Fragment
others name = filter (λ (f : Fragment). not (bytes_eq f.name name))

-- the first fragment of each name, in their order
abbrev pub firsts : List Fragment → List Fragment
firsts [] = []
firsts (f ∷ fs) = f ∷ others f.name (firsts fs)

-- the fragments among these definitions, as often as they are brought
abbrev pub all_fragments_in : List Brought → List Fragment
all_fragments_in = flat_map (λ (b : Brought). fragment_by b.tree b)

-- the fragments among these definitions, each once: the first of its name
abbrev pub fragments_in : List Brought → List Fragment
fragments_in bs = firsts (all_fragments_in bs)

-- ---- what is accepted

-- there is a name, and none of the operations has it
abbrev pub IsNewName : Option Name → List Operation → Type 0
IsNewName None operations = ⊥
IsNewName (Some name) operations = IsFresh name.text operations

-- none of these has the fragment's name, or the one that has it has the same tokens
abbrev pub IsNewOrSame : List Fragment → Fragment → Type 0
IsNewOrSame kept f = fragments.IsFresh f.name kept
    ⊎ ((k : Fragment) × IsKept f.name kept k × (k.tokens ≡ f.tokens))

-- a definition with this tree is accepted after these
abbrev pub IsAcceptedBy : Tree → List Brought → Brought → Type 0
IsAcceptedBy (tree.Operation o) bs b = IsNewName o.name (operations_in bs)
IsAcceptedBy (tree.Fragment f) bs b = IsNewOrSame (fragments_in bs) (fragment_named f.name b)
IsAcceptedBy (tree.Schema d) bs b = ⊥
IsAcceptedBy (tree.Type d) bs b = ⊥
IsAcceptedBy (tree.Directive d) bs b = ⊥
IsAcceptedBy (tree.SchemaExtension e) bs b = ⊥
IsAcceptedBy (tree.TypeExtension e) bs b = ⊥

-- each definition is accepted after those before it
pub data AreAccepted : List Brought → Type 0 where
  none_accepted : AreAccepted []
  next_accepted : {bs : List Brought} (b : Brought) → AreAccepted bs → IsAcceptedBy b.tree bs b
      → AreAccepted (bs ++ b ∷ [])

-- ---- what is refused

-- the fault says that the operation from this place has a definition that is neither an operation
-- nor a fragment
abbrev pub SaysNotExecutable : Place → ManifestFault → Type 0
SaysNotExecutable at (NotExecutable a) = place_of a ≡ at
SaysNotExecutable at _ = ⊥

-- a definition with this tree is refused after these, with this fault
abbrev pub IsRefusedBy : Tree → List Brought → Brought → ManifestFault → Type 0
IsRefusedBy (tree.Operation o) bs b fault = IsNameFault o.name b.place (operations_in bs) fault
IsRefusedBy (tree.Fragment f) bs b fault =
    IsDiffering (fragments_in bs) (fragment_named f.name b) fault
IsRefusedBy (tree.Schema d) bs b fault = SaysNotExecutable b.place fault
IsRefusedBy (tree.Type d) bs b fault = SaysNotExecutable b.place fault
IsRefusedBy (tree.Directive d) bs b fault = SaysNotExecutable b.place fault
IsRefusedBy (tree.SchemaExtension e) bs b fault = SaysNotExecutable b.place fault
IsRefusedBy (tree.TypeExtension e) bs b fault = SaysNotExecutable b.place fault

-- the definition is refused after these, which are accepted
abbrev pub IsRefused : List Brought → Brought → ManifestFault → Type 0
IsRefused bs b fault = AreAccepted bs × IsRefusedBy b.tree bs b fault

-- ---- what is gathered

-- the operations and fragments of these definitions are gathered, which are all accepted
pub record Gathers (bs : List Brought) (gathered : Gathered) : Type 0 where
  pub operations_are : operations_of gathered ≡ operations_in bs
  pub fragments_are : gathered.fragments ≡ fragments_in bs
  pub accepted : AreAccepted bs

-- these definitions are gathered after those that are there
abbrev pub GathersMore : List Brought → Gathered → Gathered → Type 0
GathersMore more old new =
    (bs : List Brought) → Gathers bs old → Gathers (bs ++ more) new

-- an allocation fails, or the definition is refused after those that are there
abbrev pub IsPieceFault : Gathered → Brought → ManifestFault → Type 0
IsPieceFault old b fault =
    (bs : List Brought) → Gathers bs old → OrMemory (IsRefused bs b) fault

-- V14, Fragments Must Be Used: no spread of the document names the fragment (GraphQL 5.5.1.4). The
-- document is all document files, and a spread within the fragment itself counts.
-- Reported at the fragment's name, about the fragment.
use Rattle.std.specs.Prelude.{ℕ, List, [], ◌∷◌, flat_map, Bool, bytes_eq, if◌then◌else◌}
use Rattle.std.specs.List.{list_any}
use Rattle.gql_ast.specs.declared.definition.Definition.{Definition}
use Rattle.gql_ast.specs.declared.fault.Fault.{Fault}
use Rattle.gql_ast.specs.declared.rule.Rule.TheVariants as rule
use Rattle.gql_verdict.specs.Definitions.{fragment_name}
use Rattle.gql_verdict.specs.Naming.{Named, named_by, fault_of_name, text_of}
use Rattle.gql_verdict.specs.Spreads.{Names, spreads_in}

-- whether a name is one of these
abbrev pub is_spread : Names → List ℕ → Bool
is_spread spread name = list_any (bytes_eq name) spread

-- the fault of a fragment, by the names that are spread
abbrev pub fault_of_fragment : Names → Named → List Fault
fault_of_fragment spread n =
    if is_spread spread (text_of n) then [] else fault_of_name rule.V14 n ∷ []

-- the faults of all definitions
abbrev pub faults : List Definition → List Fault
faults ds = flat_map (fault_of_fragment (spreads_in ds)) (named_by fragment_name ds)

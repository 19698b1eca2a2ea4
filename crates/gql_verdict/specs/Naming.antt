-- Definitions with their names, and names that occur more than once.
use Rattle.std.specs.Prelude.{◌≡◌, ℕ, List, [], ◌∷◌, flat_map, Option, Some, None, false, if◌then◌else◌}
use Rattle.gql_ast.specs.declared.definition.Definition.{Definition}
use Rattle.gql_ast.specs.declared.definition.Tree.{Tree}
use Rattle.gql_ast.specs.declared.fault.Fault.{Fault}
use Rattle.gql_ast.specs.declared.rule.Rule.{Rule}
use Rattle.gql_ast.specs.declared.text.Name.{Name}
use Rattle.gql_rules.specs.Faults.{fault_of}
use Rattle.gql_rules.specs.LocalFaults.{owner_of}
use Rattle.gql_rules.specs.Parts.{is_repeated}

-- a definition and its name
pub record Named : Type 0 where
  pub definition : Definition
  pub name : Name

-- a definition with this name, if it has one
abbrev pub with_name : Definition → Option Name → List Named
with_name d None = []
with_name d (Some name) = record { definition = d; name = name } ∷ []

-- the definitions that have a name by this reading of their trees, in their order
abbrev pub named_by : (Tree → Option Name) → List Definition → List Named
named_by name_of = flat_map (λ (d : Definition). with_name d (name_of d.tree))

-- the text of the name
abbrev pub text_of : Named → List ℕ
text_of n = n.name.text

-- no name occurs more than once
abbrev pub IsEachOnce : List Named → Type 0
IsEachOnce all = (name : List ℕ) → is_repeated text_of all name ≡ false

-- a fault at the name of a definition, which owns it
abbrev pub fault_of_name : Rule → Named → Fault
fault_of_name rule n = fault_of (owner_of n.definition) rule n.name

-- the fault of one of these definitions, if another has its name
abbrev pub fault_if_repeated : Rule → List Named → Named → List Fault
fault_if_repeated rule all n =
    if is_repeated text_of all (text_of n) then fault_of_name rule n ∷ [] else []

-- a fault at each name that occurs more than once
abbrev pub repeated_faults : Rule → List Named → List Fault
repeated_faults rule all = flat_map (fault_if_repeated rule all) all

-- Helper definitions for private contracts: the uses and the faults as lists.
use Rattle.std.specs.Prelude.{ℕ, List, [], ◌∷◌, ◌++◌, flat_map, Bool, bytes_eq, is_some, Option, Some, None, if◌then◌else◌}
use Rattle.std.specs.List.{list_any}
use Rattle.std.specs.Option.{option_or}
use Rattle.gql_ast.specs.declared.definition.Definition.{Definition}
use Rattle.gql_ast.specs.declared.executable.VariableDefinition.{VariableDefinition}
use Rattle.gql_ast.specs.declared.fault.Fault.{Fault}
use Rattle.gql_ast.specs.declared.fault.FilePlace.{FilePlace}
use Rattle.gql_ast.specs.declared.rule.Rule.TheVariants as rule
use Rattle.gql_facts.specs.Worlds.{Facts}
use Rattle.gql_facts.specs.declared.fact.FragmentFact.{FragmentFact}
use Rattle.gql_faults.specs.Faults.{where_known}
use Rattle.gql_rules.specs.Faults.{fault_at}
use Rattle.gql_vars.specs.declared.uses.VariableUse.{VariableUse}
use Rattle.gql_vars.specs.Faults.{fault_of_use}
use Rattle.gql_vars.specs.P04FloatVariables as p04
use Rattle.gql_vars.specs.Uses.{Use, tree_uses, fragment_uses}
use Rattle.gql_vars.specs.V26VariablesAreInputTypes as v26
use Rattle.gql_vars.specs.Variables.{variable_named}

-- a use, as specifications see it
abbrev pub use_of : VariableUse → Use
use_of x = record { file = x.file.now; place = x.place; name = x.name.now }

-- the uses in a definition and in these fragments
abbrev pub uses_in : Definition → List FragmentFact → List Use
uses_in d members = tree_uses d.file d.tree
    ++ flat_map (λ (g : FragmentFact). fragment_uses g.file g.fragment) members

-- the faults of a variable by V26 and P04
abbrev pub type_faults : Facts → FilePlace → VariableDefinition → List Fault
type_faults facts owner v = v26.faults facts owner v ++ p04.faults facts owner v

-- the fault of a use by V27
abbrev pub undefined : FilePlace → List VariableDefinition → Use → List Fault
undefined owner variables x = if is_some (variable_named variables x.name)
    then []
    else fault_of_use owner rule.V27 x ∷ []

-- whether a variable of this name is used
abbrev pub is_used : List Use → List ℕ → Bool
is_used uses name = list_any (λ (x : Use). bytes_eq name x.name) uses

-- the variable that was found for a name; if none was, this one, if it has the name
abbrev pub or_this : Option VariableDefinition → VariableDefinition → List ℕ
    → Option VariableDefinition
or_this found v name =
    option_or found (if bytes_eq name v.name.text then Some v else None)

-- the fault by V28 of an unused name, at the first variable that has it
abbrev pub unused_first : FilePlace → Option VariableDefinition → List Fault
unused_first owner first = where_known first (λ (v : VariableDefinition).
    fault_at owner rule.V28 v.name.text v.place ∷ [])

-- the fault of a variable by V28
abbrev pub unused : FilePlace → List VariableDefinition → List Use → VariableDefinition → List Fault
unused owner variables uses v = if is_used uses v.name.text
    then []
    else unused_first owner (variable_named variables v.name.text)

-- the faults of an operation by V27 and V28, with these variables and the fragments that it reaches
abbrev pub use_faults : FilePlace → Definition → List FragmentFact → List VariableDefinition
    → List Fault
use_faults owner d members variables =
    flat_map (undefined owner variables) (uses_in d members)
    ++ flat_map (unused owner variables (uses_in d members)) variables

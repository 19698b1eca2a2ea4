-- Faults at input fields by their numbers.
use Rattle.std.proofs.Common.{◌≡◌, ◌≤◌, ◌++◌, ℕ, List, false, length, map, nat_lt, sym, append-nil, arith}
use Rattle.std.proofs.lemmas.Bool.Decides.{nat_tests}
use Rattle.std.proofs.lemmas.List.{length-map}
use Rattle.std.proofs.lemmas.Option.{slice_get_past}
use Rattle.gql_ast.specs.declared.fault.Fault.{Fault}
use Rattle.gql_ast.specs.declared.type_system.InputValueDefinition.{InputValueDefinition}
use Rattle.gql_built_in.specs.declared.sited.Sited.{Sited}
use Rattle.gql_iface_rules.specs.S19DefaultValueCycles.{fault_at_number}

-- no input field has a number past the last
pub nothing_added : {A : Type 0} (g : A → Sited InputValueDefinition) (fields : List A) (number : ℕ) (faults : List Fault) → false ≡ nat_lt number (length fields) → faults ≡ faults ++ fault_at_number (map g fields) number
nothing_added g fields number faults past =
    let le : length fields ≤ number = grind (arith, nat_tests, past) in
    let none = slice_get_past (map g fields) number (omega (arith, le, length-map fields g)) in
    rw none (sym (append-nil faults))

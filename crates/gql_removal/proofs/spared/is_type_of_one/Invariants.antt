use Rattle.std.proofs.Common.{◌≡◌, bytes_eq, drop}
use Rattle.std.specs.List.{list_any}
use Rattle.gql_facts.specs.declared.fact.InputFact.{InputFact}
use Rattle.gql_removal.proofs.spared.is_type_of_one.Given as goal

abbrev pub invariant-loop-input : goal.invariant-loop-input
invariant-loop-input l = list_any (λ (i : InputFact). bytes_eq l.name i.of_type.name) l.inputs
    ≡ list_any (λ (i : InputFact). bytes_eq l.name i.of_type.name) (drop l.input-index l.inputs)

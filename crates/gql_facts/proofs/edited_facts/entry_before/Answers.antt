use Rattle.std.proofs.Common.{◌≡◌, ◌∙◌, None, Some, ap, bytes_eq, option_and_then, rules, slice_get}
use Rattle.std.specs.List.{position_from}
use Rattle.gql_types.proofs.Places.{found_there}
use Rattle.gql_facts.specs.declared.schema_facts.TypeEntry.{TypeEntry}
use Rattle.gql_facts.proofs.edited_facts.entry_before.Goals as goal

pub returns-in-Some : goal.returns-in-Some
returns-in-Some c = λ name is.
    let at : Some c.in-Some.place ≡ position_from (λ (e : TypeEntry). bytes_eq name e.name) 0 c.args.before.now.types = let e = is in search rules in
    c.entry_at.ensures ∙ ap (λ es. slice_get es c.in-Some.place) c.as_slice.ensures ∙ ap (option_and_then (λ i. slice_get c.args.before.now.types i)) at
    ∙ found_there (λ (e : TypeEntry). bytes_eq name e.name) c.args.before.now.types

pub returns-in-None : goal.returns-in-None
returns-in-None c = λ name is.
    let at : None ≡ position_from (λ (e : TypeEntry). bytes_eq name e.name) 0 c.args.before.now.types = let e = is in search rules in
    ap (option_and_then (λ i. slice_get c.args.before.now.types i)) at
    ∙ found_there (λ (e : TypeEntry). bytes_eq name e.name) c.args.before.now.types

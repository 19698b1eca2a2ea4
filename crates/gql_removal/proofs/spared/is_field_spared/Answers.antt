use Rattle.std.proofs.Common.{◌≡◌, ◌∙◌, List, ℕ, ap, bytes_eq, false, if◌then◌else◌, rules}
use Rattle.std.specs.List.{list_any}
use Rattle.gql_facts.specs.declared.fact.Fact.TheVariants as fact
use Rattle.gql_facts.specs.declared.fact.FieldFact.{FieldFact}
use Rattle.gql_facts.specs.declared.fact.InputFact.{InputFact}
use Rattle.gql_removal.specs.Removals.{field_left, field_with, inputs_of_others}
use Rattle.gql_removal.proofs.Unchanged.{inputs_stay}
use Rattle.gql_removal.proofs.spared.is_field_spared.Goals as goal

spared : (t : List ℕ) (f : FieldFact) → bytes_eq t f.of_type.name ≡ false
    → list_any (λ (i : InputFact). bytes_eq t i.of_type.name) f.arguments ≡ false → field_left t f ≡ fact.Field f
spared t f e n = ap (λ b. if b then fact.Absent else fact.Field (field_with f (inputs_of_others t f.arguments))) e
    ∙ ap (λ xs. fact.Field (field_with f xs)) (inputs_stay t f.arguments n)

pub returns-then-ne : goal.returns-then-ne
returns-then-ne c = λ t.
    let e : bytes_eq c.args.name.now c.args.field.now.of_type.name ≡ false = search rules in
    let n : list_any (λ (i : InputFact). bytes_eq c.args.name.now i.of_type.name) c.args.field.now.arguments ≡ false = search rules in
    spared c.args.name.now c.args.field.now e n

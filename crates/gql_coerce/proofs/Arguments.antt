-- What an argument comes to, step by step.
use Rattle.std.proofs.Common.{◌≡◌, ℕ, suc, List, Option, Some, find, bytes_eq, option_map, ap, sym, subst, ◌∙◌, arith}
use Rattle.gql_ast.specs.declared.literal.Argument.{Argument}
use Rattle.gql_ast.specs.declared.literal.Literal.{Literal}
use Rattle.gql_ast.specs.declared.type_system.InputValueDefinition.{InputValueDefinition}
use Rattle.gql_types.specs.Written.{Written, written}
use Rattle.gql_types.specs.declared.schema.Schema.{Schema}
use Rattle.gql_ast.specs.declared.executable.VariableDefinition.{VariableDefinition}
use Rattle.serde_json.specs.Data.{Data}
use Rattle.serde_json.specs.Find.{get}
use Rattle.gql_coerce.specs.Comes.{Eventually}
use Rattle.gql_coerce.specs.Inputs.{Input, literal, json_input}
use Rattle.gql_coerce.specs.Outcomes.{Reached, value, after, within}
use Rattle.gql_coerce.specs.Requests.{given_at, or_default_at, request_at, argument_value, variable_value}
use Rattle.gql_coerce.specs.declared.refusal.Segment.TheVariants.{Key}
use Rattle.gql_coerce.proofs.InTime.{both}

module _ (s : Schema) (t : Written) (x : Option Input) where
  step : (name n : List ℕ) (default d : Option Literal) (found coerced placed : Reached (Option Data)) (k : ℕ) → n ≡ name → default ≡ d
      → given_at k s t x ≡ found
      → after found (or_default_at k s t default) ≡ coerced
      → placed ≡ within (Key n) coerced
      → request_at k s name t d x ≡ placed
  step name n default d found coerced placed k name_is default_is found_is coerced_is placed_is = sym (placed_is
      ∙ ap (within (Key n)) (sym coerced_is ∙ ap (λ o. after o (or_default_at k s t default)) (sym found_is))
      ∙ ap (λ y. request_at k s n t y x) default_is
      ∙ ap (λ m. request_at k s m t d x) name_is)

  pub request_is : (name n : List ℕ) (default d : Option Literal) (found coerced placed : Reached (Option Data)) → n ≡ name → default ≡ d
      → Eventually (λ k. given_at k s t x ≡ found)
      → Eventually (λ k. after found (or_default_at k s t default) ≡ coerced)
      → placed ≡ within (Key n) coerced
      → Eventually (λ k. request_at k s name t d x ≡ placed)
  request_is name n default d found coerced placed name_is default_is found_is coerced_is placed_is = both
      (λ k. given_at k s t x ≡ found)
      (λ k. after found (or_default_at k s t default) ≡ coerced)
      (λ k. request_at k s name t d x ≡ placed)
      (λ k f g. step name n default d found coerced placed k name_is default_is f g placed_is) found_is coerced_is

  -- an input that comes to a value with one level
  pub at_once : (name : List ℕ) (d : Option Literal) (v : Data) → ((n : ℕ) → given_at (suc n) s t x ≡ value (Some v))
      → Eventually (λ k. request_at k s name t d x ≡ value (Some v))
  at_once name d v is = (
    1,
    λ n. subst (λ k. request_at k s name t d x ≡ value (Some v)) (omega arith)
        (ap (λ o. within (Key name) (after o (or_default_at (suc n) s t d))) (is n)),
  )

-- the argument that is found by a name
pub argument_is : (s : Schema) (values : Data) (arguments : List Argument) (d : InputValueDefinition) (n : List ℕ) (given : Option Argument) (o : Reached (Option Data)) → n ≡ d.name.text
    → given ≡ find (λ (a : Argument). bytes_eq n a.name.text) arguments
    → Eventually (λ k. request_at k s d.name.text (written d.of_type) d.default (option_map (λ (a : Argument). literal values a.value) given) ≡ o)
    → Eventually (λ k. argument_value k s values arguments d ≡ o)
argument_is s values arguments d n given o name_is given_is comes = subst (λ (g : Option Argument). Eventually (λ k. request_at k s d.name.text (written d.of_type) d.default (option_map (λ (a : Argument). literal values a.value) g) ≡ o))
    (given_is ∙ ap (λ m. find (λ (a : Argument). bytes_eq m a.name.text) arguments) name_is) comes

module _ (s : Schema) (values : Data) (d : VariableDefinition) where
  pub variable_is : (n : List ℕ) (default : Option Literal) (given : Option Data) (found coerced placed : Reached (Option Data)) → n ≡ d.name.text → default ≡ d.default
      → given ≡ get n values
      → Eventually (λ k. given_at k s (written d.of_type) (option_map json_input given) ≡ found)
      → Eventually (λ k. after found (or_default_at k s (written d.of_type) default) ≡ coerced)
      → placed ≡ within (Key n) coerced
      → Eventually (λ k. variable_value k s values d ≡ placed)
  variable_is n default given found coerced placed name_is default_is given_is found_is coerced_is placed_is =
      subst (λ (g : Option Data). Eventually (λ k. request_at k s d.name.text (written d.of_type) d.default (option_map json_input g) ≡ placed))
      (given_is ∙ ap (λ m. get m values) name_is)
      (request_is s (written d.of_type) (option_map json_input given) d.name.text n default d.default found coerced placed name_is default_is found_is coerced_is placed_is)

-- When two types are the same input type.
use Rattle.std.proofs.Common.{◌≡◌, ◌∙◌, Bool, ℕ, List, ap, sym}
use Rattle.std.specs.Prelude.{is_some}
use Rattle.gql_ast.specs.declared.type_system.InputValueDefinition.{InputValueDefinition}
use Rattle.gql_built_in.specs.declared.sited.Sited.{Sited}
use Rattle.gql_inputs.specs.Lookups.{FieldForm, field_of}
use Rattle.gql_types.specs.Written.{Written, written}
use Rattle.gql_types.specs.WrittenTypes.{type_of, typed_of}
use Rattle.gql_types.proofs.Wrapping.{typed_back}

-- types with the same wrappers and name are written the same
written_same : (v w : Written) → type_of v ≡ type_of w → v ≡ w
written_same v w same = sym (typed_back v) ∙ ap typed_of same ∙ typed_back w

abbrev form : List ℕ → Written → Bool → FieldForm
form n w d = record { name = n; of_type = w; has_default = d }

pub field_same : (a b : Sited InputValueDefinition) → a.node.name.text ≡ b.node.name.text → type_of (written a.node.of_type) ≡ type_of (written b.node.of_type)
    → is_some a.node.default ≡ is_some b.node.default → field_of a ≡ field_of b
field_same a b names types defaults = λ k. form (names k) (written_same (written a.node.of_type) (written b.node.of_type) types k) (defaults k)

-- What steps around a name ask of an input.
use Rattle.std.proofs.Common.{◌≡◌, ℕ, List, [], ◌∷◌, refl}
use Rattle.gql_types.specs.Written.{named}
use Rattle.gql_types.specs.WrittenTypes.{typed}
use Rattle.gql_types.specs.declared.written_type.Wrapper.{Wrapper}
use Rattle.gql_types.specs.declared.written_type.Wrapper.TheVariants as wrapper
use Rattle.gql_inputs.specs.InputTypes.{name_in}

-- the name stays, whatever the steps
pub name_typed : (ws : List Wrapper) (n : List ℕ) → name_in (typed ws (named n)) ≡ n
name_typed [] n = refl
name_typed (wrapper.List ∷ ws) n = name_typed ws n
name_typed (wrapper.NonNull ∷ ws) n = name_typed ws n

-- A type is got back from its steps and its name.
use Rattle.std.proofs.Common.{◌≡◌, ◌++◌, List, [], ◌∷◌, refl, ap, ◌∙◌}
use Rattle.gql_types.specs.Written.{Written, named, listed, required}
use Rattle.gql_types.specs.WrittenTypes.{type_of, typed, typed_of, wrapped}
use Rattle.gql_types.specs.declared.written_type.Wrapper.{Wrapper}
use Rattle.gql_types.specs.declared.written_type.Wrapper.TheVariants as wrapper

-- one step more, within the others
pub typed_within : (ws : List Wrapper) (s : Wrapper) (w : Written)
    → typed (ws ++ s ∷ []) w ≡ typed ws (typed (s ∷ []) w)
typed_within [] s w = refl
typed_within (wrapper.List ∷ ws) s w = ap listed (typed_within ws s w)
typed_within (wrapper.NonNull ∷ ws) s w = ap required (typed_within ws s w)

-- these steps, and then those of the type, are of the type with these steps around it
pub typed_wrapped : (ws : List Wrapper) (w : Written) → typed_of (wrapped ws w) ≡ typed ws w
typed_wrapped ws (named n) = refl
typed_wrapped ws (listed w) =
    typed_wrapped (ws ++ wrapper.List ∷ []) w ∙ typed_within ws wrapper.List w
typed_wrapped ws (required w) =
    typed_wrapped (ws ++ wrapper.NonNull ∷ []) w ∙ typed_within ws wrapper.NonNull w

pub typed_back : (w : Written) → typed_of (type_of w) ≡ w
typed_back w = typed_wrapped [] w

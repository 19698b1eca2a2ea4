-- A value of an enum is found where its name is among the names.
use Rattle.std.proofs.Common.{◌≡◌, ◌⊎◌, ℕ, List, [], ◌∷◌, Bool, true, false, find, is_some, map, bytes_eq, refl, inl, inr}
use Rattle.std.specs.List.{list_any}
use Rattle.gql_ast.specs.declared.type_system.EnumValueDefinition.{EnumValueDefinition}
use Rattle.gql_built_in.specs.declared.sited.Sited.{Sited}

either : (b : Bool) → (b ≡ true) ⊎ (b ≡ false)
either true = inl refl
either false = inr refl

pub found_any : (n : List ℕ) (vs : List (Sited EnumValueDefinition))
    → list_any (bytes_eq n) (map (λ (v : Sited EnumValueDefinition). v.node.name.text) vs)
    ≡ is_some (find (λ (v : Sited EnumValueDefinition). bytes_eq n v.node.name.text) vs)
found_any n [] = refl
found_any n (v ∷ vs) = elim (either (bytes_eq n v.node.name.text)) [
  | inl h ↦ rw h refl
  | inr h ↦ rw h (found_any n vs)
]

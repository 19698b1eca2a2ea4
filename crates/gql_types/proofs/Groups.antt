-- The extensions of each definition, by their names first and then by their kinds.
use Rattle.std.proofs.Common.{◌≡◌, ◌&&◌, ◌++◌, ◌+◌, ◌<◌, ℕ, List, [], ◌∷◌, Bool, map, filter, length, get_or, take, bytes_eq, refl, ap, ◌∙◌, arith}
use Rattle.std.proofs.lemmas.List.{take_more, map-append}
use Rattle.std.proofs.lemmas.Grind.{common_steps}
use Rattle.gql_ast.specs.declared.type_system.TypeDefinition.{TypeDefinition}
use Rattle.gql_ast.specs.declared.type_system.TypeExtension.{TypeExtension}
use Rattle.gql_types.specs.Kinds.{same_kind}
use Rattle.gql_types.specs.Parts.{kind_of}
use Rattle.gql_types.specs.Types.{assembled, extensions_of}
use Rattle.gql_built_in.specs.declared.sited.Sited.{Sited}

filter_twice : {X : Type 0} (p q : X → Bool) (xs : List X) → filter q (filter p xs) ≡ filter (λ x. p x && q x) xs
filter_twice p q [] = refl
filter_twice p q (x ∷ xs) = grind (arith, common_steps, filter_twice p q xs)

map_same : {X Y : Type 0} (f g : X → Y) (xs : List X) → ((x : X) → f x ≡ g x) → map f xs ≡ map g xs
map_same f g [] same = refl
map_same f g (x ∷ xs) same = λ k. same x k ∷ map_same f g xs same k

-- an extension of this kind
abbrev pub of_kind : Sited TypeDefinition → Sited TypeExtension → Bool
of_kind d e = same_kind (kind_of d.node.parts) (kind_of e.node.parts)

pub types_by_groups : (at : List ℕ → List (Sited TypeExtension)) (es : List (Sited TypeExtension)) (ds : List (Sited TypeDefinition))
    → ((q : List ℕ) → at q ≡ filter (λ (e : Sited TypeExtension). bytes_eq q e.node.name.text) es)
    → map (λ (d : Sited TypeDefinition). assembled d (filter (of_kind d) (at d.node.name.text))) ds ≡ map (λ (d : Sited TypeDefinition). assembled d (extensions_of es d)) ds
types_by_groups at es ds found = map_same (λ (d : Sited TypeDefinition). assembled d (filter (of_kind d) (at d.node.name.text))) (λ (d : Sited TypeDefinition). assembled d (extensions_of es d)) ds
    (λ d. ap (assembled d) (ap (filter (of_kind d)) (found d.node.name.text)
    ∙ filter_twice (λ (e : Sited TypeExtension). bytes_eq d.node.name.text e.node.name.text) (of_kind d) es))

-- one thing more was looked at, of which another is made
pub made_step : {W X Y : Type 0} (f : X → Y) (form : W → X) (xs : List W) (i : ℕ) (x : W) (old new : List Y) → i < length xs → get_or xs i x ≡ x
    → old ≡ map f (map form (take i xs))
    → new ≡ old ++ f (form x) ∷ []
    → new ≡ map f (map form (take (i + 1) xs))
made_step f form xs i x old new within item before after =
    rw (take_more xs i x within, item, map-append form (take i xs) (x ∷ []), map-append f (map form (take i xs)) (form x ∷ [])) (after ∙ ap (λ ys. ys ++ f (form x) ∷ []) before)

-- The types that are marked.
use Rattle.std.proofs.Common.{◌≡◌, ◌∙◌, ◌+◌, ◌++◌, ◌<◌, ◌∷◌, [], Bool, ℕ, List, Some, ap, bytes_eq, filter, find, get_or, if◌then◌else◌, length, map, slice_get, take}
use Rattle.std.specs.Prelude.{is_some, option_map}
use Rattle.std.proofs.lemmas.List.{take_more}
use Rattle.std.proofs.lemmas.List.Elements.{filter-append}
use Rattle.std.proofs.lemmas.Option.{slice_get-get_or, slice_get-map}
use Rattle.gql_node_rules.specs.SchemaChanges.{is_among}
use Rattle.gql_types.specs.Names.{are_among}
use Rattle.gql_types.specs.Possible.{name_of}
use Rattle.gql_types.specs.declared.schema_type.SchemaType.{SchemaType}

-- the mark of the type at a place
pub marked_at : (names : List (List ℕ)) (types : List SchemaType) (marks : List Bool) (i : ℕ) (t : SchemaType) → marks ≡ are_among names (map name_of types)
    → i < length types → get_or types i t ≡ t → slice_get marks i ≡ Some (is_among names (name_of t))
marked_at names types marks i t are within item =
    ap (λ ms. slice_get ms i) are ∙ slice_get-map (λ n. is_among names n) (map name_of types) i
    ∙ ap (option_map (λ n. is_among names n)) (slice_get-map name_of types i ∙ ap (option_map name_of) (slice_get-get_or types i t within ∙ ap Some item))

-- one type more was looked at
pub marked_step : (names : List (List ℕ)) (types : List SchemaType) (i : ℕ) (t : SchemaType) (mark : Bool) (old new : List SchemaType) → i < length types → get_or types i t ≡ t
    → mark ≡ is_among names (name_of t) → old ≡ filter (λ u. is_among names (name_of u)) (take i types) → new ≡ old ++ (if mark then t ∷ [] else [])
    → new ≡ filter (λ u. is_among names (name_of u)) (take (i + 1) types)
marked_step names types i t mark old new within item is before after =
    rw (take_more types i t within, item, filter-append (λ u. is_among names (name_of u)) (take i types) (t ∷ []))
    (after ∙ ap (λ us. us ++ (if mark then t ∷ [] else [])) before ∙ ap (λ b. filter (λ u. is_among names (name_of u)) (take i types) ++ (if b then t ∷ [] else [])) is)

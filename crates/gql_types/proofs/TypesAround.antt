-- The types before and after those of a file, as they stood before an edit of it.
use Rattle.std.proofs.Common.{◌≡◌, ◌+◌, ◌-◌, ◌++◌, ◌<◌, ◌≤◌, ℕ, zero, suc, List, [], ◌∷◌, Option, Some, None, bytes_eq, drop, find, get_or, length, map, option_and_then, slice_get, take, ap, ap₂, arith, refl, subst, sym, ◌∙◌}
use Rattle.std.specs.Prelude.{Err, IfOk, IfSome, Ok, Result, is_some, false, option_map}
use Rattle.std.specs.List.{drop-map, position_from, take-map}
use Rattle.std.proofs.lemmas.List.{length-map, map-append, take-append-drop, take_rest}
use Rattle.std.proofs.lemmas.Option.{get_or_from_slice_get, slice_get-map, slice_get_within}
use Rattle.gql_ast.specs.declared.type_system.TypeDefinition.{TypeDefinition}
use Rattle.gql_built_in.specs.declared.sited.Sited.{Sited}
use Rattle.gql_types.specs.EditedTypes.{AreMade, defined_name, definition_of, extensions_at, type_by}
use Rattle.gql_types.specs.Edits.{KeepsType}
use Rattle.gql_types.specs.KeptTypes.{IsConcreteAt, known_place}
use Rattle.gql_types.specs.Names.{AreOnce}
use Rattle.gql_types.specs.Possible.{name_of}
use Rattle.gql_types.specs.Prints.{print_of}
use Rattle.gql_types.specs.Roles.{concrete_place, role_of}
use Rattle.gql_types.specs.TypesAround.{sites_around}
use Rattle.gql_types.specs.declared.edited_types.TypeEdit.{TypeEdit}
use Rattle.gql_types.specs.declared.schema_type.SchemaType.{SchemaType}
use Rattle.gql_types.specs.declared.type_list.TypeList.{TypeList}
use Rattle.gql_types.proofs.EditedTypes.{found_in_place, kept_found, kept_there, made_next}
use Rattle.gql_types.proofs.KnownPlaces.{known_kept}
use Rattle.gql_types.proofs.Others.{map_twice}

-- the element at a place within a list
pub there_is : {X : Type 0} (xs : List X) (i : ℕ) → i < length xs → (x : X) × (slice_get xs i ≡ Some x)
there_is [] i within = absurd (omega (arith, within))
there_is (x ∷ xs) zero within = (x, refl)
there_is (x ∷ xs) (suc i) within = there_is xs i (omega (arith, within))

-- types of different names are where they are found by their names
pub stood_in_place : (types : List SchemaType) (place : ℕ) (t : SchemaType) → AreOnce (map name_of types) → slice_get types place ≡ Some t
    → Some place ≡ position_from (λ (u : SchemaType). bytes_eq (name_of t) (name_of u)) 0 types
stood_in_place types place t once there =
    let within : place < length types = slice_get_within types place t there in
    let item : get_or types place t ≡ t = get_or_from_slice_get types place t t there in
    found_in_place name_of types types place t refl once within item

-- a type that is kept is the one that is made of its definition, where types of its name stay
pub kept_as_it_stood : (edit : TypeEdit) (place : ℕ) (t kept : SchemaType) → AreOnce (map name_of edit.schema.now.types)
    → slice_get edit.schema.now.types place ≡ Some t
    → option_and_then (λ i. slice_get edit.schema.now.types i) (Some place) ≡ Some kept
    → is_some (find (bytes_eq (name_of kept)) edit.edited.now) ≡ false
    → (KeepsType edit.edited.now edit.schema.now (type_by (extensions_at edit) t.definition) → kept ≡ type_by (extensions_at edit) t.definition)
    × (name_of kept ≡ name_of t) × IsConcreteAt edit.schema.now.types (concrete_place (role_of kept) (Some place)) kept
    × (concrete_place (role_of kept) (Some place) ≡ known_place edit.edited.now edit.schema.now.types kept)
kept_as_it_stood edit place t kept once there stood unedited =
    let both = kept_found edit.edited.now edit.schema.now (name_of t) (Some place) (Some kept) (type_by (extensions_at edit) t.definition) kept
    (stood_in_place edit.schema.now.types place t once there) stood unedited refl refl in (
      both.0,
      both.1,
      kept_there edit.schema.now.types kept (Some place) stood,
      known_kept edit.edited.now edit.schema.now.types kept (Some place) (stood_in_place edit.schema.now.types place kept once stood) unedited,
    )

-- an element past the first so many
drop_there : {X : Type 0} (xs : List X) (from i : ℕ) (x : X) → slice_get xs (from + i) ≡ Some x → slice_get (drop from xs) i ≡ Some x
drop_there xs zero i x there = let none : 0 + i ≡ i = omega arith in subst (λ k. slice_get xs k ≡ Some x) none there
drop_there [] (suc from) i x there = absurd (cc there)
drop_there (y ∷ ys) (suc from) i x there =
    let next : suc from + i ≡ suc (from + i) = omega arith in
    drop_there ys from i x (subst (λ k. slice_get (y ∷ ys) k ≡ Some x) next there)

-- one type more of those that stood one after the other
pub kept_next : (edit : TypeEdit) (from place : ℕ) (sites : List (Sited TypeDefinition)) (first old new : TypeList) → from ≤ place → place < length edit.schema.now.types
    → (AreMade edit sites first → AreMade edit (sites ++ map definition_of (take (place - from) (drop from edit.schema.now.types))) old)
    → ((t : SchemaType) → slice_get edit.schema.now.types place ≡ Some t → (ds : List (Sited TypeDefinition)) → AreMade edit ds old → AreMade edit (ds ++ t.definition ∷ []) new)
    → AreMade edit sites first → AreMade edit (sites ++ map definition_of (take (place + 1 - from) (drop from edit.schema.now.types))) new
kept_next edit from place sites first old new order within before more start =
    let types = edit.schema.now.types in
    let t = there_is types place within in
    let sum : place ≡ from + (place - from) = omega arith in
    let here = drop_there types from (place - from) t.0 (subst (λ k. slice_get types k ≡ Some t.0) sum t.1) in
    let next : place + 1 - from ≡ place - from + 1 = omega arith in
    rw next (made_next edit definition_of (drop from types) (place - from) t.0 sites first old new (slice_get_within (drop from types) (place - from) t.0 here)
    (get_or_from_slice_get (drop from types) (place - from) t.0 t.0 here) before (more t.0 t.1) start)

-- the print of a type is that of its name
pub print_there : (types : List SchemaType) (prints : List ℕ) (place : ℕ) (t : SchemaType) → prints ≡ map print_of (map name_of types) → slice_get types place ≡ Some t
    → get_or prints place 0 ≡ print_of (name_of t)
print_there types prints place t are there =
    get_or_from_slice_get prints place (print_of (name_of t)) 0
    (ap (λ ps. slice_get ps place) are ∙ slice_get-map print_of (map name_of types) place
    ∙ ap (option_map print_of) (slice_get-map name_of types place ∙ ap (option_map name_of) there))

-- the definitions of types, between others
pub around_same : (types : List SchemaType) (these : List (Sited TypeDefinition)) (until past count : ℕ) → count ≡ length types
    → map definition_of (take (until - 0) (drop 0 types)) ++ these ++ map definition_of (take (count - (count - past)) (drop (count - past) types))
    ≡ sites_around until past (map definition_of types) these
around_same types these until past count is =
    let none : until - 0 ≡ until = omega arith in
    let first : map definition_of (take (until - 0) (drop 0 types)) ≡ take until (map definition_of types) = rw none (sym (take-map definition_of until types)) in
    let rest : take (count - (count - past)) (drop (count - past) types) ≡ drop (count - past) types
    = subst (λ n. take (n - (count - past)) (drop (count - past) types) ≡ drop (count - past) types) (sym is) (take_rest types (count - past)) in
    let last : map definition_of (take (count - (count - past)) (drop (count - past) types)) ≡ drop (length (map definition_of types) - past) (map definition_of types)
    = ap (map definition_of) rest ∙ sym (drop-map definition_of (count - past) types) ∙ ap (λ n. drop (n - past) (map definition_of types)) (is ∙ sym (length-map types definition_of)) in
    ap₂ (λ xs ys. xs ++ these ++ ys) first last

take_none : {X : Type 0} (k : ℕ) → take {A = X} k [] ≡ []
take_none zero = refl
take_none (suc k) = refl

-- the first of a list, and the next
taken_twice : {X : Type 0} (u k : ℕ) (xs : List X) → take u xs ++ take k (drop u xs) ≡ take (u + k) xs
taken_twice zero k xs = let none : 0 + k ≡ k = omega arith in ap (λ n. take n xs) (sym none)
taken_twice (suc u) k [] = take_none k ∙ sym (take_none (suc u + k))
taken_twice (suc u) k (x ∷ xs) =
    let next : suc u + k ≡ suc (u + k) = omega arith in
    ap (λ ys. x ∷ ys) (taken_twice u k xs) ∙ ap (λ n. take n (x ∷ xs)) (sym next)

-- definitions of the names of types, in their place
pub names_around : (types : List SchemaType) (these : List (Sited TypeDefinition)) (until past : ℕ) → until + past ≤ length types
    → map defined_name these ≡ map name_of (take (length types - past - until) (drop until types))
    → map defined_name (sites_around until past (map definition_of types) these) ≡ map name_of types
names_around types these until past fits same =
    let named : (xs : List SchemaType) → map defined_name (map definition_of xs) ≡ map name_of xs = λ xs. map_twice definition_of defined_name xs in
    let size : length (map definition_of types) - past ≡ length types - past = ap (λ n. n - past) (length-map types definition_of) in
    let sum : until + (length types - past - until) ≡ length types - past = omega (arith, fits) in
    let first : map defined_name (take until (map definition_of types)) ≡ map name_of (take until types)
    = ap (map defined_name) (take-map definition_of until types) ∙ named (take until types) in
    let last : map defined_name (drop (length (map definition_of types) - past) (map definition_of types)) ≡ map name_of (drop (length types - past) types)
    = ap (λ n. map defined_name (drop n (map definition_of types))) size ∙ ap (map defined_name) (drop-map definition_of (length types - past) types) ∙ named (drop (length types - past) types) in
    map-append defined_name (take until (map definition_of types) ++ these) (drop (length (map definition_of types) - past) (map definition_of types))
    ∙ ap (λ xs. xs ++ map defined_name (drop (length (map definition_of types) - past) (map definition_of types))) (map-append defined_name (take until (map definition_of types)) these)
    ∙ ap₂ (λ xs ys. xs ++ ys) (ap₂ (λ xs ys. xs ++ ys) first same) last
    ∙ ap (λ xs. xs ++ map name_of (drop (length types - past) types)) (sym (map-append name_of (take until types) (take (length types - past - until) (drop until types))))
    ∙ sym (map-append name_of (take until types ++ take (length types - past - until) (drop until types)) (drop (length types - past) types))
    ∙ ap (λ xs. map name_of (xs ++ drop (length types - past) types)) (taken_twice until (length types - past - until) types ∙ ap (λ n. take n types) sum)
    ∙ ap (map name_of) (take-append-drop (length types - past) types)

-- what holds of all that may be found
pub ok_some : {T E : Type 0} {P Q : T → Type 0} (r : Result (Option T) E) → ((x : T) → P x → Q x) → IfOk r (λ found. IfSome found P) → IfOk r (λ found. IfSome found Q)
ok_some (Ok (Some x)) gives is = gives x is
ok_some (Ok None) gives is = tt
ok_some (Err e) gives is = tt

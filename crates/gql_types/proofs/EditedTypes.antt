-- The types of definitions after an edit, one after the other.
use Rattle.std.proofs.Common.{◌≡◌, ◌+◌, ◌++◌, ◌<◌, ℕ, List, [], ◌∷◌, Bool, Option, Some, None, true, false, inl, inr, bytes_eq, find, slice_get, option_and_then, map, length, get_or, take, ap, ap₂, ◌∙◌, refl, sym, subst}
use Rattle.std.specs.Prelude.{◌↔◌, IfSome, IsTrue, OnOk, Result, Ok, Err, is_some, option_map, unwrap_or}
use Rattle.std.specs.List.{AllZip, position_from}
use Rattle.std.proofs.lemmas.List.{append_assoc, map-append, take_more}
use Rattle.std.proofs.lemmas.List.Elements.{Contains-append_left, Contains-append_right}
use Rattle.std.proofs.lemmas.Option.{slice_get-get_or, slice_get-map}
use Rattle.std.proofs.lemmas.Slice.Eq.{bytes_eq-Decides}
use Rattle.gql_ast.specs.declared.text.Name.{Name}
use Rattle.gql_ast.specs.declared.type_system.TypeDefinition.{TypeDefinition}
use Rattle.gql_ast.specs.declared.type_system.TypeExtension.{TypeExtension}
use Rattle.gql_built_in.specs.declared.sited.Sited.{Sited}
use Rattle.gql_types.specs.EditedTypes.{AreExtensions, AreMade, AreTypesAfter, defined_name, extensions_at, type_by}
use Rattle.gql_types.specs.Edits.{KeepsType, KeepsTypes}
use Rattle.gql_types.specs.Kinds.{is_abstract}
use Rattle.gql_types.specs.KeptTypes.{IsConcreteAt, known_place}
use Rattle.gql_types.specs.Names.{AreOnce, are_among}
use Rattle.gql_types.specs.Possible.{name_of}
use Rattle.gql_types.specs.Prints.{print_of}
use Rattle.gql_types.specs.Roles.{concrete_place, role_by, role_of}
use Rattle.gql_types.specs.Types.{first_definitions, types_of}
use Rattle.gql_types.specs.declared.schema.Schema.{Schema}
use Rattle.gql_types.specs.declared.schema_type.SchemaType.{SchemaType}
use Rattle.gql_types.specs.declared.kind.TypeKind.{TypeKind}
use Rattle.gql_types.specs.declared.kind.TypeKind.TheVariants as kind
use Rattle.gql_types.specs.declared.edited_types.EditedTypes.{EditedTypes}
use Rattle.gql_types.specs.declared.edited_types.TypeEdit.{TypeEdit}
use Rattle.gql_types.specs.declared.type_list.TypeList.{TypeList}
use Rattle.gql_types.proofs.Filtering.{either}
use Rattle.gql_types.proofs.Groups.{types_by_groups}
use Rattle.gql_types.proofs.KnownPlaces.{found_passes}
use Rattle.gql_types.proofs.Members.{here}
use Rattle.gql_types.proofs.Once.{once_placed}
use Rattle.gql_types.proofs.Others.{all_first}
use Rattle.gql_types.proofs.Places.{found_there, same_places}

-- one pair more
zip_push : {X Y : Type 0} (R : X → Y → Type 0) (xs : List X) (ys : List Y) (x : X) (y : Y) → AllZip R xs ys → R x y → AllZip R (xs ++ x ∷ []) (ys ++ y ∷ [])
zip_push R [] [] x y all last = (last, tt)
zip_push R [] (b ∷ bs) x y all last = absurd all
zip_push R (a ∷ more) [] x y all last = absurd all
zip_push R (a ∷ more) (b ∷ bs) x y all last = (all.0, zip_push R more bs x y all.1 last)

pub zip_step : {X Y : Type 0} (R : X → Y → Type 0) (xs new_xs : List X) (ys new_ys : List Y) (x : X) (y : Y) → new_xs ≡ xs ++ x ∷ [] → new_ys ≡ ys ++ y ∷ []
    → AllZip R xs ys → R x y → AllZip R new_xs new_ys
zip_step R xs new_xs ys new_ys x y is are all last =
    subst (λ zs. AllZip R new_xs zs) (sym are) (subst (λ zs. AllZip R zs (ys ++ y ∷ [])) (sym is) (zip_push R xs ys x y all last))

-- a type that stood where its name was found, and is not edited, or else the type that is made
pub kept_found : (names : List (List ℕ)) (before : Schema) (q : List ℕ) (stood : Option ℕ) (found : Option SchemaType) (made t : SchemaType)
    → stood ≡ position_from (λ (u : SchemaType). bytes_eq q (name_of u)) 0 before.types
    → IfSome found (λ s. option_and_then (λ i. slice_get before.types i) stood ≡ Some s)
    → IfSome found (λ s. is_some (find (bytes_eq (name_of s)) names) ≡ false)
    → name_of made ≡ q → t ≡ unwrap_or found made
    → (KeepsType names before made → t ≡ made) × (name_of t ≡ q)
kept_found names before q stood None made t place there unedited named is = (λ keeps. is, ap name_of is ∙ named)
kept_found names before q stood (Some s) made t place there unedited named is =
    let found : find (λ (u : SchemaType). bytes_eq q (name_of u)) before.types ≡ Some s
    = sym (found_there (λ (u : SchemaType). bytes_eq q (name_of u)) before.types) ∙ ap (option_and_then (λ i. slice_get before.types i)) (sym place) ∙ there in
    let name : q ≡ name_of s = (bytes_eq-Decides q (name_of s)).0 (found_passes (λ (u : SchemaType). bytes_eq q (name_of u)) before.types s found) in (
      λ keeps.
          let other : find (λ (u : SchemaType). bytes_eq q (name_of u)) before.types ≡ Some made
          = subst (λ n. find (λ (u : SchemaType). bytes_eq n (name_of u)) before.types ≡ Some made) named
          (keeps (subst (λ n. is_some (find (bytes_eq n) names) ≡ false) (sym (named ∙ name)) unedited)) in
          let both : Some s ≡ Some made = sym found ∙ other in
          let same : s ≡ made = cc both in
          is ∙ same,
      ap name_of is ∙ sym name,
    )

-- where a type stood that is neither an interface nor a union
stood_there : (types : List SchemaType) (t : SchemaType) (stood : Option ℕ) → option_and_then (λ i. slice_get types i) stood ≡ Some t
    → is_abstract t.kind ≡ false → IsConcreteAt types stood t
stood_there types t None there concrete = absurd (cc there)
stood_there types t (Some i) there concrete = (there, concrete)

-- the same, by its kind and the interfaces that it declares
role_there : (types : List SchemaType) (t : SchemaType) (k : TypeKind) (interfaces : List (Sited Name)) (stood : Option ℕ) → t.kind ≡ k
    → option_and_then (λ i. slice_get types i) stood ≡ Some t → IsConcreteAt types (concrete_place (role_by k interfaces) stood) t
role_there types t kind.Object [] stood is there = stood_there types t stood there (ap is_abstract is)
role_there types t kind.Object (i ∷ more) stood is there = stood_there types t stood there (ap is_abstract is)
role_there types t kind.Interface interfaces stood is there = tt
role_there types t kind.Union interfaces stood is there = tt
role_there types t kind.Scalar interfaces stood is there = stood_there types t stood there (ap is_abstract is)
role_there types t kind.Enum interfaces stood is there = stood_there types t stood there (ap is_abstract is)
role_there types t kind.InputObject interfaces stood is there = stood_there types t stood there (ap is_abstract is)

-- where a type that is kept stood
pub kept_there : (types : List SchemaType) (t : SchemaType) (stood : Option ℕ) → option_and_then (λ i. slice_get types i) stood ≡ Some t
    → IsConcreteAt types (concrete_place (role_of t) stood) t
kept_there types t stood there = role_there types t t.kind t.interfaces stood refl there

-- one type more
module _ (edit : TypeEdit) (sites : List (Sited TypeDefinition)) (d : Sited TypeDefinition) (old new : TypeList) (t : SchemaType) (place : Option ℕ) (print : ℕ) where
  abbrev made : Sited TypeDefinition → SchemaType
  made = type_by (extensions_at edit)

  pub made_more : (KeepsType edit.edited.now edit.schema.now (made d) → t ≡ made d) → name_of t ≡ defined_name d → print ≡ print_of (defined_name d)
      → IsConcreteAt edit.schema.now.types place t → place ≡ known_place edit.edited.now edit.schema.now.types t
      → new.types ≡ old.types ++ t ∷ [] → new.roles.items ≡ old.roles.items ++ role_of t ∷ [] → new.places.items ≡ old.places.items ++ place ∷ [] → new.prints.items ≡ old.prints.items ++ print ∷ []
      → AreMade edit sites old → AreMade edit (sites ++ d ∷ []) new
  made_more its named printed there known types roles places prints before = record {
    types = λ keeps.
        let both = subst (KeepsTypes edit.edited.now edit.schema.now) (map-append made sites (d ∷ [])) keeps in
        let earlier : old.types ≡ map made sites = before.types (λ u h. both u (Contains-append_left (map made sites) (made d ∷ []) u h)) in
        let last : t ≡ made d = its (both (made d) (Contains-append_right (map made sites) (made d ∷ []) (made d) (here (made d) []))) in
        types ∙ ap₂ (λ us u. us ++ u ∷ []) earlier last ∙ sym (map-append made sites (d ∷ []));
    names = ap (map name_of) types ∙ map-append name_of old.types (t ∷ []) ∙ ap₂ (λ ns n. ns ++ n ∷ []) before.names named ∙ sym (map-append defined_name sites (d ∷ []));
    prints = prints ∙ ap₂ (λ ps p. ps ++ p ∷ []) before.prints printed
        ∙ sym (ap (map print_of) (map-append defined_name sites (d ∷ [])) ∙ map-append print_of (map defined_name sites) (defined_name d ∷ []));
    exact = places ∙ ap₂ (λ ps p. ps ++ p ∷ []) before.exact known
        ∙ sym (ap (map (known_place edit.edited.now edit.schema.now.types)) types ∙ map-append (known_place edit.edited.now edit.schema.now.types) old.types (t ∷ []));
    roles = roles ∙ ap (λ rs. rs ++ role_of t ∷ []) before.roles ∙ sym (ap (map role_of) types ∙ map-append role_of old.types (t ∷ []));
    places = zip_step (IsConcreteAt edit.schema.now.types) old.places.items new.places.items old.types new.types place t places types before.places there;
  }

-- the types of the first definitions of each name
pub made_firsts : (edit : TypeEdit) (ds : List (Sited TypeDefinition)) (extensions : List (Sited TypeExtension)) → AreExtensions edit extensions
    → map (type_by (extensions_at edit)) (first_definitions ds) ≡ types_of ds extensions
made_firsts edit ds extensions are = types_by_groups (extensions_at edit) extensions (first_definitions ds) are

-- the types of definitions of different names
pub made_once : (edit : TypeEdit) (ds : List (Sited TypeDefinition)) (extensions : List (Sited TypeExtension)) → AreExtensions edit extensions → AreOnce (map defined_name ds)
    → map (type_by (extensions_at edit)) ds ≡ types_of ds extensions
made_once edit ds extensions are once = ap (map (type_by (extensions_at edit))) (sym (all_first ds once)) ∙ made_firsts edit ds extensions are

-- the same, of types that are made in two ways
pub kept_same : (names : List (List ℕ)) (before : Schema) (found one other : List SchemaType) → one ≡ other
    → (KeepsTypes names before one → found ≡ one) → KeepsTypes names before other → found ≡ other
kept_same names before found one other same is keeps = is (subst (KeepsTypes names before) (sym same) keeps) ∙ same

-- what is said of types that are made of definitions of different names
pub types_after_once : (edit : TypeEdit) (sites : List (Sited TypeDefinition)) (list : TypeList) (after : EditedTypes) → AreOnce (map defined_name sites) → AreMade edit sites list
    → after.types ≡ list.types → after.places.items ≡ list.places.items → AreTypesAfter edit sites after
types_after_once edit sites list after once made types places = record {
  types = λ extensions are keeps.
      types ∙ kept_same edit.edited.now edit.schema.now list.types (map (type_by (extensions_at edit)) sites) (types_of sites extensions)
      (made_once edit sites extensions are once) made.types keeps;
  places = subst (AllZip (IsConcreteAt edit.schema.now.types) after.places.items) (sym types)
      (subst (λ ps. AllZip (IsConcreteAt edit.schema.now.types) ps list.types) (sym places) made.places);
  exact = places ∙ made.exact ∙ ap (map (known_place edit.edited.now edit.schema.now.types)) (sym types);
  once = λ said. once;
}

-- what follows from four facts about a success
pub four_ok : {T E : Type 0} {A B C D F : Type 0} (r : Result T E) → (A → B → C → D → F) → OnOk r A → OnOk r B → OnOk r C → OnOk r D → OnOk r F
four_ok (Ok x) gives a b c d = gives a b c d
four_ok (Err e) gives a b c d = tt

-- no types
pub made_none : (edit : TypeEdit) (list : TypeList) → list.types ≡ [] → list.roles.items ≡ [] → list.places.items ≡ [] → list.prints.items ≡ [] → AreMade edit [] list
made_none edit list types roles places prints = record {
  types = λ keeps. types;
  names = ap (map name_of) types;
  prints = prints;
  roles = roles ∙ sym (ap (map role_of) types);
  exact = places ∙ sym (ap (map (known_place edit.edited.now edit.schema.now.types)) types);
  places = subst (λ ts. AllZip (IsConcreteAt edit.schema.now.types) list.places.items ts) (sym types)
      (subst (λ ps. AllZip (IsConcreteAt edit.schema.now.types) ps []) (sym places) tt);
}

-- one definition more of several
pub made_next : {W : Type 0} (edit : TypeEdit) (form : W → Sited TypeDefinition) (xs : List W) (i : ℕ) (x : W) (sites : List (Sited TypeDefinition)) (first old new : TypeList)
    → i < length xs → get_or xs i x ≡ x
    → (AreMade edit sites first → AreMade edit (sites ++ map form (take i xs)) old)
    → ((ds : List (Sited TypeDefinition)) → AreMade edit ds old → AreMade edit (ds ++ form x ∷ []) new)
    → AreMade edit sites first → AreMade edit (sites ++ map form (take (i + 1) xs)) new
made_next edit form xs i x sites first old new within item before more start =
    let next : sites ++ map form (take (i + 1) xs) ≡ (sites ++ map form (take i xs)) ++ form x ∷ []
    = rw (take_more xs i x within, item, map-append form (take i xs) (x ∷ [])) (sym (append_assoc sites (map form (take i xs)) (form x ∷ []))) in
    subst (λ ds. AreMade edit ds new) (sym next) (more (sites ++ map form (take i xs)) (before start))

-- things of the names of types, each once, are where these are found by their names
pub found_in_place : {W : Type 0} (name : W → List ℕ) (types : List SchemaType) (xs : List W) (i : ℕ) (x : W) → map name xs ≡ map name_of types → AreOnce (map name_of types)
    → i < length xs → get_or xs i x ≡ x → Some i ≡ position_from (λ (u : SchemaType). bytes_eq (name x) (name_of u)) 0 types
found_in_place name types xs i x same once within item =
    sym (once_placed name xs i x (subst AreOnce (sym same) once) (slice_get-get_or xs i x within ∙ ap Some item)) ∙ same_places name name_of xs types (name x) same

-- the type at a place whose name is marked as one that is not edited
pub unedited_there : (names : List (List ℕ)) (types : List SchemaType) (marks : List Bool) (i : ℕ) (found : Option SchemaType)
    → marks ≡ are_among names (map name_of types) → slice_get marks i ≡ Some false → found ≡ slice_get types i
    → IfSome found (λ t. is_some (find (bytes_eq (name_of t)) names) ≡ false)
unedited_there names types marks i None are mark is = tt
unedited_there names types marks i (Some t) are mark is =
    let both : Some false ≡ Some (is_some (find (bytes_eq (name_of t)) names)) =
    sym mark ∙ ap (λ ms. slice_get ms i) are ∙ slice_get-map (λ n. is_some (find (bytes_eq n) names)) (map name_of types) i
    ∙ ap (option_map (λ n. is_some (find (bytes_eq n) names))) (slice_get-map name_of types i ∙ ap (option_map name_of) (sym is)) in
    cc (sym both)

-- the type at a place whose name is not marked as one that is not edited
pub edited_there : (names : List (List ℕ)) (types : List SchemaType) (marks : List Bool) (i : ℕ) (t : SchemaType) (is_kept : Bool)
    → marks ≡ are_among names (map name_of types) → IsTrue is_kept ↔ (slice_get marks i ≡ Some false) → is_kept ≡ false
    → slice_get types i ≡ Some t → is_some (find (bytes_eq (name_of t)) names) ≡ true
edited_there names types marks i t is_kept are exact not there = elim (either (is_some (find (bytes_eq (name_of t)) names))) [
  | inl h ↦ h
  | inr h ↦
      let mark : slice_get marks i ≡ Some (is_some (find (bytes_eq (name_of t)) names)) =
      ap (λ ms. slice_get ms i) are ∙ slice_get-map (λ n. is_some (find (bytes_eq n) names)) (map name_of types) i
      ∙ ap (option_map (λ n. is_some (find (bytes_eq n) names))) (slice_get-map name_of types i ∙ ap (option_map name_of) there) in
      let kept : IsTrue is_kept = exact.1 (mark ∙ ap Some h) in
      let both : false ≡ true = sym not ∙ kept in absurd (cc both)
]

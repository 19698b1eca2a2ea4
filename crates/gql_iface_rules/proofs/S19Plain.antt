-- Default values that hold no object are on no cycle.
use Rattle.std.proofs.Common.{◌≡◌, ℕ, suc, ◌+◌, ◌<◌, inl, inr, List, [], ◌∷◌, ◌++◌, Bool, true, false, cond, Option, Some, None, map, flat_map, filter, length, get_or, take, Contains, sym, ap, ◌∙◌, subst, refl, arith}
use Rattle.std.specs.List.{All}
use Rattle.std.specs.Option.{option_map_or}
use Rattle.std.proofs.lemmas.List.{length-map, take_more}
use Rattle.std.proofs.lemmas.List.Elements.{All-push, All-contains}
use Rattle.gql_text.specs.declared.place.Place.{Place}
use Rattle.gql_ast.specs.declared.literal.Literal.{Literal}
use Rattle.gql_ast.specs.declared.literal.Literal.TheVariants as l
use Rattle.gql_ast.specs.declared.type_system.InputValueDefinition.{InputValueDefinition}
use Rattle.gql_built_in.specs.declared.sited.Sited.{Sited}
use Rattle.gql_cycles.proofs.Members.{Contains-nil, Contains-here, Contains-there, Contains-cases, Contains-flat_map_from}
use Rattle.gql_cycles.specs.Nodes.{IsEdge, Trail, edge, next}
use Rattle.gql_inputs.specs.InputTypes.{item_of}
use Rattle.gql_iface_rules.proofs.S19Edges.{at_map, stands_at}
use Rattle.gql_iface_rules.proofs.S19Equations.{object_values_list}
use Rattle.gql_iface_rules.specs.S19DefaultValueCycles.{NumberedObject, ObjectValue, ObjectsAt, all_inputs, default_graph, default_needs, default_values, input_objects, missing_defaults, object_values, objects}
use Rattle.gql_iface_rules.specs.S19Plain.{HoldsNone, NeedsNone, TypeNeedsNone}
use Rattle.gql_types.specs.Kinds.{same_kind}
use Rattle.gql_types.specs.Written.{Written, written}
use Rattle.gql_types.specs.declared.kind.TypeKind.TheVariants.{InputObject}
use Rattle.gql_types.specs.declared.schema.Schema.{Schema}
use Rattle.gql_types.specs.declared.schema_type.SchemaType.{SchemaType}

-- one element more
pub all_more : {A : Type 0} (P : A → Type 0) (xs : List A) (i : ℕ) (x : A) → i < length xs → get_or xs i x ≡ x → All P (take i xs) → P x → All P (take (i + 1) xs)
all_more P xs i x within item before now =
    let t : take (i + 1) xs ≡ take i xs ++ x ∷ [] = take_more xs i x within ∙ ap (λ z. take i xs ++ z ∷ []) item in
    subst (λ ys. All P ys) (sym t) (All-push P (take i xs) x before now)

-- a list of values that hold no object
first_of : {A : Type 0} (P : A → Type 0) (x : A) (xs : List A) → All P (x ∷ xs) → P x
first_of P x xs h = h 0 x (omega arith)

rest_of : {A : Type 0} (P : A → Type 0) (x : A) (xs : List A) → All P (x ∷ xs) → All P xs
rest_of P x xs h = λ k d lt. h (suc k) d (omega (arith, lt))

none_in_items : (all : List NumberedObject) (items : List Literal) (t : Written) → All HoldsNone items → flat_map (λ (x : ObjectsAt). x true t) (map (object_values all) items) ≡ []
none_in_items all [] t h = refl
none_in_items all (x ∷ items) t h =
    ap (λ (xs : List ObjectValue). xs ++ flat_map (λ (y : ObjectsAt). y true t) (map (object_values all) items)) (first_of HoldsNone x items h all true t)
    ∙ none_in_items all items t (rest_of HoldsNone x items h)

none_at : (all : List NumberedObject) (items : List Literal) (o : Option Written) → All HoldsNone items → option_map_or (λ t. flat_map (λ (x : ObjectsAt). x true t) (map (object_values all) items)) o [] ≡ []
none_at all items None h = refl
none_at all items (Some t) h = none_in_items all items t h

pub none_in_list : (place : Place) (items : List Literal) → All HoldsNone items → HoldsNone (l.List place items)
none_in_list place items h = λ all is_item t. object_values_list all is_item t place items ∙ none_at all items (item_of t) h

-- a default value that holds no object
default_at : (all : List NumberedObject) (t : Written) (o : Option Literal) → ((x : Literal) → o ≡ Some x → HoldsNone x) → option_map_or (λ (x : Literal). object_values all x false t) o [] ≡ []
default_at all t None h = refl
default_at all t (Some x) h = h x refl all false t

pub none_in_default : (d : Sited InputValueDefinition) → ((x : Literal) → d.node.default ≡ Some x → HoldsNone x) → NeedsNone d
none_in_default d h = λ all. default_at all (written d.node.of_type) d.node.default h

-- what is left of a list was in it
left_by : {A : Type 0} (p : A → Bool) (x : A) (xs : List A) (y : A) (b : Bool) → Contains (cond b (x ∷ filter p xs) (filter p xs)) y → (Contains (filter p xs) y → Contains xs y) → Contains (x ∷ xs) y
left_by p x xs y true h rest = elim (Contains-cases y x (filter p xs) h) [ inl e ↦ subst (λ z. Contains (x ∷ xs) z) (sym e) (Contains-here x xs) | inr c ↦ Contains-there y x xs (rest c) ]
left_by p x xs y false h rest = Contains-there y x xs (rest h)

left_in : {A : Type 0} (p : A → Bool) (xs : List A) (y : A) → Contains (filter p xs) y → Contains xs y
left_in p [] y h = h
left_in p (x ∷ xs) y h = left_by p x xs y (p x) h (λ c. left_in p xs y c)

module _ (s : Schema) (none : All TypeNeedsNone s.types) where
  nothing_needed : (d : Sited InputValueDefinition) → Contains (all_inputs s) d → default_values (objects s) d ≡ []
  nothing_needed d h =
      let r = Contains-flat_map_from (λ (t : SchemaType). t.input_fields) (input_objects s.types) d h in
      let there = left_in (λ (t : SchemaType). same_kind t.kind InputObject) s.types r.0 r.1 in
      All-contains NeedsNone r.0.input_fields d (All-contains TypeNeedsNone s.types r.0 none there) r.2 (objects s)

  no_edge : (i j : ℕ) → IsEdge (default_graph s) i j → ⊥
  no_edge i j h =
      let within : i < length (all_inputs s) = omega (arith, stands_at (default_graph s) i j h, length-map (all_inputs s) (default_needs (objects s))) in
      let r = at_map (default_needs (objects s)) (all_inputs s) i within in
      let row : get_or (default_graph s) i [] ≡ [] = r.2 ∙ ap (λ (xs : List ObjectValue). flat_map missing_defaults xs) (nothing_needed r.0 (i, within, r.1)) in
      Contains-nil j (subst (λ (xs : List ℕ). Contains xs j) row h)

  pub no_default_trail : {i j : ℕ} → Trail (default_graph s) i j → ⊥
  no_default_trail (edge {i} {j} h) = no_edge i j h
  no_default_trail (next {i} {j} {k} h t) = no_edge i j h

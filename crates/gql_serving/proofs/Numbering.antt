-- The number of an input field, as rule S19 numbers them, by the type that names its input object.
use Rattle.std.proofs.Common.{◌≡◌, ◌+◌, ◌++◌, inl, inr, ℕ, zero, suc, List, [], ◌∷◌, Bool, true, false, true≢false, cond, if◌then◌else◌, filter, find, bytes_eq, length, unwrap_or, Option, Some, None, option_map, option_and_then, Contains, refl, ap, sym, subst, ◌∙◌, arith}
use denote.Enum.Bare.{true_same}
use Rattle.std.specs.List.{slice_get}
use Rattle.std.proofs.lemmas.Option.{slice_get_within, get_or_from_slice_get, slice_get-map}
use Rattle.gql_ast.specs.declared.type_system.InputValueDefinition.{InputValueDefinition}
use Rattle.gql_built_in.specs.declared.sited.Sited.{Sited}
use Rattle.gql_cycles.proofs.Members.{Contains-nil, Contains-here, Contains-there, Contains-cases}
use Rattle.gql_cycles.specs.Nodes.{IsEdge}
use Rattle.gql_iface_rules.proofs.S19Missing.{found_in, object_in}
use Rattle.gql_iface_rules.specs.S19DefaultValueCycles.{Numbered, NumberedObject, input_objects, fields_of, all_inputs, numbered_from, objects_from, objects, object_named, default_needs, default_graph}
use Rattle.gql_inputs.specs.InputTypes.{input_type, if_input, is_input, name_in}
use Rattle.gql_types.specs.Kinds.{same_kind}
use Rattle.gql_types.specs.contracts.kind.TypeKind as of_type
use Rattle.gql_types.specs.Schemas.{type_named}
use Rattle.gql_types.specs.Written.{Written}
use Rattle.gql_types.specs.declared.kind.TypeKind.{TypeKind}
use Rattle.gql_types.specs.declared.kind.TypeKind.TheVariants as kind
use Rattle.gql_types.specs.declared.schema.Schema.{Schema}
use Rattle.gql_types.specs.declared.schema_type.SchemaType.{SchemaType}
use Rattle.gql_serving.proofs.Taking.{none_some}

some_one : {A : Type 0} (x y : A) → Some x ≡ Some y → x ≡ y
some_one x y is = ap (λ o. unwrap_or o x) is

-- ---- what is found

module _ {A : Type 0} (p q : A → Bool) where
  -- the first that passes is the first among those that pass another test, if it does
  pub found_filtered : (xs : List A) (x : A) → find p xs ≡ Some x → q x ≡ true → find p (filter q xs) ≡ Some x
  found_filtered [] x is passes = absurd (none_some x is)
  found_filtered (y ∷ ys) x is passes = by (λ h. found_filtered ys x h passes) (p y) refl (q y) refl is where
    by : (find p ys ≡ Some x → find p (filter q ys) ≡ Some x) → (b : Bool) → p y ≡ b → (c : Bool) → q y ≡ c → (if b then Some y else find p ys) ≡ Some x
        → find p (if c then y ∷ filter q ys else filter q ys) ≡ Some x
    by rest true first true second h = ap (λ z. cond z (Some y) (find p (filter q ys))) first ∙ h
    by rest true first false second h = absurd (true≢false (sym passes ∙ ap q (sym (some_one y x h)) ∙ second))
    by rest false first true second h = ap (λ z. cond z (Some y) (find p (filter q ys))) first ∙ rest h
    by rest false first false second h = rest h

abbrev first_object : ℕ → SchemaType → NumberedObject
first_object n t = record { of_type = t; numbers = record { start = n; end = n + length t.input_fields }; inputs = numbered_from n t.input_fields }

abbrev Found : (SchemaType → Bool) → List NumberedObject → SchemaType → Type 0
Found p os u = (o : NumberedObject) × (find (λ (x : NumberedObject). p x.of_type) os ≡ Some o) × (o.of_type ≡ u)

found_here : (p : SchemaType → Bool) (n : ℕ) (t : SchemaType) (types : List SchemaType) (later : List NumberedObject) (u : SchemaType) → (find p types ≡ Some u → Found p later u)
    → (b : Bool) → p t ≡ b → (if b then Some t else find p types) ≡ Some u → Found p (first_object n t ∷ later) u
found_here p n t types later u rest true first h = (first_object n t, ap (λ z. cond z (Some (first_object n t)) (find (λ (x : NumberedObject). p x.of_type) later)) first, some_one t u h)
found_here p n t types later u rest false first h = let r = rest h in (r.0, ap (λ z. cond z (Some (first_object n t)) (find (λ (x : NumberedObject). p x.of_type) later)) first ∙ r.1, r.2)

object_found : (p : SchemaType → Bool) (n : ℕ) (types : List SchemaType) (u : SchemaType) → find p types ≡ Some u → Found p (objects_from n types) u
object_found p n [] u is = absurd (none_some u is)
object_found p n (t ∷ types) u is = found_here p n t types (objects_from (n + length t.input_fields) types) u (λ h. object_found p (n + length t.input_fields) types u h) (p t) refl is

-- ---- what is at a number

number_of : (n : ℕ) (fields : List (Sited InputValueDefinition)) (f : Sited InputValueDefinition) → Contains fields f → (y : Numbered) × Contains (numbered_from n fields) y × (y.field ≡ f)
number_of n [] f has = absurd (Contains-nil f has)
number_of n (g ∷ fields) f has = elim (Contains-cases f g fields has) [
  | inl e ↦ (record { number = n; field = g }, Contains-here (record { number = n; field = g }) (numbered_from (suc n) fields), sym e)
  | inr later ↦ let r = number_of (suc n) fields f later in (r.0, Contains-there r.0 (record { number = n; field = g }) (numbered_from (suc n) fields) r.1, r.2)
]

field_at : (n : ℕ) (fields : List (Sited InputValueDefinition)) (y : Numbered) → Contains (numbered_from n fields) y → (k : ℕ) × (y.number ≡ n + k) × (slice_get fields k ≡ Some y.field)
field_at n [] y has = absurd (Contains-nil y has)
field_at n (f ∷ fields) y has = elim (Contains-cases y (record { number = n; field = f }) (numbered_from (suc n) fields) has) [
  | inl e ↦ let at : y.number ≡ n = ap (λ (z : Numbered). z.number) e in (0, omega (arith, at), ap Some (sym (ap (λ (z : Numbered). z.field) e)))
  | inr later ↦ let r = field_at (suc n) fields y later in (suc r.0, omega (arith, r.1), r.2)
]

slice_left : {A : Type 0} (xs ys : List A) (k : ℕ) (x : A) → slice_get xs k ≡ Some x → slice_get (xs ++ ys) k ≡ Some x
slice_left [] ys k x is = absurd (none_some x is)
slice_left (z ∷ xs) ys zero x is = is
slice_left (z ∷ xs) ys (suc k) x is = slice_left xs ys k x is

slice_right : {A : Type 0} (xs ys : List A) (k : ℕ) → (j : ℕ) × (j ≡ length xs + k) × (slice_get (xs ++ ys) j ≡ slice_get ys k)
slice_right [] ys k = (k, omega arith, refl)
slice_right (z ∷ xs) ys k = let r = slice_right xs ys k in (suc r.0, omega (arith, r.1), r.2)

object_field_at : (n : ℕ) (types : List SchemaType) (o : NumberedObject) (y : Numbered) → Contains (objects_from n types) o → Contains o.inputs y
    → (k : ℕ) × (y.number ≡ n + k) × (slice_get (fields_of types) k ≡ Some y.field)
object_field_at n [] o y has there = absurd (Contains-nil o has)
object_field_at n (t ∷ types) o y has there = elim (Contains-cases o (first_object n t) (objects_from (n + length t.input_fields) types) has) [
  | inl e ↦ let r = field_at n t.input_fields y (subst (λ (u : NumberedObject). Contains u.inputs y) e there) in
      (r.0, r.1, slice_left t.input_fields (fields_of types) r.0 y.field r.2)
  | inr later ↦ let r = object_field_at (n + length t.input_fields) types o y later there in
      let at = slice_right t.input_fields (fields_of types) r.0 in
      (at.0, omega (arith, r.1, at.1), at.2 ∙ r.2)
]

-- ---- the fields of a schema

input_by : (u t : SchemaType) (b : Bool) → (if b then Some u else None) ≡ Some t → u ≡ t
input_by u t true is = some_one u t is
input_by u t false is = absurd (none_some t is)

named_by : (o : Option SchemaType) (t : SchemaType) → option_and_then if_input o ≡ Some t → o ≡ Some t
named_by None t is = absurd (none_some t is)
named_by (Some u) t is = ap Some (input_by u t (is_input u.kind) is)

pub is_input_object : (k : TypeKind) → k ≡ kind.InputObject → same_kind k kind.InputObject ≡ true
unfolding same_kind
is_input_object k is = true_same of_type.the_type k kind.InputObject is

pub contains_at : {A : Type 0} (xs : List A) (i : ℕ) (x : A) → slice_get xs i ≡ Some x → Contains xs x
contains_at xs i x is = (i, slice_get_within xs i x is, get_or_from_slice_get xs i x x is)

module _ (s : Schema) where
  -- the field of this number has this node
  abbrev pub Numbers : ℕ → InputValueDefinition → Type 0
  Numbers i d = (f : Sited InputValueDefinition) × (slice_get (all_inputs s) i ≡ Some f) × (f.node ≡ d)

  pub type_found : (t : Written) (u : SchemaType) → input_type s t ≡ Some u → type_named s (name_in t) ≡ Some u
  type_found t u is = named_by (type_named s (name_in t)) u is

  -- a type that is named is one of the schema
  pub named_type : (t : Written) (u : SchemaType) → input_type s t ≡ Some u → Contains s.types u
  named_type t u is = (found_in (λ (v : SchemaType). bytes_eq (name_in t) v.definition.node.name.text) s.types u (type_found t u is)).0

  -- the input object that a type names
  pub object_of : (t : Written) (u : SchemaType) → input_type s t ≡ Some u → u.kind ≡ kind.InputObject
      → (o : NumberedObject) × (object_named (objects s) (name_in t) ≡ Some o) × (o.of_type ≡ u)
  object_of t u is of_kind = object_found (λ (v : SchemaType). bytes_eq (name_in t) v.definition.node.name.text) 0 (input_objects s.types) u
      (found_filtered (λ (v : SchemaType). bytes_eq (name_in t) v.definition.node.name.text) (λ (v : SchemaType). same_kind v.kind kind.InputObject) s.types u (type_found t u is) (is_input_object u.kind of_kind))

  -- the number of one of its fields
  pub field_number : (t : Written) (o : NumberedObject) (f : Sited InputValueDefinition) → object_named (objects s) (name_in t) ≡ Some o → Contains o.of_type.input_fields f
      → (y : Numbered) × Contains o.inputs y × (y.field ≡ f) × Numbers y.number f.node
  field_number t o f is has =
      let there = (found_in (λ (x : NumberedObject). bytes_eq (name_in t) x.of_type.definition.node.name.text) (objects s) o is).0 in
      let numbered = object_in 0 (input_objects s.types) o there in
      let y = number_of o.numbers.start o.of_type.input_fields f has in
      let inputs : Contains o.inputs y.0 = subst (λ xs. Contains xs y.0) (sym numbered.inputs_are) y.1 in
      let at = object_field_at 0 (input_objects s.types) o y.0 there inputs in
      let same : at.0 ≡ y.0.number = omega (arith, at.1) in
      (y.0, inputs, y.2, (y.0.field, ap (slice_get (all_inputs s)) (sym same) ∙ at.2, ap (λ (g : Sited InputValueDefinition). g.node) y.2))

  -- what its default needs is at its number in the graph
  pub is_edge : (i j : ℕ) (f : Sited InputValueDefinition) → slice_get (all_inputs s) i ≡ Some f → Contains (default_needs (objects s) f) j → IsEdge (default_graph s) i j
  is_edge i j f is needs = subst (λ xs. Contains xs j)
      (sym (get_or_from_slice_get (default_graph s) i (default_needs (objects s) f) [] (slice_get-map (default_needs (objects s)) (all_inputs s) i ∙ ap (option_map (default_needs (objects s))) is))) needs

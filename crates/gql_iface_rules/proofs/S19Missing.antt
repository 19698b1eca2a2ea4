-- A field is missing in an object just where a range leads to it.
use Rattle.std.proofs.Common.{◌≡◌, ℕ, suc, ◌+◌, ◌<◌, ◌≤◌, ◌&&◌, inl, inr, List, [], ◌∷◌, Bool, true, false, cond, Option, Some, None, find, bytes_eq, map, flat_map, Contains, length, sym, ap, ◌∙◌, subst, refl, arith, length-append}
use Rattle.std.specs.Option.{option_map_or}
use Rattle.std.proofs.lemmas.List.Elements.{Contains-append_cases}
use Rattle.gql_ast.specs.declared.literal.Literal.{Literal}
use Rattle.gql_ast.specs.declared.literal.ObjectField.{ObjectField}
use Rattle.gql_ast.specs.declared.type_system.InputValueDefinition.{InputValueDefinition}
use Rattle.gql_built_in.specs.declared.sited.Sited.{Sited}
use Rattle.gql_cycles.proofs.Members.{Contains-nil, Contains-here, Contains-there, Contains-cases}
use Rattle.gql_inputs.specs.InputTypes.{item_of, is_list, name_in}
use Rattle.gql_iface_rules.proofs.S19Literals.{Each, by_literal}
use Rattle.gql_iface_rules.specs.S19DefaultValueCycles.{Numbered, NumberedObject, ObjectValue, ObjectsAt, name_given, numbered_from, objects_from, fields_of, object_named, object_values, values_in_field, given, values_of_object, default_values}
use Rattle.gql_iface_rules.proofs.S19Equations as forms
use Rattle.gql_iface_rules.specs.S19Ranges.{first_number}
use Rattle.gql_cycles.specs.Cover.{IsWithin}
use Rattle.gql_types.specs.Written.{Written, written}
use Rattle.gql_types.specs.declared.schema_type.SchemaType.{SchemaType}

-- ---- what is found

found_here : {A : Type 0} (p : A → Bool) (y : A) (ys : List A) (x : A) → ((z : A) → find p ys ≡ Some z → Contains ys z × (p z ≡ true)) → (b : Bool) → p y ≡ b → cond b (Some y) (find p ys) ≡ Some x → Contains (y ∷ ys) x × (p x ≡ true)
found_here p y ys x rest true is e = let same : y ≡ x = cc in (subst (λ z. Contains (y ∷ ys) z) same (Contains-here y ys), subst (λ z. p z ≡ true) same is)
found_here p y ys x rest false is e = let r = rest x e in (Contains-there x y ys r.0, r.1)

pub found_in : {A : Type 0} (p : A → Bool) (xs : List A) (x : A) → find p xs ≡ Some x → Contains xs x × (p x ≡ true)
found_in p [] x e = absurd (cc)
found_in p (y ∷ ys) x e = found_here p y ys x (found_in p ys) (p y) refl e

finds_here : {A : Type 0} (p : A → Bool) (y : A) (ys : List A) → (y' : A) × (find p ys ≡ Some y') → (b : Bool) → (z : A) × (cond b (Some y) (find p ys) ≡ Some z)
finds_here p y ys rest true = (y, refl)
finds_here p y ys rest false = rest

pub finds : {A : Type 0} (p : A → Bool) (xs : List A) (x : A) → Contains xs x → p x ≡ true → (y : A) × (find p xs ≡ Some y)
finds p [] x h is = absurd (Contains-nil x h)
finds p (y ∷ ys) x h is = elim (Contains-cases x y ys h) [
  | inl e ↦ let t : p y ≡ true = ap p (sym e) ∙ is in (y, ap (λ b. cond b (Some y) (find p ys)) t)
  | inr t ↦ finds_here p y ys (finds p ys x t is) (p y)
]

-- ---- numbers of fields, and of objects

pub numbered_in : (n : ℕ) (fields : List (Sited InputValueDefinition)) (x : Numbered) → Contains (numbered_from n fields) x → (n ≤ x.number) × (x.number < n + length fields)
numbered_in n [] x h = absurd (Contains-nil x h)
numbered_in n (f ∷ fields) x h = elim (Contains-cases x (record { number = n; field = f }) (numbered_from (suc n) fields) h) [
  | inl e ↦ let k : x.number ≡ n = ap (λ (y : Numbered). y.number) e in (omega (arith, k), omega (arith, k))
  | inr t ↦ let r = numbered_in (suc n) fields x t in (omega (arith, r.0), omega (arith, r.1))
]

pub numbered_same : (n : ℕ) (fields : List (Sited InputValueDefinition)) (x y : Numbered) → Contains (numbered_from n fields) x → Contains (numbered_from n fields) y → x.number ≡ y.number → x ≡ y
numbered_same n [] x y h g e = absurd (Contains-nil x h)
numbered_same n (f ∷ fields) x y h g e = elim (Contains-cases x (record { number = n; field = f }) (numbered_from (suc n) fields) h) [
  | inl a ↦ elim (Contains-cases y (record { number = n; field = f }) (numbered_from (suc n) fields) g) [
    | inl b ↦ a ∙ sym b
    | inr t ↦ let k : x.number ≡ n = ap (λ (z : Numbered). z.number) a in absurd (omega (arith, k, e, (numbered_in (suc n) fields y t).0))
  ]
  | inr s ↦ elim (Contains-cases y (record { number = n; field = f }) (numbered_from (suc n) fields) g) [
    | inl b ↦ let k : y.number ≡ n = ap (λ (z : Numbered). z.number) b in absurd (omega (arith, k, e, (numbered_in (suc n) fields x s).0))
    | inr t ↦ numbered_same (suc n) fields x y s t e
  ]
]

-- the numbers of the fields of an object
pub record IsNumbered (from to : ℕ) (o : NumberedObject) : Type 0 where
  pub inputs_are : o.inputs ≡ numbered_from o.numbers.start o.of_type.input_fields
  pub end_is : o.numbers.end ≡ o.numbers.start + length o.of_type.input_fields
  pub from_is : from ≤ o.numbers.start
  pub to_is : o.numbers.end ≤ to

abbrev first_object : ℕ → SchemaType → NumberedObject
first_object n t = record { of_type = t; numbers = record { start = n; end = n + length t.input_fields }; inputs = numbered_from n t.input_fields }

pub object_in : (n : ℕ) (types : List SchemaType) (o : NumberedObject) → Contains (objects_from n types) o → IsNumbered n (n + length (fields_of types)) o
object_in n [] o h = absurd (Contains-nil o h)
object_in n (t ∷ types) o h = elim (Contains-cases o (first_object n t) (objects_from (n + length t.input_fields) types) h) [
  | inl e ↦ subst (IsNumbered n (n + length (fields_of (t ∷ types)))) (sym e) (record {
    inputs_are = refl;
    end_is = refl;
    from_is = omega arith;
    to_is = omega (arith, length-append t.input_fields (fields_of types));
  })
  | inr g ↦ let r = object_in (n + length t.input_fields) types o g in record {
    inputs_are = r.inputs_are;
    end_is = r.end_is;
    from_is = omega (arith, r.from_is);
    to_is = omega (arith, r.to_is, length-append t.input_fields (fields_of types));
  }
]

pub object_same : (n : ℕ) (types : List SchemaType) (o u : NumberedObject) (p : ℕ) → Contains (objects_from n types) o → Contains (objects_from n types) u → IsWithin o.numbers p → IsWithin u.numbers p → o ≡ u
object_same n [] o u p h g a b = absurd (Contains-nil o h)
object_same n (t ∷ types) o u p h g a b = elim (Contains-cases o (first_object n t) (objects_from (n + length t.input_fields) types) h) [
  | inl e ↦ elim (Contains-cases u (first_object n t) (objects_from (n + length t.input_fields) types) g) [
    | inl f ↦ e ∙ sym f
    | inr v ↦
        let end : o.numbers.end ≡ n + length t.input_fields = ap (λ (z : NumberedObject). z.numbers.end) e in
        absurd (omega (arith, end, a.1, b.0, (object_in (n + length t.input_fields) types u v).from_is))
  ]
  | inr w ↦ elim (Contains-cases u (first_object n t) (objects_from (n + length t.input_fields) types) g) [
    | inl f ↦
        let end : u.numbers.end ≡ n + length t.input_fields = ap (λ (z : NumberedObject). z.numbers.end) f in
        absurd (omega (arith, end, b.1, a.0, (object_in (n + length t.input_fields) types o w).from_is))
    | inr v ↦ object_same (n + length t.input_fields) types o u p w v a b
  ]
]

-- ---- the first field of a name

abbrev pub is_named : List ℕ → Numbered → Bool
is_named name i = bytes_eq name i.field.node.name.text

first_is : (inputs : List Numbered) (name : List ℕ) (p : ℕ) (o : Option Numbered) → find (is_named name) inputs ≡ o → Contains (option_map_or (λ (i : Numbered). i.number ∷ []) o []) p → (y : Numbered) × (find (is_named name) inputs ≡ Some y) × (y.number ≡ p)
first_is inputs name p None e h = absurd (Contains-nil p h)
first_is inputs name p (Some y) e h = elim (Contains-cases p y.number [] h) [ inl s ↦ (y, e, sym s) | inr n ↦ absurd (Contains-nil p n) ]

pub first_has : (inputs : List Numbered) (name : List ℕ) (p : ℕ) → Contains (first_number inputs name) p → (y : Numbered) × (find (is_named name) inputs ≡ Some y) × (y.number ≡ p)
first_has inputs name p h = first_is inputs name p (find (is_named name) inputs) refl h

pub first_of : (inputs : List Numbered) (name : List ℕ) (y : Numbered) → find (is_named name) inputs ≡ Some y → Contains (first_number inputs name) y.number
first_of inputs name y e = subst (λ o. Contains (option_map_or (λ (i : Numbered). i.number ∷ []) o []) y.number) (sym e) (Contains-here y.number [])

-- ---- the objects within a value are at objects of the schema

module _ (all : List NumberedObject) where
  abbrev Stands : Literal → Type 0
  Stands x = (is_item : Bool) (t : Written) (st : ObjectValue) → Contains (object_values all x is_item t) st → Contains all st.input_object

  none : (x : Literal) (is_item : Bool) (t : Written) (st : ObjectValue) → object_values all x is_item t ≡ [] → Contains (object_values all x is_item t) st → Contains all st.input_object
  none x is_item t st e h = absurd (Contains-nil st (subst (λ xs. Contains xs st) e h))

  in_items : (items : List Literal) (item : Written) (st : ObjectValue) → Each Stands items → Contains (flat_map (λ (x : ObjectsAt). x true item) (map (object_values all) items)) st → Contains all st.input_object
  in_items [] item st each h = absurd (Contains-nil st h)
  in_items (x ∷ items) item st each h = elim (Contains-append_cases (object_values all x true item) (flat_map (λ (x : ObjectsAt). x true item) (map (object_values all) items)) st h) [
    | inl g ↦ each.0 true item st g
    | inr g ↦ in_items items item st each.1 g
  ]

  in_list : (items : List Literal) (o : Option Written) (st : ObjectValue) → Each Stands items → Contains (option_map_or (λ item. flat_map (λ (x : ObjectsAt). x true item) (map (object_values all) items)) o []) st → Contains all st.input_object
  in_list items None st each h = absurd (Contains-nil st h)
  in_list items (Some item) st each h = in_items items item st each h

  in_value : (f : ObjectField) (o : Option (Sited InputValueDefinition)) (st : ObjectValue) → Stands f.value → Contains (option_map_or (λ (d : Sited InputValueDefinition). object_values all f.value false (written d.node.of_type)) o []) st → Contains all st.input_object
  in_value f None st each h = absurd (Contains-nil st h)
  in_value f (Some d) st each h = each false (written d.node.of_type) st h

  in_fields : (t : SchemaType) (fields : List ObjectField) (st : ObjectValue) → Each (λ (f : ObjectField). Stands f.value) fields → Contains (flat_map (values_in_field t) (map (given all) fields)) st → Contains all st.input_object
  in_fields t [] st each h = absurd (Contains-nil st h)
  in_fields t (f ∷ fields) st each h = elim (Contains-append_cases (values_in_field t (given all f)) (flat_map (values_in_field t) (map (given all) fields)) st h) [
    | inl g ↦ in_value f (find (λ (d : Sited InputValueDefinition). bytes_eq f.name.text d.node.name.text) t.input_fields) st each.0 g
    | inr g ↦ in_fields t fields st each.1 g
  ]

  in_object : (fields : List ObjectField) (name : List ℕ) (o : Option NumberedObject) (st : ObjectValue) → object_named all name ≡ o → Each (λ (f : ObjectField). Stands f.value) fields →
      Contains (option_map_or (values_of_object (map (given all) fields)) o []) st → Contains all st.input_object
  in_object fields name None st e each h = absurd (Contains-nil st h)
  in_object fields name (Some o) st e each h = elim (Contains-append_cases (flat_map (values_in_field o.of_type) (map (given all) fields)) (record { input_object = o; names = flat_map name_given (map (given all) fields) } ∷ []) st h) [
    | inl g ↦ in_fields o.of_type fields st each g
    | inr g ↦ elim (Contains-cases st (record { input_object = o; names = flat_map name_given (map (given all) fields) }) [] g) [
      | inl s ↦
          let same : st.input_object ≡ o = ap (λ (x : ObjectValue). x.input_object) s in
          subst (λ x. Contains all x) (sym same) (found_in (λ (x : NumberedObject). bytes_eq name x.of_type.definition.node.name.text) all o e).0
      | inr n ↦ absurd (Contains-nil st n)
    ]
  ]

  in_one : (fields : List ObjectField) (t : Written) (b : Bool) (st : ObjectValue) → Each (λ (f : ObjectField). Stands f.value) fields →
      Contains (cond b [] (option_map_or (values_of_object (map (given all) fields)) (object_named all (name_in t)) [])) st → Contains all st.input_object
  in_one fields t true st each h = absurd (Contains-nil st h)
  in_one fields t false st each h = in_object fields (name_in t) (object_named all (name_in t)) st refl each h

  pub stands : (x : Literal) → Stands x
  stands = by_literal Stands (record {
    object = λ place fields each is_item t st h. in_one fields t (is_item && is_list t) st each (subst (λ xs. Contains xs st) (forms.object_values_object all is_item t place fields) h);
    list = λ place items each is_item t st h. in_list items (item_of t) st each (subst (λ xs. Contains xs st) (forms.object_values_list all is_item t place items) h);
    variable = λ place name is_item t st h. none _ is_item t st (forms.object_values_variable all is_item t place name) h;
    int = λ place text is_item t st h. none _ is_item t st (forms.object_values_int all is_item t place text) h;
    float = λ place text is_item t st h. none _ is_item t st (forms.object_values_float all is_item t place text) h;
    string = λ place value is_item t st h. none _ is_item t st (forms.object_values_string all is_item t place value) h;
    boolean = λ place value is_item t st h. none _ is_item t st (forms.object_values_boolean all is_item t place value) h;
    null = λ place is_item t st h. none _ is_item t st (forms.object_values_null all is_item t place) h;
    enum = λ place name is_item t st h. none _ is_item t st (forms.object_values_enum all is_item t place name) h;
  })

  in_default : (d : Sited InputValueDefinition) (o : Option Literal) (st : ObjectValue) → Contains (option_map_or (λ (x : Literal). object_values all x false (written d.node.of_type)) o []) st → Contains all st.input_object
  in_default d None st h = absurd (Contains-nil st h)
  in_default d (Some x) st h = stands x false (written d.node.of_type) st h

  pub default_stands : (d : Sited InputValueDefinition) (st : ObjectValue) → Contains (default_values all d) st → Contains all st.input_object
  default_stands d st h = in_default d d.node.default st h

-- Input fields and objects one by one, and what values need.
use Rattle.std.proofs.Common.{◌≡◌, ℕ, suc, ◌+◌, ◌<◌, ◌++◌, List, [], ◌∷◌, Bool, true, false, map, find, flat_map, option_map, length, get_or, take, sym, ◌∙◌, ap, refl, arith, append-nil, append_assoc, length-append}
use Rattle.std.proofs.lemmas.List.{take_more, length-map, length-take-le}
use Rattle.std.proofs.lemmas.List.Concat.{flat_map-append}
use Rattle.std.proofs.lemmas.List.Elements.{filter-append}
use Rattle.gql_ast.specs.declared.literal.Literal.{Literal}
use Rattle.gql_ast.specs.declared.literal.ObjectField.{ObjectField}
use Rattle.gql_ast.specs.declared.type_system.InputValueDefinition.{InputValueDefinition}
use Rattle.gql_built_in.specs.declared.sited.Sited.{Sited}
use Rattle.gql_iface_rules.specs.S19DefaultValueCycles.{Numbered, NumberedObject, ObjectValue, name_given, name_of_given, object_values, given, values_in_field, values_of_object, input_objects, fields_of, numbered_from, objects_from}
use Rattle.gql_types.specs.Kinds.{same_kind}
use Rattle.gql_types.specs.Written.{Written}
use Rattle.gql_types.specs.declared.kind.TypeKind.TheVariants.{InputObject}
use Rattle.gql_types.specs.declared.schema_type.SchemaType.{SchemaType}

pub no_object_values : (xs : List ObjectValue) (all : List NumberedObject) (is_item : Bool) (t : Written) (x : Literal) → object_values all x is_item t ≡ [] → xs ≡ xs ++ object_values all x is_item t
no_object_values xs all is_item t x is = rw is (sym (append-nil xs))

-- what was given has its names
pub given_names : (all : List NumberedObject) (fields : List ObjectField) → flat_map name_given (map (given all) fields) ≡ flat_map name_of_given fields
given_names all [] = refl
given_names all (f ∷ fields) = ap (λ (ns : List (List ℕ)). name_of_given f ++ ns) (given_names all fields)

-- the objects of an object are those within its fields, and the object itself
pub with_itself : (all : List NumberedObject) (fields : List ObjectField) (o : NumberedObject) (start middle after : List ObjectValue) → middle ≡ start ++ flat_map (values_in_field o.of_type) (map (given all) fields) →
    after ≡ middle ++ record { input_object = o; names = flat_map name_of_given fields } ∷ [] → after ≡ start ++ values_of_object (map (given all) fields) o
with_itself all fields o start middle after first second =
    second ∙ ap (λ (xs : List ObjectValue). xs ++ record { input_object = o; names = flat_map name_of_given fields } ∷ []) first
    ∙ append_assoc start (flat_map (values_in_field o.of_type) (map (given all) fields)) (record { input_object = o; names = flat_map name_of_given fields } ∷ [])
    ∙ ap (λ (ns : List (List ℕ)). start ++ (flat_map (values_in_field o.of_type) (map (given all) fields) ++ record { input_object = o; names = ns } ∷ [])) (sym (given_names all fields))

-- one field more
pub numbered_push : (n : ℕ) (fields : List (Sited InputValueDefinition)) (f : Sited InputValueDefinition) → numbered_from n (fields ++ f ∷ []) ≡ numbered_from n fields ++ record { number = n + length fields; field = f } ∷ []
numbered_push n [] f = ap (λ (k : ℕ). record { number = k; field = f } ∷ []) (omega arith)
numbered_push n (x ∷ fields) f = ap (λ (r : List Numbered). record { number = n; field = x } ∷ r)
    (numbered_push (suc n) fields f ∙ ap (λ (k : ℕ). numbered_from (suc n) fields ++ record { number = k; field = f } ∷ []) (omega arith))

-- more types
pub objects_append : (n : ℕ) (xs ys : List SchemaType) → objects_from n (xs ++ ys) ≡ objects_from n xs ++ objects_from (n + length (fields_of xs)) ys
objects_append n [] ys = ap (λ (k : ℕ). objects_from k ys) (omega arith)
objects_append n (t ∷ xs) ys = ap (λ (r : List NumberedObject). record { of_type = t; numbers = record { start = n; end = n + length t.input_fields }; inputs = numbered_from n t.input_fields } ∷ r)
    (objects_append (n + length t.input_fields) xs ys ∙ ap (λ (k : ℕ). objects_from (n + length t.input_fields) xs ++ objects_from k ys) (omega (arith, length-append t.input_fields (fields_of xs))))

pub numbered_step : (n : ℕ) (fields : List (Sited InputValueDefinition)) (i k : ℕ) (f : Sited InputValueDefinition) (before after : List Numbered) → i < length fields → get_or fields i f ≡ f →
    before ≡ numbered_from n (take i fields) → k ≡ n + i → after ≡ before ++ record { number = k; field = f } ∷ [] → after ≡ numbered_from n (take (i + 1) fields)
numbered_step n fields i k f before after within item was at is =
    let t : take (i + 1) fields ≡ take i fields ++ f ∷ [] = take_more fields i f within ∙ ap (λ z. take i fields ++ z ∷ []) item in
    let len : length (take i fields) ≡ i = length-take-le i fields (omega (arith, within)) in
    let number : k ≡ n + length (take i fields) = at ∙ ap (λ j. n + j) (sym len) in
    is ∙ ap (λ (xs : List Numbered). xs ++ record { number = k; field = f } ∷ []) was ∙ ap (λ (j : ℕ). numbered_from n (take i fields) ++ record { number = j; field = f } ∷ []) number
    ∙ sym (numbered_push n (take i fields) f) ∙ ap (numbered_from n) (sym t)

-- a type, if it is an input object
pub an_object : (t : SchemaType) → same_kind t.kind InputObject ≡ true → input_objects (t ∷ []) ≡ t ∷ []
an_object t is = rw is refl

pub no_object : (t : SchemaType) → same_kind t.kind InputObject ≡ false → input_objects (t ∷ []) ≡ []
no_object t is = rw is refl

pub object_added : (t : SchemaType) (n start end : ℕ) (inputs : List Numbered) (before after : List NumberedObject) → same_kind t.kind InputObject ≡ true → inputs ≡ numbered_from n t.input_fields → start ≡ n → end ≡ n + length t.input_fields →
    after ≡ before ++ record { of_type = t; numbers = record { start = start; end = end }; inputs = inputs } ∷ [] → after ≡ before ++ objects_from n (input_objects (t ∷ []))
object_added t n start end inputs before after is fields first last added = rw (an_object t is)
    (added ∙ ap (λ (is : List Numbered). before ++ record { of_type = t; numbers = record { start = start; end = end }; inputs = is } ∷ []) fields
    ∙ ap (λ (k : ℕ). before ++ record { of_type = t; numbers = record { start = k; end = end }; inputs = numbered_from n t.input_fields } ∷ []) first
    ∙ ap (λ (k : ℕ). before ++ record { of_type = t; numbers = record { start = n; end = k }; inputs = numbered_from n t.input_fields } ∷ []) last)

-- one type more
module _ {A : Type 0} (g : A → Sited InputValueDefinition) (types : List SchemaType) (i : ℕ) (t : SchemaType) (within : i < length types) (item : get_or types i t ≡ t) where
  objects_more : input_objects (take (i + 1) types) ≡ input_objects (take i types) ++ input_objects (t ∷ [])
  objects_more = ap input_objects (take_more types i t within ∙ ap (λ z. take i types ++ z ∷ []) item) ∙ filter-append (λ (u : SchemaType). same_kind u.kind InputObject) (take i types) (t ∷ [])

  fields_more : fields_of (input_objects (take (i + 1) types)) ≡ fields_of (input_objects (take i types)) ++ fields_of (input_objects (t ∷ []))
  fields_more = ap fields_of objects_more ∙ flat_map-append (λ (u : SchemaType). u.input_fields) (input_objects (take i types)) (input_objects (t ∷ []))

  pub fields_step : (all after : List A) → map g all ≡ fields_of (input_objects (take i types)) → map g after ≡ map g all ++ fields_of (input_objects (t ∷ [])) →
      map g after ≡ fields_of (input_objects (take (i + 1) types))
  fields_step all after was is = is ∙ ap (λ xs. xs ++ fields_of (input_objects (t ∷ []))) was ∙ sym fields_more

  pub objects_step : (all : List A) (before after : List NumberedObject) → map g all ≡ fields_of (input_objects (take i types)) → before ≡ objects_from 0 (input_objects (take i types)) →
      after ≡ before ++ objects_from (length all) (input_objects (t ∷ [])) → after ≡ objects_from 0 (input_objects (take (i + 1) types))
  objects_step all before after fields was is =
      let same : length all ≡ length (fields_of (input_objects (take i types))) = sym (length-map all g) ∙ ap length fields in
      let len : length all ≡ 0 + length (fields_of (input_objects (take i types))) = omega (arith, same) in
      is ∙ ap (λ (xs : List NumberedObject). xs ++ objects_from (length all) (input_objects (t ∷ []))) was
      ∙ ap (λ (k : ℕ). objects_from 0 (input_objects (take i types)) ++ objects_from k (input_objects (t ∷ []))) len
      ∙ sym (objects_append 0 (input_objects (take i types)) (input_objects (t ∷ []))) ∙ ap (objects_from 0) (sym objects_more)

-- what is found where a function was put over a list
found_by : {A B : Type 0} (f : A → B) (p : B → Bool) (x : A) (xs : List A) → find p (map f xs) ≡ option_map f (find (λ y. p (f y)) xs) → (b : Bool) → p (f x) ≡ b → find p (map f (x ∷ xs)) ≡ option_map f (find (λ y. p (f y)) (x ∷ xs))
found_by f p x xs rest true e = rw e refl
found_by f p x xs rest false e = rw e rest

pub find-map : {A B : Type 0} (f : A → B) (p : B → Bool) (xs : List A) → find p (map f xs) ≡ option_map f (find (λ y. p (f y)) xs)
find-map f p [] = refl
find-map f p (x ∷ xs) = found_by f p x xs (find-map f p xs) (p (f x)) refl

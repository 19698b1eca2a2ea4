-- A default that coercion takes in a value is one that rule S19 finds to be needed there.
use Rattle.std.proofs.Common.{◌≡◌, ◌&&◌, ◌⊎◌, inl, inr, ℕ, List, [], ◌∷◌, Bool, true, false, true≢false, not, cond, if◌then◌else◌, map, flat_map, filter, find, bytes_eq, is_some, Option, Some, None, option_map, Contains, refl, ap, sym, subst, ◌∙◌}
use Rattle.std.specs.Option.{option_map_or}
use Rattle.std.proofs.lemmas.Slice.Eq.{bytes_eq-Decides}
use Rattle.std.proofs.lemmas.List.Elements.{Contains-append_left, Contains-append_right}
use Rattle.gql_text.specs.declared.place.Place.{Place}
use Rattle.gql_ast.specs.declared.literal.Literal.{Literal}
use Rattle.gql_ast.specs.declared.literal.Literal.TheVariants as l
use Rattle.gql_ast.specs.declared.literal.ObjectField.{ObjectField}
use Rattle.gql_ast.specs.declared.type_system.InputValueDefinition.{InputValueDefinition}
use Rattle.gql_built_in.specs.declared.sited.Sited.{Sited}
use Rattle.gql_cycles.proofs.Members.{Contains-nil, Contains-here, Contains-cases, Contains-map, Contains-map_from, Contains-flat_map, Contains-flat_map_from}
use Rattle.gql_coerce.proofs.Fitted.{empty_left, none_found, none_passes, unique, item_no_repeats, field_no_repeats}
use Rattle.gql_coerce.proofs.Found as mapped
use Rattle.gql_coerce.proofs.Reading as reading
use Rattle.gql_coerce.specs.Coercion.{Entry, defined_entry, entries_for, given_as, is_list_expected}
use Rattle.gql_coerce.specs.Defaults.{is_absent, is_left_out, Takes}
use Rattle.gql_coerce.specs.Inputs.{Input, Field, list, object, inputs_of, fields_of, firsts, of_variable, literal, literal_field, may_be_list}
use Rattle.gql_iface_rules.proofs.S19Equations as forms
use Rattle.gql_iface_rules.proofs.S19Literals.{Each, by_literal}
use Rattle.gql_iface_rules.proofs.S19Missing.{found_in, finds}
use Rattle.gql_iface_rules.proofs.S19Steps.{given_names}
use Rattle.gql_iface_rules.specs.S19DefaultValueCycles.{Numbered, NumberedObject, ObjectValue, ObjectsAt, is_variable, is_variable_value, name_given, name_of_given, objects, object_named, object_values, list_at, values_in_field, values_of_object, given as s19_given, is_among, missing_default, missing_defaults}
use Rattle.gql_inputs.proofs.Repeating.{repeats_object}
use Rattle.gql_inputs.proofs.ValueForms.{value_variable}
use Rattle.gql_inputs.specs.BadValues.{repeats, field_repeats}
use Rattle.gql_inputs.specs.InputTypes.{input_type, is_list, item_of, name_in}
use Rattle.gql_inputs.specs.Values.{given_field, value_of}
use Rattle.gql_types.specs.Written.{Written, written}
use Rattle.gql_types.specs.declared.kind.TypeKind.TheVariants as kind
use Rattle.gql_types.specs.declared.schema.Schema.{Schema}
use Rattle.gql_types.specs.declared.schema_type.SchemaType.{SchemaType}
use Rattle.serde_json.specs.Data as json
use Rattle.serde_json.specs.Data.{Data}
use Rattle.serde_json.specs.Find.{get}
use Rattle.gql_serving.proofs.Numbering.{Numbers, object_of, field_number}
use Rattle.gql_serving.proofs.Taking.{none_some, field_type, list_item, nothing_taken, Within, within, IsField, entry_of}

some_same : {A : Type 0} (x y : A) → Some x ≡ Some y → x ≡ y
some_same x y is = cc is

each_of : {A : Type 0} (P : A → Type 0) (xs : List A) (x : A) → Each P xs → Contains xs x → P x
each_of P [] x each has = absurd (Contains-nil x has)
each_of P (y ∷ ys) x each has = elim (Contains-cases x y ys has) [
  | inl e ↦ subst P (sym e) each.0
  | inr later ↦ each_of P ys x each.1 later
]

same_text : (xs ys : List ℕ) → bytes_eq xs ys ≡ true → xs ≡ ys
same_text xs ys e = (bytes_eq-Decides xs ys).0 e

text_same : (xs ys : List ℕ) → xs ≡ ys → bytes_eq xs ys ≡ true
text_same xs ys e = (bytes_eq-Decides xs ys).1 e

-- ---- the first field of a name counts

module _ {A : Type 0} (p q : A → Bool) (passes : (x : A) → p x ≡ true → q x ≡ true) where
  kept_here : (x : A) (xs : List A) → find p (filter q xs) ≡ find p xs → (b : Bool) → p x ≡ b → (c : Bool) → q x ≡ c → find p (if c then x ∷ filter q xs else filter q xs) ≡ (if b then Some x else find p xs)
  kept_here x xs rest true first true second = ap (λ z. cond z (Some x) (find p (filter q xs))) first
  kept_here x xs rest true first false second = absurd (true≢false (sym (passes x first) ∙ second))
  kept_here x xs rest false first true second = ap (λ z. cond z (Some x) (find p (filter q xs))) first ∙ rest
  kept_here x xs rest false first false second = rest

  find_kept : (xs : List A) → find p (filter q xs) ≡ find p xs
  find_kept [] = refl
  find_kept (x ∷ xs) = kept_here x xs (find_kept xs) (p x) refl (q x) refl

module _ (n : List ℕ) where
  abbrev is_called : Field → Bool
  is_called f = bytes_eq n f.name

  -- of another name than this
  abbrev other : List ℕ → Field → Bool
  other m g = not (bytes_eq m g.name)

  differs : (f : Field) → is_called f ≡ false → (g : Field) → is_called g ≡ true → other f.name g ≡ true
  differs f is g called = by (bytes_eq f.name g.name) refl where
    by : (b : Bool) → bytes_eq f.name g.name ≡ b → not b ≡ true
    by true same = absurd (true≢false (sym (text_same n f.name (same_text n g.name called ∙ sym (same_text f.name g.name same))) ∙ is))
    by false same = refl

  first_here : (f : Field) (fs : List Field) → find is_called (firsts fs) ≡ find is_called fs → (b : Bool) → is_called f ≡ b
      → (if b then Some f else find is_called (filter (other f.name) (firsts fs))) ≡ (if b then Some f else find is_called fs)
  first_here f fs rest true is = refl
  first_here f fs rest false is = find_kept is_called (other f.name) (differs f is) (firsts fs) ∙ rest

  find_first : (fs : List Field) → find is_called (firsts fs) ≡ find is_called fs
  find_first [] = refl
  find_first (f ∷ fs) = first_here f fs (find_first fs) (is_called f) refl

  abbrev is_named : ObjectField → Bool
  is_named f = bytes_eq n f.name.text

  -- what is given is the value of a field
  given_is : (fields : List ObjectField) → given_as n (firsts (map (literal_field json.null) fields)) ≡ option_map (λ (f : Field). f.value) (option_map (literal_field json.null) (find is_named fields))
  given_is fields = ap (option_map (λ (f : Field). f.value)) (find_first (map (literal_field json.null) fields) ∙ sym (mapped.found_in (literal_field json.null) is_called fields))

  given_field_of : (fields : List ObjectField) (x : Input) → given_as n (firsts (map (literal_field json.null) fields)) ≡ Some x
      → (g : ObjectField) × Contains fields g × (n ≡ g.name.text) × (literal json.null g.value ≡ x)
  given_field_of fields x is = by (find is_named fields) refl (sym (given_is fields) ∙ is) where
    by : (o : Option ObjectField) → find is_named fields ≡ o → option_map (λ (f : Field). f.value) (option_map (literal_field json.null) o) ≡ Some x
        → (g : ObjectField) × Contains fields g × (n ≡ g.name.text) × (literal json.null g.value ≡ x)
    by None found h = absurd (none_some x h)
    by (Some g) found h = let r = found_in is_named fields g found in (g, r.0, same_text n g.name.text r.1, some_same (literal json.null g.value) x h)

  -- ---- a field that is left out is not given, as S19 sees it

  module _ (fields : List ObjectField) (differ : field_repeats (map given_field fields) ≡ []) (variable_where_absent : (x : Literal) → is_absent (literal json.null x) ≡ true → is_variable x ≡ true) where
    not_given : (o : Option ObjectField) → find is_named fields ≡ o → is_left_out (option_map (λ (f : Field). f.value) (option_map (literal_field json.null) o)) ≡ true
        → (h : ObjectField) → Contains fields h → is_variable h.value ≡ false → is_named h ≡ false
    not_given None found left h has fixed = none_found is_named fields found h has
    not_given (Some g) found left h has fixed = by (is_named h) refl where
      at_g : Contains fields g × (is_named g ≡ true)
      at_g = found_in is_named fields g found

      by : (b : Bool) → is_named h ≡ b → b ≡ false
      by false is = refl
      by true is =
          let same : g ≡ h = unique fields differ g h at_g.0 has (sym (same_text n g.name.text at_g.1) ∙ same_text n h.name.text is) in
          absurd (true≢false (sym (variable_where_absent g.value left) ∙ (ap (λ (f : ObjectField). is_variable f.value) same ∙ fixed)))

    name_is : (h : ObjectField) (m : List ℕ) (b : Bool) → is_variable h.value ≡ b → Contains (if b then [] else h.name.text ∷ []) m → (is_variable h.value ≡ false) × (m ≡ h.name.text)
    name_is h m true is has = absurd (Contains-nil m has)
    name_is h m false is has = elim (Contains-cases m h.name.text [] has) [ inl e ↦ (is, e) | inr none ↦ absurd (Contains-nil m none) ]

    left_out : is_left_out (given_as n (firsts (map (literal_field json.null) fields))) ≡ true → is_among (flat_map name_of_given fields) n ≡ false
    left_out left = none_passes (λ (m : List ℕ). bytes_eq n m) (flat_map name_of_given fields) (λ m has.
        let r = Contains-flat_map_from name_of_given fields m has in
        let named = name_is r.0 m (is_variable r.0.value) refl r.2 in
        ap (bytes_eq n) named.1 ∙ not_given (find is_named fields) refl (sym (ap is_left_out (given_is fields)) ∙ left) r.0 r.1 named.0)

-- a literal that is a variable without a value is a variable
abbrev IfAbsent : Literal → Type 0
IfAbsent x = is_absent (literal json.null x) ≡ true → is_variable x ≡ true

not_absent : (x : Literal) (y : Input) → literal json.null x ≡ y → is_absent y ≡ false → IfAbsent x
not_absent x y is not h = absurd (true≢false (sym h ∙ (ap is_absent is ∙ not)))

variable_if_absent : (x : Literal) → IfAbsent x
variable_if_absent = by_literal IfAbsent (record {
  object = λ place fields each. not_absent (l.Object place fields) _ (reading.is_object json.null place fields) refl;
  list = λ place items each. not_absent (l.List place items) _ (reading.is_list json.null place items) refl;
  variable = λ place name h. ap is_variable_value (value_variable place name);
  int = λ place text. not_absent (l.Int place text) _ (reading.is_int json.null place text) refl;
  float = λ place text. not_absent (l.Float place text) _ (reading.is_float json.null place text) refl;
  string = λ place text. not_absent (l.String place text) _ (reading.is_string json.null place text) refl;
  boolean = λ place truth. not_absent (l.Boolean place truth) _ (reading.is_boolean json.null place truth) refl;
  null = λ place. not_absent (l.Null place) _ (reading.is_null json.null place) refl;
  enum = λ place name. not_absent (l.Enum place name) _ (reading.is_enum json.null place name) refl;
})

-- ---- what a value takes is needed

-- the input fields of each input object differ in their names
abbrev pub FieldsDiffer : Schema → Type 0
FieldsDiffer s = (t : Written) (u : SchemaType) → input_type s t ≡ Some u → u.kind ≡ kind.InputObject
    → (f g : Sited InputValueDefinition) → Contains u.input_fields f → Contains u.input_fields g → f.node.name.text ≡ g.node.name.text → f ≡ g

module _ (s : Schema) (differ : FieldsDiffer s) where
  abbrev all : List NumberedObject
  all = objects s

  abbrev pub Needs : Literal → Bool → Written → InputValueDefinition → Type 0
  Needs x is_item t e = (i : ℕ) × Numbers s i e × ((o : ObjectValue) × Contains (object_values all x is_item t) o × Contains (missing_defaults o) i)

  abbrev pub TakesOnly : Literal → Type 0
  TakesOnly x = (is_item : Bool) (t : Written) (e : InputValueDefinition) → is_some e.default ≡ true → repeats (value_of x) ≡ []
      → (is_item && (is_list t && not (may_be_list (literal json.null x)))) ≡ false → Takes s (literal json.null x) (Some t) e → Needs x is_item t e

  missing_here : (names : List (List ℕ)) (y : Numbered) → is_some y.field.node.default ≡ true → is_among names y.field.node.name.text ≡ false → Contains (missing_default names y) y.number
  missing_here names y some other = rw (some, other) (Contains-here y.number [])

  module _ (place : Place) (fields : List ObjectField) (is_item : Bool) (t : Written) (e : InputValueDefinition) (some : is_some e.default ≡ true) (distinct : field_repeats (map given_field fields) ≡ [])
      (no_list : (is_item && is_list t) ≡ false) (o : NumberedObject) (named : object_named all (name_in t) ≡ Some o) where
    abbrev gs : List Field
    gs = firsts (map (literal_field json.null) fields)

    abbrev names : List (List ℕ)
    names = flat_map name_given (map (s19_given all) fields)

    abbrev itself : ObjectValue
    itself = record { input_object = o; names = names }

    values_are : object_values all (l.Object place fields) is_item t ≡ values_of_object (map (s19_given all) fields) o
    values_are = forms.object_values_object all is_item t place fields
        ∙ ap (λ b. cond b [] (option_map_or (values_of_object (map (s19_given all) fields)) (object_named all (name_in t)) [])) no_list
        ∙ ap (λ u. option_map_or (values_of_object (map (s19_given all) fields)) u []) named

    within_fields : (g : ObjectField) → Contains fields g → (f : Sited InputValueDefinition) → find (λ (d : Sited InputValueDefinition). bytes_eq g.name.text d.node.name.text) o.of_type.input_fields ≡ Some f
        → Needs g.value false (written f.node.of_type) e → Needs (l.Object place fields) is_item t e
    within_fields g has f found needs =
        let x = needs.2.0 in
        let at_field : Contains (values_in_field o.of_type (s19_given all g)) x = subst (λ d. Contains (option_map_or (λ (d : Sited InputValueDefinition). object_values all g.value false (written d.node.of_type)) d []) x) (sym found) needs.2.1 in
        let at_fields = Contains-flat_map (values_in_field o.of_type) (map (s19_given all) fields) (s19_given all g) x (Contains-map (s19_given all) fields g has) at_field in
        (needs.0, needs.1, (x, subst (λ xs. Contains xs x) (sym values_are) (Contains-append_left (flat_map (values_in_field o.of_type) (map (s19_given all) fields)) (itself ∷ []) x at_fields), needs.2.2))

    by_itself : (f : Sited InputValueDefinition) → Contains o.of_type.input_fields f → f.node ≡ e → is_left_out (given_as f.node.name.text gs) ≡ true → Needs (l.Object place fields) is_item t e
    by_itself f has same left =
        let y = field_number s t o f named has in
        let free : is_among names f.node.name.text ≡ false = ap (λ ns. is_among ns f.node.name.text) (given_names all fields) ∙ left_out f.node.name.text fields distinct variable_if_absent left in
        let needed : Contains (missing_default names y.0) y.0.number = missing_here names y.0 (ap (λ (g : Sited InputValueDefinition). is_some g.node.default) y.2 ∙ (ap (λ (d : InputValueDefinition). is_some d.default) same ∙ some))
        (ap (λ (g : Sited InputValueDefinition). is_among names g.node.name.text) y.2 ∙ free) in (
          y.0.number,
          subst (Numbers s y.0.number) same y.3,
          (
            itself,
            subst (λ xs. Contains xs itself) (sym values_are) (Contains-append_right (flat_map (values_in_field o.of_type) (map (s19_given all) fields)) (itself ∷ []) itself (Contains-here itself [])),
            Contains-flat_map (missing_default names) o.inputs y.0 y.0.number y.1 needed,
          ),
        )

  list_free : (is_item : Bool) (a : Bool) → (is_item && (a && true)) ≡ false → (is_item && a) ≡ false
  list_free true true is = is
  list_free true false is = refl
  list_free false a is = refl

  module _ (place : Place) (fields : List ObjectField) (each : Each (λ (f : ObjectField). TakesOnly f.value) fields) (is_item : Bool) (t : Written) (e : InputValueDefinition)
      (some : is_some e.default ≡ true) (once : repeats (value_of (l.Object place fields)) ≡ []) (no_list : (is_item && is_list t) ≡ false) where
    abbrev given_fields : List Field
    given_fields = firsts (map (literal_field json.null) fields)

    distinct : field_repeats (map given_field fields) ≡ []
    distinct = empty_left (field_repeats (map given_field fields)) (flat_map (λ (f : ObjectField). repeats (value_of f.value)) fields) (sym (repeats_object place fields) ∙ once)

    abbrev Part : Entry → Type 0
    Part m = ((m.definition ≡ Some e) × (is_left_out m.given ≡ true)) ⊎ ((x : Input) × (m.given ≡ Some x) × Takes s x (field_type m.definition) e)

    nothing_of : (m : Entry) → m.definition ≡ None → Part m → ⊥
    nothing_of m none (inl (defined, left)) = none_some e (sym none ∙ defined)
    nothing_of m none (inr (x, gives, takes)) = nothing_taken s takes (ap field_type none)

    part_of : (u : SchemaType) (f : Sited InputValueDefinition) → input_type s t ≡ Some u → u.kind ≡ kind.InputObject → Contains u.input_fields f → Part (defined_entry given_fields f) → Needs (l.Object place fields) is_item t e
    part_of u f at of_kind has part = by part where
      o : (o : NumberedObject) × (object_named all (name_in t) ≡ Some o) × (o.of_type ≡ u)
      o = object_of s t u at of_kind

      there : (g : Sited InputValueDefinition) → Contains u.input_fields g → (v : SchemaType) → v ≡ u → Contains v.input_fields g
      there g h v is = subst (λ (w : SchemaType). Contains w.input_fields g) (sym is) h

      back : (g : Sited InputValueDefinition) (v : SchemaType) → v ≡ u → Contains v.input_fields g → Contains u.input_fields g
      back g v is h = subst (λ (w : SchemaType). Contains w.input_fields g) is h

      by_field : (p : NumberedObject) → object_named all (name_in t) ≡ Some p → p.of_type ≡ u → (x : Input) → given_as f.node.name.text given_fields ≡ Some x → Takes s x (Some (written f.node.of_type)) e
          → Needs (l.Object place fields) is_item t e
      by_field p named of_u x gives takes =
          let g = given_field_of f.node.name.text fields x gives in
          let first = finds (λ (d : Sited InputValueDefinition). bytes_eq g.0.name.text d.node.name.text) p.of_type.input_fields f (there f has p.of_type of_u) (text_same g.0.name.text f.node.name.text (sym g.2)) in
          let at_first = found_in (λ (d : Sited InputValueDefinition). bytes_eq g.0.name.text d.node.name.text) p.of_type.input_fields first.0 first.1 in
          let same : first.0 ≡ f = differ t u at of_kind first.0 f (back first.0 p.of_type of_u at_first.0) has (sym (same_text g.0.name.text first.0.node.name.text at_first.1) ∙ sym g.2) in
          within_fields place fields is_item t e some distinct no_list p named g.0 g.1 f (first.1 ∙ ap Some same)
          (each_of (λ (h : ObjectField). TakesOnly h.value) fields g.0 each g.1 false (written f.node.of_type) e some (field_no_repeats s place fields once g.0 g.1) refl (subst (λ y. Takes s y (Some (written f.node.of_type)) e) (sym g.3) takes))

      by : Part (defined_entry given_fields f) → Needs (l.Object place fields) is_item t e
      by (inl (defined, left)) = by_itself place fields is_item t e some distinct no_list o.0 o.1 f (there f has o.0.of_type o.2) (some_same f.node e defined) left
      by (inr (x, gives, takes)) = by_field o.0 o.1 o.2 x gives takes

    by_entry : (m : Entry) → (m.definition ≡ None) ⊎ IsField s given_fields t m → Part m → Needs (l.Object place fields) is_item t e
    by_entry m (inl none) part = absurd (nothing_of m none part)
    by_entry m (inr (u, f, at, of_kind, has, same)) part = part_of u f at of_kind has (subst Part same part)

    at_within : Within s (object (fields_of given_fields)) (Some t) e → Needs (l.Object place fields) is_item t e
    at_within (es, m, is, has, part) = by_entry m (entry_of s given_fields t es m has (ap (λ fs. entries_for s fs (Some t)) (sym (reading.all_fields_of given_fields)) ∙ is)) part

  module _ (place : Place) (items : List Literal) (each : Each TakesOnly items) (is_item : Bool) (t : Written) (e : InputValueDefinition)
      (some : is_some e.default ≡ true) (once : repeats (value_of (l.List place items)) ≡ []) where
    of_item : (item : Written) → item_of t ≡ Some item → (y : Literal) → Contains items y → (is_list item && not (may_be_list (literal json.null y))) ≡ false → Takes s (literal json.null y) (Some item) e
        → Needs (l.List place items) is_item t e
    of_item item at y has fits takes =
        let needs = each_of TakesOnly items y each has true item e some (item_no_repeats s place items once y has) fits takes in
        let o = needs.2.0 in
        let in_items : Contains (flat_map (λ (x : ObjectsAt). x true item) (map (object_values all) items)) o = Contains-flat_map (λ (x : ObjectsAt). x true item) (map (object_values all) items) (object_values all y) o (Contains-map (object_values all) items y has) needs.2.1 in
        let in_list : Contains (list_at (map (object_values all) items) t) o = subst (λ u. Contains (option_map_or (λ item. flat_map (λ (x : ObjectsAt). x true item) (map (object_values all) items)) u []) o) (sym at) in_items in
        (needs.0, needs.1, (o, subst (λ xs. Contains xs o) (sym (forms.object_values_list all is_item t place items)) in_list, needs.2.2))

    abbrev list_within : Type 0
    list_within = Within s (list (inputs_of (map (literal json.null) items))) (Some t) e

    by_item : (item : Option Written) (x : Input) → Contains (map (literal json.null) items) x → (is_list_expected item && not (may_be_list x)) ≡ false → Takes s x item e
        → (item ≡ None) ⊎ ((u : Written) × (item_of t ≡ Some u) × (item ≡ Some u)) → Needs (l.List place items) is_item t e
    by_item item x has fits takes (inl none) = absurd (nothing_taken s takes none)
    by_item item x has fits takes (inr (u, at, same)) =
        let y = Contains-map_from (literal json.null) items x has in
        of_item u at y.0 y.1 (subst (λ z. (is_list u && not (may_be_list z)) ≡ false) (sym y.2) (subst (λ i. (is_list_expected i && not (may_be_list x)) ≡ false) same fits))
        (subst (λ z. Takes s z (Some u) e) (sym y.2) (subst (λ i. Takes s x i e) same takes))

    at_list_within : list_within → Needs (l.List place items) is_item t e
    at_list_within (item, x, is, has, fits, takes) = by_item item x (subst (λ xs. Contains xs x) (reading.all_inputs_of (map (literal json.null) items)) has) fits takes (list_item (input_type s t) (item_of t) item is)

  of_variable_within : (o : Option Data) (e : Option Written) (d : InputValueDefinition) → Within s (of_variable o) e d → ⊥
  of_variable_within None e d w = w
  of_variable_within (Some x) e d w = w

  -- a value without parts takes nothing
  no_parts : (x : Literal) (y : Input) → literal json.null x ≡ y → ((e : Option Written) (d : InputValueDefinition) → Within s y e d → ⊥) → TakesOnly x
  no_parts x y is none is_item t e some once fits takes = absurd (none (Some t) e (subst (λ z. Within s z (Some t) e) is (within s takes)))

  pub takes_only : (x : Literal) → TakesOnly x
  takes_only = by_literal TakesOnly (record {
    object = λ place fields each is_item t e some once fits takes. at_within place fields each is_item t e some once
        (list_free is_item (is_list t) (sym (ap (λ y. is_item && (is_list t && not (may_be_list y))) (reading.is_object json.null place fields)) ∙ fits))
        (subst (λ y. Within s y (Some t) e) (reading.is_object json.null place fields) (within s takes));
    list = λ place items each is_item t e some once fits takes. at_list_within place items each is_item t e some once
        (subst (λ y. Within s y (Some t) e) (reading.is_list json.null place items) (within s takes));
    variable = λ place name. no_parts (l.Variable place name) _ (reading.is_variable json.null place name) (λ e d w. of_variable_within (get name json.null) e d w);
    int = λ place text. no_parts (l.Int place text) _ (reading.is_int json.null place text) (λ e d w. w);
    float = λ place text. no_parts (l.Float place text) _ (reading.is_float json.null place text) (λ e d w. w);
    string = λ place text. no_parts (l.String place text) _ (reading.is_string json.null place text) (λ e d w. w);
    boolean = λ place truth. no_parts (l.Boolean place truth) _ (reading.is_boolean json.null place truth) (λ e d w. w);
    null = λ place. no_parts (l.Null place) _ (reading.is_null json.null place) (λ e d w. w);
    enum = λ place name. no_parts (l.Enum place name) _ (reading.is_enum json.null place name) (λ e d w. w);
  })

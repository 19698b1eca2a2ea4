-- The bad values of a value are those that the cases say.
use Rattle.std.proofs.Common.{◌≡◌, ◌⊎◌, inl, inr, ◌&&◌, true≢false, ℕ, List, [], ◌∷◌, ◌++◌, Bool, true, false, not, if◌then◌else◌, Contains, Option, Some, None, flat_map, refl, ap, sym, subst, ◌∙◌}
use Rattle.std.proofs.lemmas.List.Elements.{Contains-append_left, Contains-append_right, Contains-append_cases}
use Rattle.gql_text.specs.declared.place.Place.{Place}
use Rattle.gql_ast.specs.declared.rule.Rule.TheVariants as rule
use Rattle.gql_ast.specs.declared.text.Name.{Name}
use Rattle.gql_types.specs.Written.{Written}
use Rattle.gql_inputs.specs.BadValues.{bad, misfits, items_misfits, fields_misfits, never_fits, where_known, of_known, single_misfits, single_at, list_by, list_at_one, at_one, item_by, field_by, object_by, missing, lacks, within, within_values, within_fields, repeats, repeats_in_values, repeats_in_fields, expected, field_repeats, is_custom_form, is_given, is_null_given, scalar_takes_float, scalar_takes_int, takes}
use Rattle.gql_inputs.specs.InputTypes.{is_custom, is_list, is_non_null, item_of, name_in, one_of, text_of}
use Rattle.gql_inputs.specs.Lookups.{InputForm, scalar, enumeration, input_object, FieldForm, InputLookup, field_named, is_required}
use Rattle.gql_inputs.specs.Values.{Value, variable, null, int, float, string, boolean, enum, list, object, Values, no_values, value, Fields, no_fields, field, GivenField, all_fields, is_null, may_be_list, place_of}
use Rattle.gql_inputs.specs.declared.bad_value.BadValue.{BadValue}
use Rattle.gql_inputs.specs.declared.scalar.Scalar.{Scalar}
use Rattle.gql_coerce.proofs.Containing.{Contains-nil, Contains-here, Contains-there, Contains-cases, Contains-flat_map}
use Rattle.gql_clashes.proofs.Members.{Contains-flat_map_from}
use Rattle.gql_cases.specs.Misfits as cases
use Rattle.gql_cases.specs.Misfits.{v18, all_values, IsSingle, MisfitsWithin, IsMissing, IsUnlisted, IsNullRequired, Misfits, Repeats, BadValuesInCases}

-- ---- lists and choices

one : {A : Type 0} (v b : A) → Contains (v ∷ []) b → v ≡ b
one v b h = elim (Contains-cases b v [] h) [ inl is ↦ sym is | inr none ↦ absurd (Contains-nil b none) ]

pick_true : {A : Type 0} (c : Bool) (x y : A) → c ≡ true → (if c then x else y) ≡ x
pick_true c x y is = ap (λ d. if d then x else y) is

pick_false : {A : Type 0} (c : Bool) (x y : A) → c ≡ false → (if c then x else y) ≡ y
pick_false c x y is = ap (λ d. if d then x else y) is

in_true : (c : Bool) (xs ys : List BadValue) (b : BadValue) → c ≡ true → Contains xs b → Contains (if c then xs else ys) b
in_true c xs ys b is h = subst (λ zs. Contains zs b) (sym (pick_true c xs ys is)) h

in_false : (c : Bool) (xs ys : List BadValue) (b : BadValue) → c ≡ false → Contains ys b → Contains (if c then xs else ys) b
in_false c xs ys b is h = subst (λ zs. Contains zs b) (sym (pick_false c xs ys is)) h

not_both : (c : Bool) → c ≡ true → c ≡ false → ⊥
not_both c is_true is_false = true≢false (sym is_true ∙ is_false)

-- an item, or a field, of a list or an object of which something is found
in_values : (f : Value → List BadValue) (g : Values → List BadValue) → g no_values ≡ [] → ((x : Value) (xs : Values) → g (value x xs) ≡ f x ++ g xs) → (xs : Values) (x : Value) (b : BadValue)
    → Contains (all_values xs) x → Contains (f x) b → Contains (g xs) b
in_values f g none more no_values x b has h = absurd (Contains-nil x has)
in_values f g none more (value y ys) x b has h = subst (λ l. Contains l b) (sym (more y ys)) (elim (Contains-cases x y (all_values ys) has) [
  | inl is ↦ Contains-append_left (f y) (g ys) b (subst (λ z. Contains (f z) b) is h)
  | inr later ↦ Contains-append_right (f y) (g ys) b (in_values f g none more ys x b later h)
])

in_fields : (f : GivenField → List BadValue) (g : Fields → List BadValue) → ((n : Name) (x : Value) (fs : Fields) → g (field n x fs) ≡ f (record { name = n; value = x }) ++ g fs) → (fs : Fields) (given : GivenField) (b : BadValue)
    → Contains (all_fields fs) given → Contains (f given) b → Contains (g fs) b
in_fields f g more no_fields given b has h = absurd (Contains-nil given has)
in_fields f g more (field n x fs) given b has h = subst (λ l. Contains l b) (sym (more n x fs)) (elim (Contains-cases given (record { name = n; value = x }) (all_fields fs) has) [
  | inl is ↦ Contains-append_left (f (record { name = n; value = x })) (g fs) b (subst (λ z. Contains (f z) b) is h)
  | inr later ↦ Contains-append_right (f (record { name = n; value = x })) (g fs) b (in_fields f g more fs given b later h)
])

-- ---- within custom scalars

module _ (s : Scalar) (name : List ℕ) where
  mutual
    within_found : (x : Value) (b : BadValue) → Contains (within s name x) b → MisfitsWithin s name x b
    within_found (variable p n) b h = absurd (Contains-nil b h)
    within_found (null p) b h = absurd (Contains-nil b h)
    within_found (int p text) b h = by (scalar_takes_int text s) refl h where
      by : (c : Bool) → scalar_takes_int text s ≡ c → Contains (if c then [] else bad rule.V18 p name) b → MisfitsWithin s name (int p text) b
      by true is so = absurd (Contains-nil b so)
      by false is so = subst (MisfitsWithin s name (int p text)) (one (v18 p name) b so) (cases.integer is)
    within_found (float p text) b h = by (scalar_takes_float text s) refl h where
      by : (c : Bool) → scalar_takes_float text s ≡ c → Contains (if c then [] else bad rule.V18 p name) b → MisfitsWithin s name (float p text) b
      by true is so = absurd (Contains-nil b so)
      by false is so = subst (MisfitsWithin s name (float p text)) (one (v18 p name) b so) (cases.fraction is)
    within_found (string p) b h = absurd (Contains-nil b h)
    within_found (boolean p) b h = absurd (Contains-nil b h)
    within_found (enum p n) b h = absurd (Contains-nil b h)
    within_found (list p xs) b h = let r = within_values_found xs b h in cases.within_item r.1 r.2
    within_found (object p fs) b h = let r = within_fields_found fs b h in cases.within_field r.1 r.2

    within_values_found : (xs : Values) (b : BadValue) → Contains (within_values s name xs) b → (x : Value) × Contains (all_values xs) x × MisfitsWithin s name x b
    within_values_found no_values b h = absurd (Contains-nil b h)
    within_values_found (value x xs) b h = elim (Contains-append_cases (within s name x) (within_values s name xs) b h) [
      | inl first ↦ (x, Contains-here x (all_values xs), within_found x b first)
      | inr later ↦ let r = within_values_found xs b later in (r.0, Contains-there r.0 x (all_values xs) r.1, r.2)
    ]

    within_fields_found : (fs : Fields) (b : BadValue) → Contains (within_fields s name fs) b → (g : GivenField) × Contains (all_fields fs) g × MisfitsWithin s name g.value b
    within_fields_found no_fields b h = absurd (Contains-nil b h)
    within_fields_found (field n x fs) b h = elim (Contains-append_cases (within s name x) (within_fields s name fs) b h) [
      | inl first ↦ (record { name = n; value = x }, Contains-here (record { name = n; value = x }) (all_fields fs), within_found x b first)
      | inr later ↦ let r = within_fields_found fs b later in (r.0, Contains-there r.0 (record { name = n; value = x }) (all_fields fs) r.1, r.2)
    ]

  found_within : {x : Value} {b : BadValue} → MisfitsWithin s name x b → Contains (within s name x) b
  found_within (cases.integer {p = p} {text = text} is) = in_false (scalar_takes_int text s) [] (bad rule.V18 p name) (v18 p name) is (Contains-here (v18 p name) [])
  found_within (cases.fraction {p = p} {text = text} is) = in_false (scalar_takes_float text s) [] (bad rule.V18 p name) (v18 p name) is (Contains-here (v18 p name) [])
  found_within (cases.within_item {xs = xs} {x = x} {b = b} has h) = in_values (within s name) (within_values s name) refl (λ y ys. refl) xs x b has (found_within h)
  found_within (cases.within_field {fs = fs} {g = g} {b = b} has h) = in_fields (λ (f : GivenField). within s name f.value) (within_fields s name) (λ n x more. refl) fs g b has (found_within h)

-- ---- V20

mutual
  repeats_found : (x : Value) (b : BadValue) → Contains (repeats x) b → Repeats x b
  repeats_found (variable p n) b h = absurd (Contains-nil b h)
  repeats_found (null p) b h = absurd (Contains-nil b h)
  repeats_found (int p text) b h = absurd (Contains-nil b h)
  repeats_found (float p text) b h = absurd (Contains-nil b h)
  repeats_found (string p) b h = absurd (Contains-nil b h)
  repeats_found (boolean p) b h = absurd (Contains-nil b h)
  repeats_found (enum p n) b h = absurd (Contains-nil b h)
  repeats_found (list p xs) b h = let r = repeats_values_found xs b h in cases.repeats_in_item r.1 r.2
  repeats_found (object p fs) b h = elim (Contains-append_cases (field_repeats (all_fields fs)) (repeats_in_fields fs) b h) [
    | inl own ↦ cases.own_field own
    | inr later ↦ let r = repeats_fields_found fs b later in cases.repeats_in_field r.1 r.2
  ]

  repeats_values_found : (xs : Values) (b : BadValue) → Contains (repeats_in_values xs) b → (x : Value) × Contains (all_values xs) x × Repeats x b
  repeats_values_found no_values b h = absurd (Contains-nil b h)
  repeats_values_found (value x xs) b h = elim (Contains-append_cases (repeats x) (repeats_in_values xs) b h) [
    | inl first ↦ (x, Contains-here x (all_values xs), repeats_found x b first)
    | inr later ↦ let r = repeats_values_found xs b later in (r.0, Contains-there r.0 x (all_values xs) r.1, r.2)
  ]

  repeats_fields_found : (fs : Fields) (b : BadValue) → Contains (repeats_in_fields fs) b → (g : GivenField) × Contains (all_fields fs) g × Repeats g.value b
  repeats_fields_found no_fields b h = absurd (Contains-nil b h)
  repeats_fields_found (field n x fs) b h = elim (Contains-append_cases (repeats x) (repeats_in_fields fs) b h) [
    | inl first ↦ (record { name = n; value = x }, Contains-here (record { name = n; value = x }) (all_fields fs), repeats_found x b first)
    | inr later ↦ let r = repeats_fields_found fs b later in (r.0, Contains-there r.0 (record { name = n; value = x }) (all_fields fs) r.1, r.2)
  ]

found_repeats : {x : Value} {b : BadValue} → Repeats x b → Contains (repeats x) b
found_repeats (cases.own_field {fs = fs} {b = b} h) = Contains-append_left (field_repeats (all_fields fs)) (repeats_in_fields fs) b h
found_repeats (cases.repeats_in_item {xs = xs} {x = x} {b = b} has h) = in_values repeats repeats_in_values refl (λ y ys. refl) xs x b has (found_repeats h)
found_repeats (cases.repeats_in_field {fs = fs} {g = g} {b = b} has h) =
    Contains-append_right (field_repeats (all_fields fs)) (repeats_in_fields fs) b (in_fields (λ (f : GivenField). repeats f.value) repeats_in_fields (λ n x more. refl) fs g b has (found_repeats h))

-- ---- V18, V19 and V21

-- what is missing, by whether a field is required, given, and given as null
missing_by : (r t n : Bool) → (r && lacks t n) ≡ true → (r ≡ true) × ((t ≡ false) ⊎ (n ≡ true))
missing_by true true true is = (refl, inr refl)
missing_by true true false is = absurd (true≢false (sym is))
missing_by true false n is = (refl, inl refl)
missing_by false t n is = absurd (true≢false (sym is))

by_missing : (r t n : Bool) → r ≡ true → (t ≡ false) ⊎ (n ≡ true) → (r && lacks t n) ≡ true
by_missing true true true is so = refl
by_missing true true false is so = elim so [ inl lost ↦ absurd (true≢false lost) | inr nulled ↦ absurd (true≢false (sym nulled)) ]
by_missing true false n is so = refl
by_missing false t n is so = absurd (true≢false (sym is))

module _ (look : InputLookup) where
  known_found : (t : Written) (f : InputForm → List BadValue) (b : BadValue) → Contains (where_known look t f) b → (i : InputForm) × (look (name_in t) ≡ Some i) × Contains (f i) b
  known_found t f b h = by (look (name_in t)) refl h where
    by : (o : Option InputForm) → look (name_in t) ≡ o → Contains (of_known f o) b → (i : InputForm) × (look (name_in t) ≡ Some i) × Contains (f i) b
    by None is so = absurd (Contains-nil b so)
    by (Some i) is so = (i, is, so)

  in_known : (t : Written) (f : InputForm → List BadValue) (i : InputForm) (b : BadValue) → look (name_in t) ≡ Some i → Contains (f i) b → Contains (where_known look t f) b
  in_known t f i b is h = subst (λ o. Contains (of_known f o) b) (sym is) h

  single_found : (t : Written) (x : Value) (b : BadValue) → IsSingle x → Contains (single_misfits look t x) b → Misfits look t x b
  single_found t x b single h = let k = known_found t (single_at t x) b h in by k.0 k.1 (takes x k.0) refl k.2 where
    by : (i : InputForm) → look (name_in t) ≡ Some i → (c : Bool) → takes x i ≡ c → Contains (if c then [] else bad rule.V18 (place_of x) (expected t i)) b → Misfits look t x b
    by i known true is so = absurd (Contains-nil b so)
    by i known false is so = subst (Misfits look t x) (one (v18 (place_of x) (expected t i)) b so) (cases.not_taken single known is)

  missing_found : (p : Place) (given : List GivenField) (f : FieldForm) (b : BadValue) → Contains (missing p given f) b → IsMissing given f × (record { rule = rule.V21; place = p; about = f.name } ≡ b)
  missing_found p given f b h = by (is_required f && lacks (is_given given f.name) (is_null_given given f.name)) refl h where
    by : (c : Bool) → (is_required f && lacks (is_given given f.name) (is_null_given given f.name)) ≡ c → Contains (if c then bad rule.V21 p f.name else []) b → IsMissing given f × (record { rule = rule.V21; place = p; about = f.name } ≡ b)
    by true is so = (missing_by (is_required f) (is_given given f.name) (is_null_given given f.name) is, one (record { rule = rule.V21; place = p; about = f.name }) b so)
    by false is so = absurd (Contains-nil b so)

  -- what is found of an item
  abbrev OfItem : Written → Value → BadValue → Type 0
  OfItem item x b = (IsUnlisted item x × ((i : InputForm) × (look (name_in item) ≡ Some i) × (v18 (place_of x) (text_of item) ≡ b))) ⊎ ((IsUnlisted item x → ⊥) × Misfits look item x b)

  -- what is found of a field
  abbrev OfField : List FieldForm → Name → Value → BadValue → Type 0
  OfField fields n x b = ((field_named fields n.text ≡ None) × (record { rule = rule.V19; place = n.place; about = n.text } ≡ b))
      ⊎ ((f : FieldForm) × (field_named fields n.text ≡ Some f) × (IsNullRequired x f → ⊥) × Misfits look f.of_type x b)

  mutual
    misfits_found : (t : Written) (x : Value) (b : BadValue) → Contains (misfits look t x) b → Misfits look t x b
    misfits_found t (variable p n) b h = absurd (Contains-nil b h)
    misfits_found t (null p) b h = by (is_non_null t) refl h where
      by : (c : Bool) → is_non_null t ≡ c → Contains (if c then never_fits look p t else []) b → Misfits look t (null p) b
      by true is so =
          let k = known_found t (λ i. bad rule.V18 p (text_of t)) b so in
          subst (Misfits look t (null p)) (one (v18 p (text_of t)) b k.2) (cases.null_at_non_null is k.1)
      by false is so = absurd (Contains-nil b so)
    misfits_found t (int p text) b h = single_found t (int p text) b cases.an_int h
    misfits_found t (float p text) b h = single_found t (float p text) b cases.a_float h
    misfits_found t (string p) b h = single_found t (string p) b cases.a_string h
    misfits_found t (boolean p) b h = single_found t (boolean p) b cases.a_boolean h
    misfits_found t (enum p n) b h = single_found t (enum p n) b cases.an_enum h
    misfits_found t (list p xs) b h = by (λ item so. items_found item xs b so) (item_of t) refl h where
      scalar_or : (s : Scalar) → item_of t ≡ None → look (name_in t) ≡ Some (scalar s) → (c : Bool) → is_custom s ≡ c → Contains (if c then within_values s (name_in t) xs else at_one p t) b → Misfits look t (list p xs) b
      scalar_or s no_item known true custom so = let r = within_values_found s (name_in t) xs b so in cases.in_custom_list no_item known custom (cases.within_item r.1 r.2)
      scalar_or s no_item known false custom so = subst (Misfits look t (list p xs)) (one (v18 p (text_of (one_of t))) b so) (cases.unexpected_list no_item known custom)

      at_form : (i : InputForm) → item_of t ≡ None → look (name_in t) ≡ Some i → Contains (list_at_one p t (λ s name. within_values s name xs) i) b → Misfits look t (list p xs) b
      at_form (scalar s) no_item known so = scalar_or s no_item known (is_custom s) refl so
      at_form (enumeration values) no_item known so = subst (Misfits look t (list p xs)) (one (v18 p (text_of (one_of t))) b so) (cases.unexpected_list no_item known refl)
      at_form (input_object fields) no_item known so = subst (Misfits look t (list p xs)) (one (v18 p (text_of (one_of t))) b so) (cases.unexpected_list no_item known refl)

      by : ((item : Written) → Contains (items_misfits look item xs) b → (x : Value) × Contains (all_values xs) x × OfItem item x b) → (o : Option Written) → item_of t ≡ o
          → Contains (list_by look p t (λ s name. within_values s name xs) (λ item. items_misfits look item xs) o) b → Misfits look t (list p xs) b
      by found None is so =
          let k = known_found t (list_at_one p t (λ s name. within_values s name xs)) b so in
          at_form k.0 is k.1 k.2
      by found (Some item) is so = let r = found item so in elim r.2 [
        | inl unlisted ↦ subst (Misfits look t (list p xs)) unlisted.1.2 (cases.unlisted_item is r.1 unlisted.0 unlisted.1.1)
        | inr inner ↦ cases.in_item is r.1 inner.0 inner.1
      ]
    misfits_found t (object p fs) b h =
        let k = known_found t (object_by p t (all_fields fs) (λ s name. within_fields s name fs) (λ fields. fields_misfits look fields fs)) b h in by (λ fields so. fields_found fields fs b so) k.0 k.1 k.2
      where
        scalar_or : (s : Scalar) → look (name_in t) ≡ Some (scalar s) → (c : Bool) → is_custom s ≡ c → Contains (if c then within_fields s (name_in t) fs else at_one p t) b → Misfits look t (object p fs) b
        scalar_or s known true custom so = let r = within_fields_found s (name_in t) fs b so in cases.in_custom_object known custom (cases.within_field r.1 r.2)
        scalar_or s known false custom so = subst (Misfits look t (object p fs)) (one (v18 p (text_of (one_of t))) b so)
            (cases.unexpected_object known (λ fields e. let clash : ◌≡◌ {A = InputForm} (scalar s) (input_object fields) = e in cc) custom)

        by : ((fields : List FieldForm) → Contains (fields_misfits look fields fs) b → (g : GivenField) × Contains (all_fields fs) g × OfField fields g.name g.value b) → (i : InputForm) → look (name_in t) ≡ Some i → Contains (object_by p t (all_fields fs) (λ s name. within_fields s name fs) (λ fields. fields_misfits look fields fs) i) b → Misfits look t (object p fs) b
        by each (scalar s) known so = scalar_or s known (is_custom s) refl so
        by each (enumeration values) known so = subst (Misfits look t (object p fs)) (one (v18 p (text_of (one_of t))) b so)
            (cases.unexpected_object known (λ fields e. let clash : ◌≡◌ {A = InputForm} (enumeration values) (input_object fields) = e in cc) refl)
        by each (input_object fields) known so = elim (Contains-append_cases (fields_misfits look fields fs) (flat_map (missing p (all_fields fs)) fields) b so) [
          | inl inner ↦ let r = each fields inner in elim r.2 [
            | inl unknown ↦ subst (Misfits look t (object p fs)) unknown.1 (cases.unknown_field known r.1 unknown.0)
            | inr found ↦ cases.in_field known r.1 found.1 found.2 found.3
          ]
          | inr later ↦ let m = Contains-flat_map_from (missing p (all_fields fs)) fields b later in
              let lacking = missing_found p (all_fields fs) m.0 b m.2 in
              subst (Misfits look t (object p fs)) lacking.1 (cases.missing_field known m.1 lacking.0)
        ]

    items_found : (item : Written) (xs : Values) (b : BadValue) → Contains (items_misfits look item xs) b → (x : Value) × Contains (all_values xs) x × OfItem item x b
    items_found item no_values b h = absurd (Contains-nil b h)
    items_found item (value x xs) b h = elim (Contains-append_cases (item_by look item x (misfits look item x)) (items_misfits look item xs) b h) [
      | inl first ↦ (x, Contains-here x (all_values xs), by (λ so. misfits_found item x b so) (is_list item && not (may_be_list x)) refl first)
      | inr later ↦ let r = items_found item xs b later in (r.0, Contains-there r.0 x (all_values xs) r.1, r.2)
    ] where
      by : (Contains (misfits look item x) b → Misfits look item x b) → (c : Bool) → (is_list item && not (may_be_list x)) ≡ c → Contains (if c then never_fits look (place_of x) item else misfits look item x) b → OfItem item x b
      by inner true is so = let k = known_found item (λ i. bad rule.V18 (place_of x) (text_of item)) b so in inl (is, (k.0, k.1, one (v18 (place_of x) (text_of item)) b k.2))
      by inner false is so = inr (λ unlisted. not_both (is_list item && not (may_be_list x)) unlisted is, inner so)

    fields_found : (fields : List FieldForm) (fs : Fields) (b : BadValue) → Contains (fields_misfits look fields fs) b → (g : GivenField) × Contains (all_fields fs) g × OfField fields g.name g.value b
    fields_found fields no_fields b h = absurd (Contains-nil b h)
    fields_found fields (field n x fs) b h = elim (Contains-append_cases (field_by n x (λ t. misfits look t x) (field_named fields n.text)) (fields_misfits look fields fs) b h) [
      | inl first ↦ (record { name = n; value = x }, Contains-here (record { name = n; value = x }) (all_fields fs), by (λ t so. misfits_found t x b so) (field_named fields n.text) refl first)
      | inr later ↦ let r = fields_found fields fs b later in (r.0, Contains-there r.0 (record { name = n; value = x }) (all_fields fs) r.1, r.2)
    ] where
      by_type : ((t : Written) → Contains (misfits look t x) b → Misfits look t x b) → (f : FieldForm) → field_named fields n.text ≡ Some f → (c : Bool) → (is_null x && is_required f) ≡ c → Contains (if c then [] else misfits look f.of_type x) b → OfField fields n x b
      by_type inner f named true is so = absurd (Contains-nil b so)
      by_type inner f named false is so = inr (f, named, λ nulled. not_both (is_null x && is_required f) nulled is, inner f.of_type so)

      by : ((t : Written) → Contains (misfits look t x) b → Misfits look t x b) → (o : Option FieldForm) → field_named fields n.text ≡ o → Contains (field_by n x (λ t. misfits look t x) o) b → OfField fields n x b
      by inner None is so = inl (is, one (record { rule = rule.V19; place = n.place; about = n.text }) b so)
      by inner (Some f) is so = by_type inner f is (is_null x && is_required f) refl so

  -- ---- the other way

  -- an item that is found is among the items
  item_in : (item : Written) (xs : Values) (x : Value) (b : BadValue) → Contains (all_values xs) x → Contains (item_by look item x (misfits look item x)) b → Contains (items_misfits look item xs) b
  item_in item xs x b has h = in_values (λ y. item_by look item y (misfits look item y)) (items_misfits look item) refl (λ y ys. refl) xs x b has h

  field_in : (fields : List FieldForm) (fs : Fields) (g : GivenField) (b : BadValue) → Contains (all_fields fs) g → Contains (field_by g.name g.value (λ t. misfits look t g.value) (field_named fields g.name.text)) b
      → Contains (fields_misfits look fields fs) b
  field_in fields fs g b has h = in_fields (λ (f : GivenField). field_by f.name f.value (λ t. misfits look t f.value) (field_named fields f.name.text)) (fields_misfits look fields) (λ n x more. refl) fs g b has h

  -- a list at this item type, if there is one
  list_in : (t : Written) (p : Place) (xs : Values) (o : Option Written) (b : BadValue) → item_of t ≡ o → Contains (list_by look p t (λ s name. within_values s name xs) (λ item. items_misfits look item xs) o) b
      → Contains (misfits look t (list p xs)) b
  list_in t p xs o b is h = subst (λ i. Contains (list_by look p t (λ s name. within_values s name xs) (λ item. items_misfits look item xs) i) b) (sym is) h

  object_in : (t : Written) (p : Place) (fs : Fields) (i : InputForm) (b : BadValue) → look (name_in t) ≡ Some i → Contains (object_by p t (all_fields fs) (λ s name. within_fields s name fs) (λ fields. fields_misfits look fields fs) i) b
      → Contains (misfits look t (object p fs)) b
  object_in t p fs i b known h = in_known t (object_by p t (all_fields fs) (λ s name. within_fields s name fs) (λ fields. fields_misfits look fields fs)) i b known h

  -- a value without parts, by its form
  single_in : (t : Written) (x : Value) (i : InputForm) → IsSingle x → look (name_in t) ≡ Some i → takes x i ≡ false → Contains (misfits look t x) (v18 (place_of x) (expected t i))
  single_in t _ i (cases.an_int {p = p} {text = text}) known is = in_known t (single_at t (int p text)) i (v18 p (expected t i)) known (in_false (takes (int p text) i) [] (bad rule.V18 p (expected t i)) (v18 p (expected t i)) is (Contains-here (v18 p (expected t i)) []))
  single_in t _ i (cases.a_float {p = p} {text = text}) known is = in_known t (single_at t (float p text)) i (v18 p (expected t i)) known (in_false (takes (float p text) i) [] (bad rule.V18 p (expected t i)) (v18 p (expected t i)) is (Contains-here (v18 p (expected t i)) []))
  single_in t _ i (cases.a_string {p = p}) known is = in_known t (single_at t (string p)) i (v18 p (expected t i)) known (in_false (takes (string p) i) [] (bad rule.V18 p (expected t i)) (v18 p (expected t i)) is (Contains-here (v18 p (expected t i)) []))
  single_in t _ i (cases.a_boolean {p = p}) known is = in_known t (single_at t (boolean p)) i (v18 p (expected t i)) known (in_false (takes (boolean p) i) [] (bad rule.V18 p (expected t i)) (v18 p (expected t i)) is (Contains-here (v18 p (expected t i)) []))
  single_in t _ i (cases.an_enum {p = p} {name = name}) known is = in_known t (single_at t (enum p name)) i (v18 p (expected t i)) known (in_false (takes (enum p name) i) [] (bad rule.V18 p (expected t i)) (v18 p (expected t i)) is (Contains-here (v18 p (expected t i)) []))

  -- an object where none is expected
  at_one_in : (t : Written) (p : Place) (fs : Fields) (i : InputForm) → ((fields : List FieldForm) → i ≡ input_object fields → ⊥) → is_custom_form i ≡ false
      → Contains (object_by p t (all_fields fs) (λ s name. within_fields s name fs) (λ fields. fields_misfits look fields fs) i) (v18 p (text_of (one_of t)))
  at_one_in t p fs (scalar s) other custom = in_false (is_custom s) (within_fields s (name_in t) fs) (at_one p t) (v18 p (text_of (one_of t))) custom (Contains-here (v18 p (text_of (one_of t))) [])
  at_one_in t p fs (enumeration values) other custom = Contains-here (v18 p (text_of (one_of t))) []
  at_one_in t p fs (input_object fields) other custom = absurd (other fields refl)

  -- an object that a custom scalar takes
  custom_in : (t : Written) (p : Place) (fs : Fields) (s : Scalar) (b : BadValue) → is_custom s ≡ true → Contains (within_fields s (name_in t) fs) b
      → Contains (object_by p t (all_fields fs) (λ s name. within_fields s name fs) (λ fields. fields_misfits look fields fs) (scalar s)) b
  custom_in t p fs s b custom h = in_true (is_custom s) (within_fields s (name_in t) fs) (at_one p t) b custom h

  -- a list where none is expected
  list_one_in : (t : Written) (p : Place) (xs : Values) (i : InputForm) → is_custom_form i ≡ false → Contains (list_at_one p t (λ s name. within_values s name xs) i) (v18 p (text_of (one_of t)))
  list_one_in t p xs (scalar s) custom = in_false (is_custom s) (within_values s (name_in t) xs) (at_one p t) (v18 p (text_of (one_of t))) custom (Contains-here (v18 p (text_of (one_of t))) [])
  list_one_in t p xs (enumeration values) custom = Contains-here (v18 p (text_of (one_of t))) []
  list_one_in t p xs (input_object fields) custom = Contains-here (v18 p (text_of (one_of t))) []

  is_false : (c : Bool) → (c ≡ true → ⊥) → c ≡ false
  is_false true never = absurd (never refl)
  is_false false never = refl

  found_misfits : {t : Written} {x : Value} {b : BadValue} → Misfits look t x b → Contains (misfits look t x) b
  found_misfits (cases.null_at_non_null {t = t} {p = p} {i = i} is known) =
      in_true (is_non_null t) (never_fits look p t) [] (v18 p (text_of t)) is (in_known t (λ f. bad rule.V18 p (text_of t)) i (v18 p (text_of t)) known (Contains-here (v18 p (text_of t)) []))
  found_misfits (cases.not_taken {t = t} {x = x} {i = i} single known is) = single_in t x i single known is
  found_misfits (cases.unexpected_list {t = t} {p = p} {xs = xs} {i = i} no_item known custom) =
      list_in t p xs None (v18 p (text_of (one_of t))) no_item (in_known t (list_at_one p t (λ s name. within_values s name xs)) i (v18 p (text_of (one_of t))) known (list_one_in t p xs i custom))
  found_misfits (cases.in_custom_list {t = t} {p = p} {xs = xs} {s = s} {b = b} no_item known custom inside) =
      list_in t p xs None b no_item (in_known t (list_at_one p t (λ s name. within_values s name xs)) (scalar s) b known
      (in_true (is_custom s) (within_values s (name_in t) xs) (at_one p t) b custom (found_within s (name_in t) inside)))
  found_misfits (cases.unlisted_item {t = t} {item = item} {p = p} {xs = xs} {x = x} {i = i} is has unlisted known) =
      list_in t p xs (Some item) (v18 (place_of x) (text_of item)) is (item_in item xs x (v18 (place_of x) (text_of item)) has
      (in_true (is_list item && not (may_be_list x)) (never_fits look (place_of x) item) (misfits look item x) (v18 (place_of x) (text_of item)) unlisted
      (in_known item (λ f. bad rule.V18 (place_of x) (text_of item)) i (v18 (place_of x) (text_of item)) known (Contains-here (v18 (place_of x) (text_of item)) []))))
  found_misfits (cases.in_item {t = t} {item = item} {p = p} {xs = xs} {x = x} {b = b} is has listed inner) =
      list_in t p xs (Some item) b is (item_in item xs x b has
      (in_false (is_list item && not (may_be_list x)) (never_fits look (place_of x) item) (misfits look item x) b (is_false (is_list item && not (may_be_list x)) listed) (found_misfits inner)))
  found_misfits (cases.unexpected_object {t = t} {p = p} {fs = fs} {i = i} known other custom) = object_in t p fs i (v18 p (text_of (one_of t))) known (at_one_in t p fs i other custom)
  found_misfits (cases.in_custom_object {t = t} {p = p} {fs = fs} {s = s} {b = b} known custom inside) = object_in t p fs (scalar s) b known (custom_in t p fs s b custom (found_within s (name_in t) inside))
  found_misfits (cases.unknown_field {t = t} {p = p} {fs = fs} {fields = fields} {g = g} known has unknown) =
      let b : BadValue = record { rule = rule.V19; place = g.name.place; about = g.name.text } in
      object_in t p fs (input_object fields) b known (Contains-append_left (fields_misfits look fields fs) (flat_map (missing p (all_fields fs)) fields) b
      (field_in fields fs g b has (subst (λ o. Contains (field_by g.name g.value (λ u. misfits look u g.value) o) b) (sym unknown) (Contains-here b []))))
  found_misfits (cases.in_field {t = t} {p = p} {fs = fs} {fields = fields} {g = g} {f = f} {b = b} known has named given inner) =
      object_in t p fs (input_object fields) b known (Contains-append_left (fields_misfits look fields fs) (flat_map (missing p (all_fields fs)) fields) b
      (field_in fields fs g b has (subst (λ o. Contains (field_by g.name g.value (λ u. misfits look u g.value) o) b) (sym named)
      (in_false (is_null g.value && is_required f) [] (misfits look f.of_type g.value) b (is_false (is_null g.value && is_required f) given) (found_misfits inner)))))
  found_misfits (cases.missing_field {t = t} {p = p} {fs = fs} {fields = fields} {f = f} known has lacking) =
      let b : BadValue = record { rule = rule.V21; place = p; about = f.name } in
      object_in t p fs (input_object fields) b known (Contains-append_right (fields_misfits look fields fs) (flat_map (missing p (all_fields fs)) fields) b
      (Contains-flat_map (missing p (all_fields fs)) fields f b has
      (in_true (is_required f && lacks (is_given (all_fields fs) f.name) (is_null_given (all_fields fs) f.name)) (bad rule.V21 p f.name) [] b
      (by_missing (is_required f) (is_given (all_fields fs) f.name) (is_null_given (all_fields fs) f.name) lacking.0 lacking.1) (Contains-here b []))))

pub in_cases : BadValuesInCases
in_cases look t x b = (
  λ h. elim (Contains-append_cases (misfits look t x) (repeats x) b h) [
    | inl first ↦ inl (misfits_found look t x b first)
    | inr later ↦ inr (repeats_found x b later)
  ],
  λ h. elim h [
    | inl first ↦ Contains-append_left (misfits look t x) (repeats x) b (found_misfits look first)
    | inr later ↦ Contains-append_right (misfits look t x) (repeats x) b (found_repeats later)
  ],
)

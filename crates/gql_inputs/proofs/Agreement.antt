-- Look-ups that agree on the names that a type leads to find the same in each value.
use Rattle.std.specs.Prelude.{◌≡◌, ◌++◌, ◌&&◌, suc, ℕ, List, [], ◌∷◌, Bool, true, false, not, find, flat_map, refl, Option, Some, None, Contains, if◌then◌else◌}
use Rattle.std.proofs.Common.{ap, sym, ◌∙◌, subst, arith}
use Rattle.gql_text.specs.declared.place.Place.{Place}
use Rattle.gql_ast.specs.declared.rule.Rule.TheVariants as rule
use Rattle.gql_ast.specs.declared.text.Name.{Name}
use Rattle.gql_types.specs.Written.{Written, named, listed, required}
use Rattle.gql_inputs.specs.Agreement.{LeadsTo, itself, by_field, Agree}
use Rattle.gql_inputs.specs.BadValues.{bad, of_known, where_known, misfits, items_misfits, fields_misfits, item_by, field_by, list_by, list_at_one, object_by, never_fits, single_at, missing, within_values, within_fields, repeats, bad_values_by}
use Rattle.gql_inputs.specs.InputTypes.{name_in, item_of, is_list, is_non_null, text_of}
use Rattle.gql_inputs.specs.Lookups.{InputForm, scalar, enumeration, input_object, FieldForm, InputLookup, field_named, is_required}
use Rattle.gql_inputs.specs.Values.{Value, variable, null, int, float, string, boolean, enum, list, object, Values, no_values, value, Fields, no_fields, field, all_fields, place_of, is_null, may_be_list}
use Rattle.gql_inputs.specs.declared.bad_value.BadValue.{BadValue}

-- ---- what a search finds is in the list

found_by : {A : Type 0} (test : A → Bool) (x y : A) (xs : List A) (b : Bool) → test y ≡ b → (find test xs ≡ Some x → Contains xs x)
    → find test (y ∷ xs) ≡ Some x → Contains (y ∷ xs) x
found_by test x y xs true is later e = let same : Some y ≡ Some x = rw is at e in (0, omega arith, cc)
found_by test x y xs false is later e = let rest : find test xs ≡ Some x = rw is at e in
    let h = later rest in (suc h.0, omega (arith, h.1), h.2)

found : {A : Type 0} (test : A → Bool) (x : A) (xs : List A) → find test xs ≡ Some x → Contains xs x
found test x [] e = cc
found test x (y ∷ xs) e = found_by test x y xs (test y) refl (found test x xs) e

-- ---- names that types lead to

-- a list's items have its name
item_name : (t item : Written) → item_of t ≡ Some item → name_in item ≡ name_in t
item_name (named n) item e = cc
item_name (listed t) item e = let same : t ≡ item = cc in ap name_in (sym same)
item_name (required t) item e = item_name t item e

-- what a name that is led to leads to itself
below : (look : InputLookup) (t s : Written) → LeadsTo look t (name_in s) → (n : List ℕ) → LeadsTo look s n → LeadsTo look t n
below look t s p n itself = p
below look t s p n (by_field {n = k} q e c) = by_field (below look t s p k q) e c

module _ (u v : InputLookup) where
  -- of the items of a list
  agree_item : (t item : Written) → item_of t ≡ Some item → Agree u v t → Agree u v item
  agree_item t item e agree n p = agree n (below u t item (subst (λ m. LeadsTo u t m) (sym (item_name t item e)) itself) n p)

  -- of a field of an input object
  agree_field : (t : Written) (fields : List FieldForm) (f : FieldForm) → u (name_in t) ≡ Some (input_object fields) → Contains fields f → Agree u v t → Agree u v f.of_type
  agree_field t fields f e c agree n p = agree n (below u t f.of_type (by_field itself e c) n p)

  -- what is led to in the second is led to in the first
  led_to : (t : Written) → Agree u v t → (n : List ℕ) → LeadsTo v t n → LeadsTo u t n
  led_to t agree n itself = itself
  led_to t agree n (by_field {n = k} p e c) = let q = led_to t agree k p in by_field q (agree k q ∙ e) c

  pub agree_back : (t : Written) → Agree u v t → Agree v u t
  agree_back t agree n p = sym (agree n (led_to t agree n p))

  -- ---- what is found

  -- by the name within a type alone
  where_law : (t : Written) (f : InputForm → List BadValue) → Agree u v t → where_known u t f ≡ where_known v t f
  where_law t f agree = ap (of_known f) (agree (name_in t) itself)

  never_law : (p : Place) (t : Written) → Agree u v t → never_fits u p t ≡ never_fits v p t
  never_law p t agree = where_law t (λ i. bad rule.V18 p (text_of t)) agree

  list_case : (p : Place) (t : Written) (xs : Values) (o : Option Written) → item_of t ≡ o → Agree u v t
      → ((item : Written) → Agree u v item → items_misfits u item xs ≡ items_misfits v item xs)
      → list_by u p t (λ s name. within_values s name xs) (λ item. items_misfits u item xs) o ≡ list_by v p t (λ s name. within_values s name xs) (λ item. items_misfits v item xs) o
  list_case p t xs None e agree items = where_law t (list_at_one p t (λ s name. within_values s name xs)) agree
  list_case p t xs (Some item) e agree items = items item (agree_item t item e agree)

  item_case : (item : Written) (x : Value) (found : List BadValue) → Agree u v item → item_by u item x found ≡ item_by v item x found
  item_case item x found agree = ap (λ r. if is_list item && not (may_be_list x) then r else found) (never_law (place_of x) item agree)

  field_case : (n : Name) (x : Value) (o : Option FieldForm) → ((f : FieldForm) → o ≡ Some f → Agree u v f.of_type)
      → ((t : Written) → Agree u v t → misfits u t x ≡ misfits v t x)
      → field_by n x (λ t. misfits u t x) o ≡ field_by n x (λ t. misfits v t x) o
  field_case n x None agree found = refl
  field_case n x (Some f) agree found = ap (λ r. if is_null x && is_required f then [] else r) (found f.of_type (agree f refl))

  object_case : (p : Place) (t : Written) (fs : Fields) (o : Option InputForm)
      → ((fields : List FieldForm) → o ≡ Some (input_object fields) → fields_misfits u fields fs ≡ fields_misfits v fields fs)
      → of_known (object_by p t (all_fields fs) (λ s name. within_fields s name fs) (λ fields. fields_misfits u fields fs)) o
      ≡ of_known (object_by p t (all_fields fs) (λ s name. within_fields s name fs) (λ fields. fields_misfits v fields fs)) o
  object_case p t fs None each = refl
  object_case p t fs (Some (scalar s)) each = refl
  object_case p t fs (Some (enumeration values)) each = refl
  object_case p t fs (Some (input_object fields)) each = ap (λ r. r ++ flat_map (missing p (all_fields fs)) fields) (each fields refl)

  mutual
    pub same_misfits : (x : Value) (t : Written) → Agree u v t → misfits u t x ≡ misfits v t x
    same_misfits (variable p name) t agree = refl
    same_misfits (null p) t agree = ap (λ r. if is_non_null t then r else []) (never_law p t agree)
    same_misfits (int p text) t agree = where_law t (single_at t (int p text)) agree
    same_misfits (float p text) t agree = where_law t (single_at t (float p text)) agree
    same_misfits (string p) t agree = where_law t (single_at t (string p)) agree
    same_misfits (boolean p) t agree = where_law t (single_at t (boolean p)) agree
    same_misfits (enum p name) t agree = where_law t (single_at t (enum p name)) agree
    same_misfits (list p xs) t agree = list_case p t xs (item_of t) refl agree (λ item a. same_in_items xs item a)
    same_misfits (object p fs) t agree = object_case p t fs (u (name_in t)) (λ fields e. same_in_fields fs fields (λ f c. agree_field t fields f e c agree))
        ∙ ap (of_known (object_by p t (all_fields fs) (λ s name. within_fields s name fs) (λ fields. fields_misfits v fields fs))) (agree (name_in t) itself)

    same_in_items : (xs : Values) (item : Written) → Agree u v item → items_misfits u item xs ≡ items_misfits v item xs
    same_in_items no_values item agree = refl
    same_in_items (value x xs) item agree = ap (λ r. item_by u item x r ++ items_misfits u item xs) (same_misfits x item agree)
        ∙ (ap (λ r. r ++ items_misfits u item xs) (item_case item x (misfits v item x) agree)
        ∙ ap (λ r. item_by v item x (misfits v item x) ++ r) (same_in_items xs item agree))

    same_in_fields : (fs : Fields) (fields : List FieldForm) → ((f : FieldForm) → Contains fields f → Agree u v f.of_type) → fields_misfits u fields fs ≡ fields_misfits v fields fs
    same_in_fields no_fields fields agree = refl
    same_in_fields (field n x fs) fields agree =
        ap (λ r. r ++ fields_misfits u fields fs) (field_case n x (field_named fields n.text) (λ f e. agree f (found _ f fields e)) (λ t a. same_misfits x t a))
        ∙ ap (λ r. field_by n x (λ t. misfits v t x) (field_named fields n.text) ++ r) (same_in_fields fs fields agree)

  pub same_bad_values : (t : Written) → Agree u v t → (x : Value) → bad_values_by u x t ≡ bad_values_by v x t
  same_bad_values t agree x = ap (λ r. r ++ repeats x) (same_misfits x t agree)

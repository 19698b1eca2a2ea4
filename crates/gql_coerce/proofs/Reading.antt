-- What each form of a literal is as an input: the equations of the definition.
use Rattle.std.specs.Prelude.{◌≡◌, ℕ, zero, suc, List, [], ◌∷◌, Bool, true, false, map, refl, Option, Some, None, is_some, if◌then◌else◌}
use Rattle.std.proofs.Common.{ap, sym, ◌∙◌}
use Rattle.gql_text.specs.declared.place.Place.{Place}
use Rattle.gql_ast.specs.declared.literal.Literal.{Literal}
use Rattle.gql_ast.specs.declared.literal.ObjectField.{ObjectField, fold-ObjectField}
use Rattle.gql_ast.specs.declared.literal.Literal.TheOpen.{Literal-F}
use Rattle.gql_ast.specs.declared.literal.Literal.TheFolds.{fold-roll-Literal, fold_out-ObjectField}
use Rattle.gql_ast.specs.declared.literal.Literal.TheVariants as l
use Rattle.gql_inputs.specs.Numbers.{real_of}
use Rattle.gql_types.specs.Written.{Written}
use Rattle.gql_types.specs.declared.schema.Schema.{Schema}
use Rattle.serde_json.specs.Data.{Data}
use Rattle.serde_json.specs.Find.{as_null, get}
use Rattle.gql_coerce.specs.Coercion.{coerced, at_level, once, single_at, null_at, list_by, items_expected, object_at, entries_for, variable_at}
use Rattle.gql_coerce.specs.Inputs.{Input, Field, null, single, list, object, fraction, text, truth, name, of_int, of_variable, all_inputs, all_fields, inputs_of, fields_of, firsts, literal, literal_at, literal_field, field_in, may_be_list}
use Rattle.gql_coerce.specs.Outcomes.{Reached, value, some, too_deep}

pub all_inputs_of : (xs : List Input) → all_inputs (inputs_of xs) ≡ xs
all_inputs_of [] = refl
all_inputs_of (x ∷ xs) = ap (λ ys. x ∷ ys) (all_inputs_of xs)

pub all_fields_of : (fs : List Field) → all_fields (fields_of fs) ≡ fs
all_fields_of [] = refl
all_fields_of (f ∷ fs) = ap (λ gs. f ∷ gs) (all_fields_of fs)

module _ (vs : Data) (place : Place) where
  pub is_variable : (n : List ℕ) → literal vs (l.Variable place n) ≡ of_variable (get n vs)
  unfolding literal
  is_variable n = ap (literal vs) (sym (l.rolls-Variable place n)) ∙ fold-roll-Literal Input Field (literal_at vs) field_in (Literal-F.Variable place n)

  pub is_int : (t : List ℕ) → literal vs (l.Int place t) ≡ single (of_int t)
  unfolding literal
  is_int t = ap (literal vs) (sym (l.rolls-Int place t)) ∙ fold-roll-Literal Input Field (literal_at vs) field_in (Literal-F.Int place t)

  pub is_float : (t : List ℕ) → literal vs (l.Float place t) ≡ single (fraction (real_of t))
  unfolding literal
  is_float t = ap (literal vs) (sym (l.rolls-Float place t)) ∙ fold-roll-Literal Input Field (literal_at vs) field_in (Literal-F.Float place t)

  pub is_string : (t : List ℕ) → literal vs (l.String place t) ≡ single (text t)
  unfolding literal
  is_string t = ap (literal vs) (sym (l.rolls-String place t)) ∙ fold-roll-Literal Input Field (literal_at vs) field_in (Literal-F.String place t)

  pub is_boolean : (b : Bool) → literal vs (l.Boolean place b) ≡ single (truth b)
  unfolding literal
  is_boolean b = ap (literal vs) (sym (l.rolls-Boolean place b)) ∙ fold-roll-Literal Input Field (literal_at vs) field_in (Literal-F.Boolean place b)

  pub is_null : literal vs (l.Null place) ≡ null
  unfolding literal
  is_null = ap (literal vs) (sym (l.rolls-Null place)) ∙ fold-roll-Literal Input Field (literal_at vs) field_in (Literal-F.Null place)

  pub is_enum : (n : List ℕ) → literal vs (l.Enum place n) ≡ single (name n)
  unfolding literal
  is_enum n = ap (literal vs) (sym (l.rolls-Enum place n)) ∙ fold-roll-Literal Input Field (literal_at vs) field_in (Literal-F.Enum place n)

  pub is_list : (xs : List Literal) → literal vs (l.List place xs) ≡ list (inputs_of (map (literal vs) xs))
  unfolding literal
  is_list xs = ap (literal vs) (sym (l.rolls-List place xs)) ∙ fold-roll-Literal Input Field (literal_at vs) field_in (Literal-F.List place xs)

  fields_in : (fs : List ObjectField) → map (fold-ObjectField Input Field (literal_at vs) field_in) fs ≡ map (literal_field vs) fs
  unfolding literal
  fields_in [] = refl
  fields_in (f ∷ fs) = ap (λ x. x ∷ map (fold-ObjectField Input Field (literal_at vs) field_in) fs) (fold_out-ObjectField Input Field (literal_at vs) field_in f)
      ∙ ap (λ xs. literal_field vs f ∷ xs) (fields_in fs)

  pub is_object : (fs : List ObjectField) → literal vs (l.Object place fs) ≡ object (fields_of (firsts (map (literal_field vs) fs)))
  unfolding literal
  is_object fs = ap (literal vs) (sym (l.rolls-Object place fs)) ∙ fold-roll-Literal Input Field (literal_at vs) field_in (Literal-F.Object place fs)
      ∙ ap (λ xs. object (fields_of (firsts xs))) (fields_in fs)

-- ---- what they come to

-- one level of a coercion
pub level : (n : ℕ) (s : Schema) (x : Input) (e : Option Written) → coerced (suc n) s x e ≡ at_level (coerced n s) s x e
unfolding coerced
level n s x e = refl

by_variable : (inner : Input → Option Written → Reached (Option Data)) (s : Schema) (e : Option Written) (o : Option Data) → at_level inner s (of_variable o) e ≡ variable_at e o
by_variable inner s e None = refl
by_variable inner s e (Some d) = refl

module _ (n : ℕ) (s : Schema) (e : Option Written) (vs : Data) (place : Place) where
  by : (x : Literal) (y : Input) → literal vs x ≡ y → coerced (suc n) s (literal vs x) e ≡ at_level (coerced n s) s y e
  by x y is = level n s (literal vs x) e ∙ ap (λ z. at_level (coerced n s) s z e) is

  pub coerced_variable : (v : List ℕ) → coerced (suc n) s (literal vs (l.Variable place v)) e ≡ variable_at e (get v vs)
  coerced_variable v = by _ _ (is_variable vs place v) ∙ by_variable (coerced n s) s e (get v vs)

  -- a variable that has a value other than null
  pub variable_comes : (v : List ℕ) (d : Data) → get v vs ≡ Some d → is_some (as_null d) ≡ false → coerced (suc n) s (literal vs (l.Variable place v)) e ≡ value (Some d)
  variable_comes v d got other = coerced_variable v ∙ ap (variable_at e) got ∙ ap (λ b. some (if b then null_at e else value d)) other

  pub coerced_int : (t : List ℕ) → coerced (suc n) s (literal vs (l.Int place t)) e ≡ once e (some (single_at s e (of_int t)))
  coerced_int t = by _ _ (is_int vs place t)

  pub coerced_float : (t : List ℕ) → coerced (suc n) s (literal vs (l.Float place t)) e ≡ once e (some (single_at s e (fraction (real_of t))))
  coerced_float t = by _ _ (is_float vs place t)

  pub coerced_string : (t : List ℕ) → coerced (suc n) s (literal vs (l.String place t)) e ≡ once e (some (single_at s e (text t)))
  coerced_string t = by _ _ (is_string vs place t)

  pub coerced_boolean : (b : Bool) → coerced (suc n) s (literal vs (l.Boolean place b)) e ≡ once e (some (single_at s e (truth b)))
  coerced_boolean b = by _ _ (is_boolean vs place b)

  pub coerced_null : coerced (suc n) s (literal vs (l.Null place)) e ≡ some (null_at e)
  coerced_null = by _ _ (is_null vs place)

  pub coerced_enum : (t : List ℕ) → coerced (suc n) s (literal vs (l.Enum place t)) e ≡ once e (some (single_at s e (name t)))
  coerced_enum t = by _ _ (is_enum vs place t)

  pub coerced_list : (xs : List Literal) → coerced (suc n) s (literal vs (l.List place xs)) e ≡ some (list_by (coerced n s) (map (literal vs) xs) (items_expected s e))
  coerced_list xs = by _ _ (is_list vs place xs) ∙ ap (λ ys. some (list_by (coerced n s) ys (items_expected s e))) (all_inputs_of (map (literal vs) xs))

  pub coerced_object : (fs : List ObjectField) → coerced (suc n) s (literal vs (l.Object place fs)) e
      ≡ once e (some (object_at (coerced n s) (entries_for s (firsts (map (literal_field vs) fs)) e)))
  coerced_object fs = by _ _ (is_object vs place fs) ∙ ap (λ gs. once e (some (object_at (coerced n s) (entries_for s gs e)))) (all_fields_of (firsts (map (literal_field vs) fs)))

-- and without any level
pub no_level : (s : Schema) (x : Input) (e : Option Written) → coerced zero s x e ≡ too_deep
unfolding coerced
no_level s x e = refl

-- ---- which may be lists

variable_may : (o : Option Data) → may_be_list (of_variable o) ≡ true
variable_may None = refl
variable_may (Some d) = refl

module _ (vs : Data) (place : Place) where
  pub may_variable : (n : List ℕ) → may_be_list (literal vs (l.Variable place n)) ≡ true
  may_variable n = ap may_be_list (is_variable vs place n) ∙ variable_may (get n vs)

  pub may_int : (t : List ℕ) → may_be_list (literal vs (l.Int place t)) ≡ false
  may_int t = ap may_be_list (is_int vs place t)

  pub may_float : (t : List ℕ) → may_be_list (literal vs (l.Float place t)) ≡ false
  may_float t = ap may_be_list (is_float vs place t)

  pub may_string : (t : List ℕ) → may_be_list (literal vs (l.String place t)) ≡ false
  may_string t = ap may_be_list (is_string vs place t)

  pub may_boolean : (b : Bool) → may_be_list (literal vs (l.Boolean place b)) ≡ false
  may_boolean b = ap may_be_list (is_boolean vs place b)

  pub may_null : may_be_list (literal vs (l.Null place)) ≡ true
  may_null = ap may_be_list (is_null vs place)

  pub may_enum : (n : List ℕ) → may_be_list (literal vs (l.Enum place n)) ≡ false
  may_enum n = ap may_be_list (is_enum vs place n)

  pub may_list : (xs : List Literal) → may_be_list (literal vs (l.List place xs)) ≡ true
  may_list xs = ap may_be_list (is_list vs place xs)

  pub may_object : (fs : List ObjectField) → may_be_list (literal vs (l.Object place fs)) ≡ false
  may_object fs = ap may_be_list (is_object vs place fs)

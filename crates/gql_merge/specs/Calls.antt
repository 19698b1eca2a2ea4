-- What a field calls, as a text: its name and its arguments. Fields are compared by it where their
-- results are merged (GraphQL 5.3.2): two have the same name and equal arguments exactly if their
-- texts are equal.
--
-- A text can be read back in one way: a number, a name and a variable end at a comma or a bracket,
-- a string has its length in front, and each item of a list, field of an object and argument ends
-- in a comma. Fields and arguments have no order, so they are in the order of their texts.
-- Arguments are a set: each text occurs once. A field of an object occurs as often as it is
-- written. Numbers and names are equal if they are written alike, and strings if their values are
-- equal.
use Rattle.std.specs.Prelude.{◌≡◌, ◌+◌, ℕ, List, [], ◌∷◌, ◌++◌, map, flat_map, fold, length, decimal, codes, Bool, true, false, refl}
use Rattle.std.proofs.Common.{ap, sym, ◌∙◌}
use Rattle.std.specs.BTreeMap.{insert_entry}
use Rattle.std.specs.Ordering.{nat_cmp, ordering_then}
use Rattle.std.specs.declared.cmp.Ordering.{Ordering}
use Rattle.gql_text.specs.declared.place.Place.{Place}
use Rattle.gql_ast.specs.FileMaps.{name_order}
use Rattle.gql_ast.specs.declared.literal.Argument.{Argument}
use Rattle.gql_ast.specs.declared.literal.Literal.{Literal, fold-Literal}
use Rattle.gql_ast.specs.declared.literal.Literal.TheOpen.{Literal-F, ObjectField-F}
use Rattle.gql_ast.specs.declared.literal.Literal.TheFolds.{fold-roll-Literal, fold_out-ObjectField}
use Rattle.gql_ast.specs.declared.literal.Literal.TheVariants as l
use Rattle.gql_ast.specs.declared.literal.ObjectField.{ObjectField, fold-ObjectField}
use Rattle.gql_ast.specs.declared.text.Name.{Name}

-- a text, by its bytes
abbrev pub Text : Type 0
Text = List ℕ

-- ---- texts in order

-- these entries with one text more, unless it is there
abbrev pub with_text : List (Text × Unit {0}) → Text → List (Text × Unit {0})
with_text entries t = insert_entry name_order entries t tt

-- these texts, each once, in the order of their bytes
abbrev pub each_once : List Text → List Text
each_once texts = map (λ (e : Text × Unit {0}). e.0) (fold with_text [] texts)

-- the order of texts with numbers: by the text and then by the number
abbrev pub numbered_order : Text × ℕ → Text × ℕ → Ordering
numbered_order x y = ordering_then (name_order x.0 y.0) (nat_cmp x.1 y.1)

-- these entries and texts in order, numbered from n on
abbrev pub ordered_from : List ((Text × ℕ) × Unit {0}) → ℕ → List Text
    → List ((Text × ℕ) × Unit {0})
ordered_from entries n [] = entries
ordered_from entries n (t ∷ texts) =
    ordered_from (insert_entry numbered_order entries (t, n) tt) (n + 1) texts

-- these texts in the order of their bytes, each as often as it occurs
abbrev pub in_order : List Text → List Text
in_order texts = map (λ (e : (Text × ℕ) × Unit {0}). e.0.0) (ordered_from [] 0 texts)

-- texts, each with a comma after it
abbrev pub with_commas : List Text → Text
with_commas texts = flat_map (λ (t : Text). t ++ codes ",") texts

-- ---- values

-- a string, with its length in front
abbrev pub string_text : Text → Text
string_text value = decimal (length value) ++ (codes "\"" ++ value)

-- the text of a Boolean value
abbrev pub boolean_text : Bool → Text
boolean_text true = codes "true"
boolean_text false = codes "false"

-- the text of a value of this form, from the texts of its parts
abbrev pub text_at : Literal-F Text Text → Text
text_at (Literal-F.Variable place name) = codes "$" ++ name
text_at (Literal-F.Int place text) = text
text_at (Literal-F.Float place text) = text
text_at (Literal-F.String place value) = string_text value
text_at (Literal-F.Boolean place value) = boolean_text value
text_at (Literal-F.Null place) = codes "null"
text_at (Literal-F.Enum place name) = name
text_at (Literal-F.List place items) = codes "[" ++ (with_commas items ++ codes "]")
text_at (Literal-F.Object place fields) = codes "{" ++ (with_commas (in_order fields) ++ codes "}")

-- the text of an argument or a field of an object, from its name and the text of its value
abbrev pub member_text : Text → Text → Text
member_text name value = name ++ (codes ":" ++ value)

-- the text of a field of an object, from the text of its value
abbrev pub text_of_field : ObjectField-F Text Text → Text
text_of_field f = member_text f.name.text f.value

-- the text of a value
unfoldable pub value_text : Literal → Text
value_text = fold-Literal Text Text text_at text_of_field

-- ---- calls

-- the text of an argument
abbrev pub argument_text : Argument → Text
argument_text a = member_text a.name.text (value_text a.value)

-- the text of a field of this name with these arguments
abbrev pub call_text : Text → List Argument → Text
call_text name arguments =
    name ++ (codes "(" ++ with_commas (each_once (map argument_text arguments)))

-- ---- the text of each form of a value

-- the text of a field of an object
abbrev pub object_field_text : ObjectField → Text
object_field_text f = member_text f.name.text (value_text f.value)

pub text_variable : (p : Place) (n : Text) → value_text (l.Variable p n) ≡ codes "$" ++ n
unfolding value_text
text_variable p n = ap value_text (sym (l.rolls-Variable p n))
    ∙ fold-roll-Literal Text Text text_at text_of_field (Literal-F.Variable p n)

pub text_int : (p : Place) (t : Text) → value_text (l.Int p t) ≡ t
unfolding value_text
text_int p t = ap value_text (sym (l.rolls-Int p t))
    ∙ fold-roll-Literal Text Text text_at text_of_field (Literal-F.Int p t)

pub text_float : (p : Place) (t : Text) → value_text (l.Float p t) ≡ t
unfolding value_text
text_float p t = ap value_text (sym (l.rolls-Float p t))
    ∙ fold-roll-Literal Text Text text_at text_of_field (Literal-F.Float p t)

pub text_string : (p : Place) (t : Text) → value_text (l.String p t) ≡ string_text t
unfolding value_text
text_string p t = ap value_text (sym (l.rolls-String p t))
    ∙ fold-roll-Literal Text Text text_at text_of_field (Literal-F.String p t)

pub text_boolean : (p : Place) (b : Bool) → value_text (l.Boolean p b) ≡ boolean_text b
unfolding value_text
text_boolean p b = ap value_text (sym (l.rolls-Boolean p b))
    ∙ fold-roll-Literal Text Text text_at text_of_field (Literal-F.Boolean p b)

pub text_null : (p : Place) → value_text (l.Null p) ≡ codes "null"
unfolding value_text
text_null p = ap value_text (sym (l.rolls-Null p))
    ∙ fold-roll-Literal Text Text text_at text_of_field (Literal-F.Null p)

pub text_enum : (p : Place) (n : Text) → value_text (l.Enum p n) ≡ n
unfolding value_text
text_enum p n = ap value_text (sym (l.rolls-Enum p n))
    ∙ fold-roll-Literal Text Text text_at text_of_field (Literal-F.Enum p n)

pub text_list : (p : Place) (items : List Literal)
    → value_text (l.List p items)
    ≡ codes "[" ++ (with_commas (map value_text items) ++ codes "]")
unfolding value_text
text_list p items = ap value_text (sym (l.rolls-List p items))
    ∙ fold-roll-Literal Text Text text_at text_of_field (Literal-F.List p items)

-- the fields of an object, one by one
fields_text : (fields : List ObjectField)
    → map (fold-ObjectField Text Text text_at text_of_field) fields ≡ map object_field_text fields
unfolding value_text
fields_text [] = refl
fields_text (f ∷ fields) =
    ap (λ t. t ∷ map (fold-ObjectField Text Text text_at text_of_field) fields)
    (fold_out-ObjectField Text Text text_at text_of_field f)
    ∙ ap (λ ts. object_field_text f ∷ ts) (fields_text fields)

pub text_object : (p : Place) (fields : List ObjectField)
    → value_text (l.Object p fields)
    ≡ codes "{" ++ (with_commas (in_order (map object_field_text fields)) ++ codes "}")
unfolding value_text
text_object p fields = ap value_text (sym (l.rolls-Object p fields))
    ∙ fold-roll-Literal Text Text text_at text_of_field (Literal-F.Object p fields)
    ∙ ap (λ ts. codes "{" ++ (with_commas (in_order ts) ++ codes "}")) (fields_text fields)

-- ---- examples

-- a name at a place
abbrev name : Place → Text → Name
name p n = record { place = p; text = n }

-- a field of an object with this name and value
abbrev one : Place → Text → Literal → ObjectField
one p n v = record { name = name p n; value = v }

-- `{a: 1, b: 2}` and `{b: 2, a: 1}` are equal
without_order : (p : Place)
    → value_text (l.Object p (one p (codes "a") (l.Int p (codes "1"))
    ∷ one p (codes "b") (l.Int p (codes "2")) ∷ []))
    ≡ value_text (l.Object p (one p (codes "b") (l.Int p (codes "2"))
    ∷ one p (codes "a") (l.Int p (codes "1")) ∷ []))
without_order p = rw (
  text_object p (one p (codes "a") (l.Int p (codes "1"))
      ∷ one p (codes "b") (l.Int p (codes "2")) ∷ []),
  text_object p (one p (codes "b") (l.Int p (codes "2"))
      ∷ one p (codes "a") (l.Int p (codes "1")) ∷ []),
  text_int p (codes "1"),
  text_int p (codes "2"),
) refl

-- `{p: 1, p: 1}` is not `{p: 1}`
as_often : (p : Place)
    → value_text (l.Object p (one p (codes "p") (l.Int p (codes "1"))
    ∷ one p (codes "p") (l.Int p (codes "1")) ∷ []))
    ≡ codes "{p:1,p:1,}"
as_often p = rw (
  text_object p (one p (codes "p") (l.Int p (codes "1"))
      ∷ one p (codes "p") (l.Int p (codes "1")) ∷ []),
  text_int p (codes "1"),
) refl

-- the enum value A and the string "A" differ, and so do `0` and `-0`
of_enum : (p : Place) → value_text (l.Enum p (codes "A")) ≡ codes "A"
of_enum p = text_enum p (codes "A")

of_string : (p : Place) → value_text (l.String p (codes "A")) ≡ decimal 1 ++ codes "\"A"
of_string p = text_string p (codes "A")

of_zero : (p : Place) → value_text (l.Int p (codes "-0")) ≡ codes "-0"
of_zero p = text_int p (codes "-0")

-- `f(b: 2, a: 1, b: 2)`
abbrev argument : Place → Text → Text → Argument
argument p n v = record { name = name p n; value = l.Int p v }

of_call : (p : Place)
    → call_text (codes "f") (argument p (codes "b") (codes "2") ∷ argument p (codes "a") (codes "1")
    ∷ argument p (codes "b") (codes "2") ∷ [])
    ≡ codes "f(a:1,b:2,"
of_call p = rw (text_int p (codes "1"), text_int p (codes "2")) refl

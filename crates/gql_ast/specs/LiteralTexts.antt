-- The text of a literal (GraphQL 2.9): numbers and names as they are written, strings in quotes
-- with their escapes (block strings too, by their value), and `[1, 2]`, `{a: 1, b: 2}`, `[]`, `{}`.
use Rattle.std.specs.Prelude.{◌≡◌, ◌==◌, ◌/◌, ◌%◌, ℕ, List, [], ◌∷◌, ◌++◌, map, flat_map, nat_lt, codes, Bool, true, false, refl, if◌then◌else◌}
use Rattle.std.proofs.Common.{ap, sym, ◌∙◌}
use Rattle.std.specs.Char.{digit_char}
use Rattle.gql_text.specs.declared.place.Place.{Place}
use Rattle.gql_ast.specs.declared.literal.Literal.{Literal, fold-Literal}
use Rattle.gql_ast.specs.declared.literal.Literal.TheOpen.{Literal-F, ObjectField-F}
use Rattle.gql_ast.specs.declared.literal.Literal.TheFolds.{fold-roll-Literal, fold_out-ObjectField}
use Rattle.gql_ast.specs.declared.literal.Literal.TheVariants as l
use Rattle.gql_ast.specs.declared.literal.ObjectField.{ObjectField, fold-ObjectField}
use Rattle.gql_ast.specs.declared.text.Name.{Name}

-- the bytes of a text
abbrev pub Text : Type 0
Text = List ℕ

-- ---- strings (2.9.4)

-- how a string is written, between its quotes, for one byte of its value
unfoldable pub escaped : ℕ → Text
escaped b =
    if b == 34 then codes "\\\""
    else if b == 92 then codes "\\\\"
    else if b == 8 then codes "\\b"
    else if b == 9 then codes "\\t"
    else if b == 10 then codes "\\n"
    else if b == 12 then codes "\\f"
    else if b == 13 then codes "\\r"
    else if nat_lt b 32 then codes "\\u00" ++ digit_char (b / 16) ∷ digit_char (b % 16) ∷ []
    else b ∷ []

-- the string with this value, in quotes
abbrev pub string_text : Text → Text
string_text value = codes "\"" ++ (flat_map escaped value ++ codes "\"")

-- ---- lists and objects (2.9.7, 2.9.8)

-- `, ` if a text comes before, else nothing
abbrev pub comma_if : Bool → Text
comma_if later = if later then codes ", " else []

-- texts with `, ` between them, and before the first if a text comes before it
abbrev pub comma_list : Bool → List Text → Text
comma_list later [] = []
comma_list later (t ∷ ts) = comma_if later ++ (t ++ comma_list true ts)

-- texts with `, ` between them
abbrev pub with_commas : List Text → Text
with_commas = comma_list false

-- the text of a field of an object, from its name and the text of its value
abbrev pub field_text : Text → Text → Text
field_text name value = name ++ (codes ": " ++ value)

-- ---- literals

-- the text of a boolean (2.9.3)
abbrev pub boolean_text : Bool → Text
boolean_text true = codes "true"
boolean_text false = codes "false"

-- the text of a literal of this form, from the texts of its parts
abbrev pub text_at : Literal-F Text Text → Text
text_at (Literal-F.Variable place name) = codes "$" ++ name
text_at (Literal-F.Int place text) = text
text_at (Literal-F.Float place text) = text
text_at (Literal-F.String place value) = string_text value
text_at (Literal-F.Boolean place value) = boolean_text value
text_at (Literal-F.Null place) = codes "null"
text_at (Literal-F.Enum place name) = name
text_at (Literal-F.List place items) = codes "[" ++ (with_commas items ++ codes "]")
text_at (Literal-F.Object place fields) = codes "{" ++ (with_commas fields ++ codes "}")

-- the text of a field of an object, from the text of its value
abbrev pub text_of_field : ObjectField-F Text Text → Text
text_of_field f = field_text f.name.text f.value

-- the text of a literal
unfoldable pub literal_text : Literal → Text
literal_text = fold-Literal Text Text text_at text_of_field

-- ---- the text of each form of a literal

-- the text of a field of an object
abbrev pub object_field_text : ObjectField → Text
object_field_text f = field_text f.name.text (literal_text f.value)

pub text_variable : (p : Place) (n : Text) → literal_text (l.Variable p n) ≡ codes "$" ++ n
unfolding literal_text
text_variable p n = ap literal_text (sym (l.rolls-Variable p n))
    ∙ fold-roll-Literal Text Text text_at text_of_field (Literal-F.Variable p n)

pub text_int : (p : Place) (t : Text) → literal_text (l.Int p t) ≡ t
unfolding literal_text
text_int p t = ap literal_text (sym (l.rolls-Int p t))
    ∙ fold-roll-Literal Text Text text_at text_of_field (Literal-F.Int p t)

pub text_float : (p : Place) (t : Text) → literal_text (l.Float p t) ≡ t
unfolding literal_text
text_float p t = ap literal_text (sym (l.rolls-Float p t))
    ∙ fold-roll-Literal Text Text text_at text_of_field (Literal-F.Float p t)

pub text_string : (p : Place) (t : Text) → literal_text (l.String p t) ≡ string_text t
unfolding literal_text
text_string p t = ap literal_text (sym (l.rolls-String p t))
    ∙ fold-roll-Literal Text Text text_at text_of_field (Literal-F.String p t)

pub text_boolean : (p : Place) (b : Bool) → literal_text (l.Boolean p b) ≡ boolean_text b
unfolding literal_text
text_boolean p b = ap literal_text (sym (l.rolls-Boolean p b))
    ∙ fold-roll-Literal Text Text text_at text_of_field (Literal-F.Boolean p b)

pub text_null : (p : Place) → literal_text (l.Null p) ≡ codes "null"
unfolding literal_text
text_null p = ap literal_text (sym (l.rolls-Null p))
    ∙ fold-roll-Literal Text Text text_at text_of_field (Literal-F.Null p)

pub text_enum : (p : Place) (n : Text) → literal_text (l.Enum p n) ≡ n
unfolding literal_text
text_enum p n = ap literal_text (sym (l.rolls-Enum p n))
    ∙ fold-roll-Literal Text Text text_at text_of_field (Literal-F.Enum p n)

pub text_list : (p : Place) (items : List Literal)
    → literal_text (l.List p items)
    ≡ codes "[" ++ (with_commas (map literal_text items) ++ codes "]")
unfolding literal_text
text_list p items = ap literal_text (sym (l.rolls-List p items))
    ∙ fold-roll-Literal Text Text text_at text_of_field (Literal-F.List p items)

-- the fields of an object, one by one
fields_text : (fields : List ObjectField)
    → map (fold-ObjectField Text Text text_at text_of_field) fields ≡ map object_field_text fields
unfolding literal_text
fields_text [] = refl
fields_text (f ∷ fields) =
    ap (λ t. t ∷ map (fold-ObjectField Text Text text_at text_of_field) fields)
    (fold_out-ObjectField Text Text text_at text_of_field f)
    ∙ ap (λ ts. object_field_text f ∷ ts) (fields_text fields)

pub text_object : (p : Place) (fields : List ObjectField)
    → literal_text (l.Object p fields)
    ≡ codes "{" ++ (with_commas (map object_field_text fields) ++ codes "}")
unfolding literal_text
text_object p fields = ap literal_text (sym (l.rolls-Object p fields))
    ∙ fold-roll-Literal Text Text text_at text_of_field (Literal-F.Object p fields)
    ∙ ap (λ ts. codes "{" ++ (with_commas ts ++ codes "}")) (fields_text fields)

-- ---- examples

-- a name at a place
abbrev name : Place → Text → Name
name p n = record { place = p; text = n }

-- an object field of this name and value, at a place
abbrev one : Place → Text → Literal → ObjectField
one p n v = record { name = name p n; value = v }

-- a string with a quote, a backslash, a line end and the character U+001F
of_string : (p : Place)
    → literal_text (l.String p (codes "a\"\\" ++ 10 ∷ 31 ∷ [])) ≡ codes "\"a\\\"\\\\\\n\\u001f\""
unfolding escaped
of_string p = text_string p (codes "a\"\\" ++ 10 ∷ 31 ∷ [])

-- `[1, A]`, `[]` and `{}`
of_list : (p : Place)
    → literal_text (l.List p (l.Int p (codes "1") ∷ l.Enum p (codes "A") ∷ [])) ≡ codes "[1, A]"
of_list p = rw (
  text_list p (l.Int p (codes "1") ∷ l.Enum p (codes "A") ∷ []),
  text_int p (codes "1"),
  text_enum p (codes "A"),
) refl

of_empty_list : (p : Place) → literal_text (l.List p []) ≡ codes "[]"
of_empty_list p = text_list p []

of_empty_object : (p : Place) → literal_text (l.Object p []) ≡ codes "{}"
of_empty_object p = text_object p []

-- `{a: 1, b: null}`
of_object : (p : Place)
    → literal_text (l.Object p (one p (codes "a") (l.Int p (codes "1"))
    ∷ one p (codes "b") (l.Null p) ∷ []))
    ≡ codes "{a: 1, b: null}"
of_object p = rw (
  text_object p (one p (codes "a") (l.Int p (codes "1")) ∷ one p (codes "b") (l.Null p) ∷ []),
  text_int p (codes "1"),
  text_null p,
) refl

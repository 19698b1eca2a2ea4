-- Which selections of a set count, by their directives `@skip` and `@include` (GraphQL 3.13.1 and
-- 3.13.2), and for which types of objects (GraphQL 6.3.2, DoesFragmentTypeApply).
use Rattle.std.specs.Prelude.{ℕ, List, codes, Bool, false, not, ◌&&◌, ◌||◌, Option, Some, None, find, bytes_eq}
use Rattle.std.specs.List.{list_any}
use Rattle.std.specs.Option.{option_map_or}
use Rattle.gql_ast.specs.declared.literal.Argument.{Argument}
use Rattle.gql_ast.specs.declared.literal.Directive.{Directive}
use Rattle.gql_ast.specs.declared.literal.Literal.{Literal, out-Literal}
use Rattle.gql_ast.specs.declared.literal.ObjectField.{ObjectField}
use Rattle.gql_ast.specs.declared.literal.Literal.TheOpen.{Literal-F}
use Rattle.gql_types.specs.Schemas.{possible_named}
use Rattle.gql_types.specs.declared.schema.Schema.{Schema}
use Rattle.serde_json.specs.Data.{Data}
use Rattle.serde_json.specs.Find.{as_bool, get}

-- ---- directives

-- whether a value is there and is true
abbrev pub is_some_true : Option Bool → Bool
is_some_true None = false
is_some_true (Some b) = b

-- whether the variable of this name has the value true
abbrev pub is_true_variable : Data → List ℕ → Bool
is_true_variable values n = option_map_or (λ d. is_some_true (as_bool d)) (get n values) false

-- Whether a literal of this form is true, or a variable with the value true; the object `values`
-- has the values of the variables.
abbrev pub is_true_at : Data → Literal-F Literal ObjectField → Bool
is_true_at values (Literal-F.Boolean place b) = b
is_true_at values (Literal-F.Variable place n) = is_true_variable values n
is_true_at values _ = false

-- whether a literal is true, or a variable with the value true
abbrev pub is_true : Data → Literal → Bool
is_true values x = is_true_at values (out-Literal x)

-- whether the argument `if` is among these and is true
abbrev pub is_if_true : Data → List Argument → Bool
is_if_true values arguments = option_map_or (λ (a : Argument). is_true values a.value)
    (find (λ (a : Argument). bytes_eq a.name.text (codes "if")) arguments) false

-- whether a directive is `@skip` with an `if` that is true, or `@include` with an `if` that is not
abbrev pub leaves_out : Data → Directive → Bool
leaves_out values d = (bytes_eq d.name.text (codes "skip") && is_if_true values d.arguments)
    || (bytes_eq d.name.text (codes "include") && not (is_if_true values d.arguments))

-- whether a selection with these directives is left out
abbrev pub is_left_out : Data → List Directive → Bool
is_left_out values directives = list_any (leaves_out values) directives

-- ---- type conditions

-- whether t is a possible type of the type of this name (DoesFragmentTypeApply)
abbrev pub is_possible : Schema → List ℕ → List ℕ → Bool
is_possible s t condition =
    option_map_or (list_any (λ name. bytes_eq name t)) (possible_named s condition) false

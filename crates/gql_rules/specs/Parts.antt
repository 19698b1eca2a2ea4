-- Parts of operations, fields, arguments and directives (GraphQL 2.3, 2.5, 2.6, 2.12).
use Rattle.std.specs.Prelude.{ℕ, List, [], Bool, bytes_eq, count_by, nat_lt, Option, Some, None}
use Rattle.gql_text.specs.declared.place.Place.{Place}
use Rattle.gql_ast.specs.declared.literal.Argument.{Argument}
use Rattle.gql_ast.specs.declared.literal.Directive.{Directive}
use Rattle.gql_ast.specs.declared.text.Name.{Name}
use Rattle.gql_facts.specs.Nodes.{FieldNode}

-- the start of a field: its alias, or its name if it has none
abbrev pub start_at : Option Name → Name → Place
start_at None name = name.place
start_at (Some alias) name = alias.place

-- where a field starts
abbrev pub start_of : FieldNode → Place
start_of f = start_at f.alias f.name

-- an operation's name, or an empty text if it has none
abbrev pub name_or_empty : Option Name → List ℕ
name_or_empty None = []
name_or_empty (Some name) = name.text

-- the name of an argument
abbrev pub argument_name : Argument → List ℕ
argument_name a = a.name.text

-- the name of a directive
abbrev pub directive_name : Directive → List ℕ
directive_name d = d.name.text

-- whether more than one of these has the name
abbrev pub is_repeated : {A : Type 0} → (A → List ℕ) → List A → List ℕ → Bool
is_repeated name_of all name = nat_lt 1 (count_by (λ x. bytes_eq name (name_of x)) all)

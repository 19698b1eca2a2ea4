-- Fields in groups (GraphQL 6.3.2): the response names in the order of their first occurrences,
-- each with all fields of that name.
use Rattle.std.specs.Prelude.{ℕ, List, [], ◌∷◌, Bool, not, ◌&&◌, Option, Some, None, map, filter, nat_eq, bytes_eq}
use Rattle.gql_ast.specs.declared.executable.Field.{Field}
use Rattle.gql_ast.specs.declared.text.Name.{Name}
use Rattle.gql_collect.specs.Nodes.{FieldNode}

-- the list without the values that an earlier one is the same as, by `same`
abbrev pub firsts : {A : Type 0} → (A → A → Bool) → List A → List A
firsts same [] = []
firsts same (x ∷ xs) = x ∷ filter (λ y. not (same y x)) (firsts same xs)

-- an alias, or the name if there is none (GraphQL 2.7)
abbrev pub own_name : Option Name → Name → Name
own_name None name = name
own_name (Some alias) name = alias

-- the response name of a field, with its place
abbrev pub response_name : Field → Name
response_name f = own_name f.alias f.name

-- the response name of a field, as a text
abbrev pub key_of : FieldNode → List ℕ
key_of n = (response_name n.field).text

-- the offset at which a field starts in its file
abbrev pub start_of : FieldNode → ℕ
start_of n = (response_name n.field).place.offset

-- whether two are one field of a document: they are in one file and start at one place
abbrev pub is_same_field : FieldNode → FieldNode → Bool
is_same_field a b = bytes_eq a.file b.file && nat_eq (start_of a) (start_of b)

-- the fields of one response name
pub record Group : Type 0 where
  pub key : List ℕ
  pub nodes : List FieldNode

-- the group of a response name
abbrev pub group : List FieldNode → List ℕ → Group
group ns k = record { key = k; nodes = filter (λ n. bytes_eq k (key_of n)) ns }

-- the groups of these fields
abbrev pub groups_of : List FieldNode → List Group
groups_of ns = map (group ns) (firsts bytes_eq (map key_of ns))

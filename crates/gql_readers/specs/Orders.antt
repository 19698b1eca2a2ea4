-- The order of keys, and that of definitions.
use Rattle.std.specs.Prelude.{◌≡◌, ◌&&◌, ℕ, List, Bool, bytes_eq, nat_eq}
use Rattle.std.specs.List.{AllPairs}
use Rattle.std.specs.Ordering.{nat_cmp, ordering_then}
use Rattle.std.specs.declared.cmp.Ordering.{Ordering}
use Rattle.std.specs.declared.cmp.Ordering.TheVariants.{Less}
use Rattle.gql_ast.specs.FileMaps.{name_order}
use Rattle.gql_ast.specs.declared.definition.DefinitionId.{DefinitionId}
use Rattle.gql_facts.specs.Keys.{number_of, first_name, second_name}
use Rattle.gql_facts.specs.declared.key.Key.{Key}
use Rattle.gql_types.specs.Prints.{print_of}

-- the print of the name that a key asks about
unfoldable pub key_print : Key → ℕ
key_print k = print_of (first_name k)

-- the order of keys by the number of the question, then by the bytes of the names
abbrev pub text_order : Key → Key → Ordering
text_order a b = ordering_then (nat_cmp (number_of a) (number_of b))
    (ordering_then (name_order (first_name a) (first_name b))
    (name_order (second_name a) (second_name b)))

-- the order of keys: by the print of the name, so that the keys about one type are together
abbrev pub key_order : Key → Key → Ordering
key_order a b = ordering_then (nat_cmp (key_print a) (key_print b)) (text_order a b)

-- the order of what identifies a definition: by the name of the file, then by the offset
abbrev pub id_order : DefinitionId → DefinitionId → Ordering
id_order a b = ordering_then (name_order a.file b.file) (nat_cmp a.offset b.offset)

-- each definition is before all that come later in the list
abbrev pub AreInOrder : List DefinitionId → Type 0
AreInOrder = AllPairs (λ (a b : DefinitionId). id_order a b ≡ Less)

-- whether two are the same definition
abbrev pub is_id : DefinitionId → DefinitionId → Bool
is_id a b = nat_eq a.offset b.offset && bytes_eq a.file b.file

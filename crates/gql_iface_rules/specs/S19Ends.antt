-- Helper definitions for private contracts: the default values that are needed when fields of a
-- name are not given.
use Rattle.std.specs.Prelude.{◌≡◌, ◌<◌, ◌↔◌, ◌++◌, ℕ, List, [], ◌∷◌, is_some, map, flat_map, length, nat_lt, slice_set, slice_index_or, Contains, if◌then◌else◌}
use Rattle.gql_iface_rules.specs.S19DefaultValueCycles.{Numbered, NumberedObject}
use Rattle.gql_iface_rules.specs.S19Ranges.{first_number}
use Rattle.gql_iface_rules.specs.declared.s19_ends.End.{End}

-- a field that has a default value, and the number of the first field of its name
abbrev pub end_of : NumberedObject → Numbered → List End
end_of o i = if is_some i.field.node.default
    then map (λ n. record { first = n; number = i.number })
    (first_number o.inputs i.field.node.name.text)
    else []

-- the fields of an input object that have default values, each with the first field of its name
abbrev pub ends_of : NumberedObject → List End
ends_of o = flat_map (end_of o) o.inputs

-- the rows with a field added, in the row of the first field of its name
abbrev pub with_end : End → List (List ℕ) → List (List ℕ)
with_end e rows = if nat_lt e.first (length rows)
    then slice_set rows e.first (slice_index_or rows e.first [] ++ e.number ∷ []) else rows

-- the row of each number has the fields that have default values and the name of the field of that
-- number, if that is the first of its name
pub record Rows (count : ℕ) (ends : List End) (rows : List (List ℕ)) : Type 0 where
  pub length_is : length rows ≡ count
  pub has : (p k : ℕ) → Contains (slice_index_or rows p []) k
      ↔ ((p < count) × Contains ends (record { first = p; number = k }))

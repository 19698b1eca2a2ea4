-- Helper definitions for private contracts: whether anything was found.
use Rattle.std.specs.Prelude.{List, Bool, nat_eq, length}
use Rattle.gql_inputs.specs.declared.bad_value.BadValue.{BadValue}

-- whether nothing was found
abbrev pub is_clean : List BadValue → Bool
is_clean found = nat_eq (length found) 0

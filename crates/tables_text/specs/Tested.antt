-- Helper definitions for private contracts: tests of numbered fields and selection sets.
use Rattle.std.specs.Prelude.{ℕ, List, Bool, true, ◌&&◌, Option, None, Some, nat_lt, nat_eq, length}
use Rattle.std.specs.List.{list_all, list_any}
use Rattle.gql_clashes.specs.Numbered.{nodes_of}
use Rattle.gql_clashes.specs.declared.sets.Body.{Body}
use Rattle.gql_clashes.specs.declared.sets.Sets.{Sets}

-- all numbers are below a limit
abbrev pub are_below : ℕ → List ℕ → Bool
are_below limit numbers = list_all (λ n. nat_lt n limit) numbers

-- the numbers of a body are those of fields and of bodies
abbrev pub is_body : ℕ → ℕ → Body → Bool
is_body fields bodies b = are_below fields b.fields.items && are_below bodies b.spreads.items

-- the number of a body, if there is one, is that of a body
abbrev pub is_below : ℕ → Option ℕ → Bool
is_below bodies None = true
is_below bodies (Some s) = nat_lt s bodies

-- each number that occurs is that of a field, or of a body
abbrev pub is_whole : Sets → Bool
is_whole z = list_all (is_body (length z.fields.items) (length z.bodies.items)) z.bodies.items
    && list_all (λ f. is_below (length z.bodies.items) f.below) z.fields.items

-- all numbers are in a list
abbrev pub are_in : List ℕ → List ℕ → Bool
are_in list numbers = list_all (λ n. list_any (λ m. nat_eq m n) list) numbers

-- what each body of a list spreads is in the list
abbrev pub is_closed : Sets → List ℕ → Bool
is_closed z list = list_all (λ s. are_in list ((nodes_of z).spreads s)) list

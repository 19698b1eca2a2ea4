-- Helper definitions for private contracts: a list in chunks.
use Rattle.std.specs.Prelude.{◌≡◌, List, [], ◌∷◌, ◌++◌, Contains, flat_map, false}
use Rattle.std.specs.Ordering.{is_lt}
use Rattle.std.specs.declared.cmp.Ordering.{Ordering}
use Rattle.std.specs.declared.cmp.Ordering.TheVariants.{Less}
use Rattle.gql_ast.specs.declared.definition.DefinitionId.{DefinitionId}
use Rattle.gql_readers.specs.Merged.{itself}
use Rattle.gql_readers.specs.Orders.{AreInOrder, id_order}

-- what is in chunks
abbrev pub joined : {A : Type 0} → List (List A) → List A
joined chunks = flat_map (λ chunk. chunk) chunks

-- these are all below a place
abbrev pub AreBelow : {A K : Type 0} → (K → K → Ordering) → (A → K) → K → List A → Type 0
AreBelow {A} order at k xs = (x : A) → Contains xs x → order (at x) k ≡ Less

-- the first of some changes, if there is one, is above these
abbrev pub IsNextAbove : {A C K : Type 0} → (K → K → Ordering) → (A → K) → (C → K) → List A
    → List C → Type 0
IsNextAbove order at of xs [] = Unit {0}
IsNextAbove order at of xs (c ∷ cs) = AreBelow order at (of c) xs

-- these definitions are before another
abbrev pub AreBefore : DefinitionId → List DefinitionId → Type 0
AreBefore id ids = AreBelow id_order itself id ids

-- the first of some changes, if there is one, is not before a definition
abbrev pub IsNextFrom : DefinitionId → List DefinitionId → Type 0
IsNextFrom id [] = Unit {0}
IsNextFrom id (x ∷ xs) = is_lt (id_order x id) ≡ false

-- the first changes are before these definitions, and the next one is after all that is before them
pub record AreAhead (first next ids : List DefinitionId) : Type 0 where
  pub before : (x y : DefinitionId) → Contains first x → Contains ids y → id_order x y ≡ Less
  pub after : (xs : List DefinitionId) → AreInOrder (xs ++ ids)
      → IsNextAbove id_order itself itself xs next

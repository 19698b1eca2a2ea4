-- Which definitions read a key by their nodes, or by those of fragments that they reach.
use Rattle.std.specs.Prelude.{List, [], ◌∷◌, ◌++◌, Bool, map, filter}
use Rattle.std.specs.List.{list_any}
use Rattle.gql_ast.specs.declared.definition.DefinitionId.{DefinitionId}
use Rattle.gql_facts.specs.Keys.{is_key}
use Rattle.gql_facts.specs.declared.key.Key.{Key}
use Rattle.gql_reads.specs.declared.observation.Answer.{Answer}
use Rattle.gql_readers.specs.Orders.{AreInOrder}

-- a definition, by what identifies it, and the answers that it observed
pub record Reader : Type 0 where
  pub id : DefinitionId
  pub answers : List Answer

-- readers, and after them this definition with the answers that it observed
abbrev pub with_reader : List Reader → DefinitionId → List Answer → List Reader
with_reader readers id answers =
    readers ++ record { id = id; answers = answers } ∷ []

-- the keys of answers
abbrev pub keys_in : List Answer → List Key
keys_in answers = map (λ (a : Answer). a.observation.key) answers

-- whether a reader has an answer to a key
abbrev pub observes : Key → Reader → Bool
observes k r = list_any (λ (a : Answer). is_key a.observation.key k) r.answers

-- the readers that observed a key, in their order
abbrev pub readers_of : Key → List Reader → List DefinitionId
readers_of k readers = map (λ (r : Reader). r.id) (filter (observes k) readers)

-- the definitions on which readers are
abbrev pub ids_of : List Reader → List DefinitionId
ids_of readers = map (λ (r : Reader). r.id) readers

-- readers in file order, each definition once
abbrev pub InReadingOrder : List Reader → Type 0
InReadingOrder readers = AreInOrder (ids_of readers)

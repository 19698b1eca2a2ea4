-- An index from keys to the definitions whose nodes read them.
use Rattle.std.specs.Prelude.{◌≡◌, List, Contains, Option, MatchOption}
use Rattle.std.specs.List.{AllPairs}
use Rattle.std.specs.declared.cmp.Ordering.TheVariants.{Less}
use Rattle.gql_ast.specs.declared.definition.DefinitionId.{DefinitionId}
use Rattle.gql_facts.specs.declared.key.Key.{Key}
use Rattle.gql_reads.specs.declared.observation.Answer.{Answer}
use Rattle.gql_reads.specs.declared.observation.TypeAnswers.{TypeAnswers}
use Rattle.gql_readers.specs.Orders.{key_order}
use Rattle.gql_readers.specs.Readers.{Reader, readers_of}

-- a key, the answer that it had, with the types that this leads to, and the definitions that read it
pub record Reading : Type 0 where
  pub key : Key
  pub answer : Answer
  pub readers : List DefinitionId

-- the keys of the entries rise
abbrev pub AreEntriesInOrder : List Reading → Type 0
AreEntriesInOrder = AllPairs (λ (d e : Reading). key_order d.key e.key ≡ Less)

-- two answers are one, up to the order of the types that they lead to
pub record AreAlike (a b : Answer) : Type 0 where
  pub key : a.observation.key ≡ b.observation.key
  pub fact : a.observation.fact ≡ b.observation.fact
  pub there : (t : TypeAnswers) → Contains a.types t → Contains b.types t
  pub back : (t : TypeAnswers) → Contains b.types t → Contains a.types t

-- The index is that of these readers: each key at most once, in order, with exactly its readers and
-- the answer that all of them had; no key that was read is missing.
pub record IsIndexOf (index : List Reading) (readers : List Reader) : Type 0 where
  pub order : AreEntriesInOrder index
  pub exact : (e : Reading) → Contains index e → e.readers ≡ readers_of e.key readers
  pub answers : (r : Reader) (o : Answer) → Contains readers r → Contains r.answers o
      → (e : Reading) × Contains index e × (e.key ≡ o.observation.key) × AreAlike e.answer o

-- the entry of a key, or none if there is no entry of it
abbrev pub IsEntryOf : List Reading → Key → Option Reading → Type 0
IsEntryOf index k found = MatchOption found
    ((e : Reading) → Contains index e → e.key ≡ k → ⊥)
    (λ e. Contains index e × (e.key ≡ k))

-- Helper definitions for private contracts: the answers that a definition had before, and those that
-- it has after.
use Rattle.std.specs.Prelude.{◌⊎◌, List, [], ◌∷◌, Bool, Option, Some, None, Contains, filter, flat_map}
use Rattle.std.specs.List.{list_any}
use Rattle.gql_facts.specs.Keys.{is_key}
use Rattle.gql_facts.specs.declared.key.Key.{Key}
use Rattle.gql_reads.specs.Records.{Kept}
use Rattle.gql_reads.specs.declared.observation.Answer.{Answer}
use Rattle.gql_readers.specs.Readers.{keys_in}

-- Of the answers of one definition before and after, these go and these come. What goes was there,
-- and what comes is there afterwards. A key that was read and does not go is still read. The key of
-- each answer that is there afterwards comes, or the answer was there, and its key does not go.
pub record IsReplacement (before went came after : List Answer) : Type 0 where
  pub goes : (o : Answer) → Contains went o → Contains before o
  pub comes : (o : Answer) → Contains came o → Contains after o
  pub stays : (o : Answer) → Contains before o
      → (Contains (keys_in went) o.observation.key → ⊥)
      → Contains (keys_in after) o.observation.key
  pub from : (o : Answer) → Contains after o → Contains (keys_in came) o.observation.key
      ⊎ (Contains before o × (Contains (keys_in went) o.observation.key → ⊥))

-- Of the answers before and after that were compared so far, these differ. The key of one that went
-- is that of one that came, or it is among the lost keys.
pub record AreCompared (went came : List Answer) (lost : List Key) (before after : List Answer)
    : Type 0 where
  pub goes : (o : Answer) → Contains went o → Contains before o
  pub comes : (o : Answer) → Contains came o → Contains after o
  pub before_is : (o : Answer) → Contains before o → Contains went o ⊎ Contains after o
  pub after_is : (o : Answer) → Contains after o → Contains came o ⊎ Contains before o
  pub keys : (o : Answer) → Contains went o
      → Contains (keys_in came) o.observation.key ⊎ Contains lost o.observation.key

-- the answer, if there is one, as a list
abbrev pub listed : Option Answer → List Answer
listed None = []
listed (Some o) = o ∷ []

-- what was observed of a part, if there is one
abbrev pub seen_of : Option Kept → List Answer
seen_of None = []
seen_of (Some p) = p.seen

-- what was observed of parts
abbrev pub seen_of_all : List Kept → List Answer
seen_of_all parts = flat_map (λ (p : Kept). p.seen) parts

-- whether an answer is to one of these keys
abbrev pub is_to : List Key → Answer → Bool
is_to keys o = list_any (is_key o.observation.key) keys

-- the answers to these keys
abbrev pub answers_to : List Key → List Answer → List Answer
answers_to keys answers = filter (is_to keys) answers

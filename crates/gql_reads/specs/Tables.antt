-- A table of what was observed of fragments and of types, each under its name, and of answers, each
-- under its key.
use Rattle.std.specs.Prelude.{◌≡◌, ℕ, List, [], Option, Some, bytes_eq}
use Rattle.std.specs.Map.{lookup}
use Rattle.gql_facts.specs.Keys.{is_key}
use Rattle.gql_facts.specs.declared.fact.Fact.TheVariants as fact
use Rattle.gql_facts.specs.declared.key.Key.{Key}
use Rattle.gql_facts.specs.declared.key.Key.TheVariants as key
use Rattle.gql_facts.specs.Worlds.{Facts}
use Rattle.gql_reads.specs.Leading.{AreTypes, IsLed}
use Rattle.gql_reads.specs.Observations.{Hold, observed, observed_in}
use Rattle.gql_reads.specs.Records.{Kept}
use Rattle.gql_reads.specs.declared.observation.Answer.{Answer}
use Rattle.gql_reads.specs.declared.observation.TypeAnswers.{TypeAnswers}

-- the entries: parts of fragments, each under a name, answers, each under a key, and what is known of
-- types, each under a name
pub record Entries : Type 0 where
  pub parts : List (List ℕ × Kept)
  pub answers : List (Key × Answer)
  pub types : List (List ℕ × TypeAnswers)

-- no entries
abbrev pub no_entries : Entries
no_entries = record { parts = []; answers = []; types = [] }

-- the entry of a name
abbrev pub entry_at : Entries → List ℕ → Option Kept
entry_at entries n = lookup (bytes_eq n) entries.parts

-- the answer of a key
abbrev pub answer_at : Entries → Key → Option Answer
answer_at entries k = lookup (is_key k) entries.answers

-- the name is that of the fragment, and what was observed of it holds
abbrev pub Holds : Facts → List ℕ → Kept → Type 0
Holds facts n k =
    (facts (key.FragmentOf n) ≡ fact.Fragment k.fragment) × Hold facts (observed_in k.seen)

-- the answer to a key, with exactly the types that it leads to
pub record IsAnswer (facts : Facts) (k : Key) (a : Answer) : Type 0 where
  pub key : a.observation.key ≡ k
  pub hold : Hold facts (observed a)
  pub led : IsLed a

-- all entries hold
pub record AllHold (facts : Facts) (entries : Entries) : Type 0 where
  pub each : (n : List ℕ) (k : Kept) → entry_at entries n ≡ Some k → Holds facts n k
  pub answers : (k : Key) (a : Answer) → answer_at entries k ≡ Some a → IsAnswer facts k a
  pub types : AreTypes facts entries.types

-- each entry is still there, as it was
abbrev pub Keeps : Entries → Entries → Type 0
Keeps old new =
    (n : List ℕ) (k : Kept) → entry_at old n ≡ Some k → entry_at new n ≡ Some k

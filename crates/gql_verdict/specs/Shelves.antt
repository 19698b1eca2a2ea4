-- What a shelf of verdicts answers, and what an edit examines.
use Rattle.std.specs.Prelude.{◌≡◌, ◌≢◌, ◌⊎◌, List, [], ◌∷◌, ◌++◌, map, filter, Bool, Contains, Option, Some, None, MatchOption}
use Rattle.std.specs.List.{AllPairs, list_any}
use Rattle.gql_ast.specs.Trees.{id_of}
use Rattle.gql_ast.specs.declared.definition.Definition.{Definition}
use Rattle.gql_ast.specs.declared.definition.DefinitionId.{DefinitionId}
use Rattle.gql_ast.specs.declared.fault.Fault.{Fault}
use Rattle.gql_facts.specs.Keys.{is_key}
use Rattle.gql_facts.specs.Members.{Lists}
use Rattle.gql_facts.specs.Reads.{Reads}
use Rattle.gql_facts.specs.Worlds.{Facts}
use Rattle.gql_facts.specs.declared.fact.FragmentFact.{FragmentFact}
use Rattle.gql_facts.specs.declared.key.Key.{Key}
use Rattle.gql_merge.specs.Between.{name_of}
use Rattle.gql_merge.specs.ByFragments.{IsPairOf}
use Rattle.gql_pairs.specs.Groups.{KeptGroup}
use Rattle.gql_pairs.specs.Tables.{HasPair}
use Rattle.gql_verdict.specs.Faults.{IsFaultIn}
use Rattle.gql_verdict.specs.Verdicts.{Judgement}
use Rattle.gql_reads.specs.Observations.{Hold, IsBroken, keys_of}
use Rattle.gql_reads.specs.declared.observation.Observation.{Observation}

-- what is on a shelf: verdicts, and what is kept of pairs of fragments
pub record Shelved : Type 0 where
  pub verdicts : List Judgement
  pub pairs : List KeptGroup

-- a shelf with nothing on it
abbrev pub nothing_shelved : Shelved
nothing_shelved = record { verdicts = []; pairs = [] }

-- ---- what a shelf answers

-- the definitions that have a verdict
abbrev pub defs : List Judgement → List Definition
defs shelf = map (λ (v : Judgement). v.def) shelf

-- One verdict for each definition, in the order of the definitions. Each holds, and observed exactly
-- the keys that its definition reads.
pub record IsCurrent (facts : Facts) (definitions : List Definition) (shelf : List Judgement)
    : Type 0 where
  pub each : defs shelf ≡ definitions
  pub holds : (v : Judgement) → Contains shelf v → Hold facts v.observations
  pub keys : (v : Judgement) → Contains shelf v
      → Lists (keys_of v.observations) (Reads facts v.def)

-- a verdict on d that holds, and that observed exactly the keys that d reads
pub record Serves (facts : Facts) (d : Definition) (v : Judgement) : Type 0 where
  pub def : v.def ≡ d
  pub holds : Hold facts v.observations
  pub keys : Lists (keys_of v.observations) (Reads facts d)

-- the verdict on the definition of that name, or none if there is no verdict on such a definition
abbrev pub IsVerdictAt : List Judgement → DefinitionId → Option Judgement → Type 0
IsVerdictAt shelf id found = MatchOption found
    ((v : Judgement) → Contains shelf v → id_of v.def ≡ id → ⊥)
    (λ v. Contains shelf v × (id_of v.def ≡ id))

-- For a definition that is present, the answer is its verdict, which holds and observed exactly what
-- the definition reads. If there is no such definition, the answer is none.
pub record Answers (facts : Facts) (definitions : List Definition) (id : DefinitionId)
    (answer : Option Judgement) : Type 0 where
  pub present : (d : Definition) → Contains definitions d → id_of d ≡ id
      → (v : Judgement) × (answer ≡ Some v) × Serves facts d v
  pub absent : ((d : Definition) → Contains definitions d → id_of d ≡ id → ⊥) → answer ≡ None

-- a fault of one of these definitions
abbrev pub IsFaultOfAny : Facts → List Definition → Fault → Type 0
IsFaultOfAny facts definitions f =
    (d : Definition) × Contains definitions d × IsFaultIn facts d f

-- ---- who reads a key

-- whether a verdict observes a key
abbrev pub observes : Key → Judgement → Bool
observes k v = list_any (λ (o : Observation). is_key o.key k) v.observations

-- the definitions whose verdicts observe a key, in the order of the verdicts
abbrev pub readers_of : Key → List Judgement → List DefinitionId
readers_of k shelf = map (λ (v : Judgement). id_of v.def) (filter (observes k) shelf)

-- ---- what an edit examines

-- a definition is due if no verdict on it is kept, place included, or if one is kept with an
-- observation that does not hold
abbrev pub IsDue : Facts → List Judgement → Definition → Type 0
IsDue facts kept d = ((v : Judgement) → Contains kept v → v.def ≡ d → ⊥)
    ⊎ ((v : Judgement) × Contains kept v × (v.def ≡ d) × IsBroken facts v.observations)

-- the first are some of the second, in their order, each position at most once
pub data Picks : List Definition → List Definition → Type 0 where
  pick_none : Picks [] []
  skip : {xs ys : List Definition} (y : Definition) → Picks xs ys → Picks xs (ys ++ y ∷ [])
  pick : {xs ys : List Definition} (y : Definition) → Picks xs ys
      → Picks (xs ++ y ∷ []) (ys ++ y ∷ [])

-- the meter has only gained entries at its end: for definitions that were due
pub record IsDueWork (facts : Facts) (kept : List Judgement) (definitions : List Definition)
    (old new : List DefinitionId) : Type 0 where
  pub work : List Definition
  pub picks : Picks work definitions
  pub entries : new ≡ old ++ map id_of work
  pub due : (d : Definition) → Contains work d → IsDue facts kept d

-- the meter has only gained entries at its end: for definitions that were due, each at most once, as
-- no two of them have the same file and offset
pub record IsWork (facts : Facts) (kept : List Judgement) (definitions : List Definition)
    (old new : List DefinitionId) : Type 0 where
  pub does : IsDueWork facts kept definitions old new
  pub once : AllPairs (λ (d e : Definition). id_of d ≢ id_of e) does.work

-- each definition that is due is among those that were examined
abbrev pub IsAllDue : Facts → List Judgement → List Definition → List Definition → Type 0
IsAllDue facts kept definitions work = (d : Definition) → Contains definitions d
    → IsDue facts kept d → Contains work d

-- the meter has gained entries for exactly the definitions that were due
abbrev pub IsWholeDueWork : Facts → List Judgement → List Definition → List DefinitionId
    → List DefinitionId → Type 0
IsWholeDueWork facts kept definitions old new = (does : IsDueWork facts kept definitions old new)
    × IsAllDue facts kept definitions does.work

-- the meter has only gained entries at its end: for exactly the definitions that were due, each once
pub record IsWholeWork (facts : Facts) (kept : List Judgement) (definitions : List Definition)
    (old new : List DefinitionId) : Type 0 where
  pub works : IsWork facts kept definitions old new
  pub all : IsAllDue facts kept definitions works.does.work

-- a definition that is due gives the meter its entry; another one gives it none
abbrev pub IsStepWork : Facts → List Judgement → Definition → List DefinitionId → List DefinitionId
    → Type 0
IsStepWork facts kept d old new = ((IsDue facts kept d → ⊥) × (new ≡ old))
    ⊎ (IsDue facts kept d × (new ≡ old ++ id_of d ∷ []))

-- ---- what is kept of pairs of fragments

-- an entry is kept for each two fragments that a set of the definition spreads
abbrev pub HasPairsOf : Facts → List KeptGroup → Definition → Type 0
HasPairsOf facts pairs d = (g h : FragmentFact) → IsPairOf facts d g h
    → HasPair pairs (name_of g) (name_of h)

-- an entry is kept for each two fragments that a set of a definition spreads which was due
abbrev pub HasDuePairs : Facts → List Judgement → List Definition → List KeptGroup → Type 0
HasDuePairs facts kept definitions pairs = (d : Definition) → Contains definitions d
    → IsDue facts kept d → HasPairsOf facts pairs d

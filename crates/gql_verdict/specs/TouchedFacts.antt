-- Which facts and which definitions an edit may have changed.
use Rattle.std.specs.Prelude.{◌≡◌, ◌||◌, List, Contains, Bool, true, false, bytes_eq, find, is_some}
use Rattle.gql_ast.specs.declared.definition.Definition.{Definition}
use Rattle.gql_facts.specs.Worlds.{Facts}
use Rattle.gql_facts.specs.declared.key.Key.{Key}
use Rattle.gql_facts.specs.declared.key.Key.TheVariants as key
use Rattle.gql_pairs.specs.Doubts.{is_root_field}
use Rattle.gql_pairs.specs.Groups.{KeptGroup}
use Rattle.gql_pairs.specs.Tables.{AllHold}
use Rattle.gql_verdict.specs.Shelves.{defs}
use Rattle.gql_reads.specs.Observations.{Hold}
use Rattle.gql_verdict.specs.Verdicts.{Judgement}
use Rattle.gql_reads.specs.declared.observation.Observation.{Observation}
use Rattle.gql_verdict.specs.declared.touched.Touched.{Touched}
use Rattle.gql_verdict.specs.declared.touched.Touched.TheVariants as touched

-- Whether the answer to this key may have changed. An edit of a schema file changes what is known of
-- the types of some names. It also changes directives, root operation types, and on which type the
-- fields `__schema` and `__type` are. It changes no fragments.
abbrev pub touches : Touched → Key → Bool
touches touched.All k = true
touches (touched.File edit) (key.FragmentOf n) = is_some (find (bytes_eq n) edit.fragments)
touches (touched.File edit) _ = false
touches (touched.Schema edit) (key.KindOf t) = is_some (find (bytes_eq t) edit.types)
touches (touched.Schema edit) (key.FieldOf t n) =
    is_some (find (bytes_eq t) edit.types) || is_root_field n
touches (touched.Schema edit) (key.PossibleOf t) = is_some (find (bytes_eq t) edit.types)
touches (touched.Schema edit) (key.InputOf t) = is_some (find (bytes_eq t) edit.types)
touches (touched.Schema edit) (key.EnumOf t) = is_some (find (bytes_eq t) edit.types)
touches (touched.Schema edit) (key.DirectiveOf n) = true
touches (touched.Schema edit) (key.RootOf k) = true
touches (touched.Schema edit) (key.FragmentOf n) = false

-- whether this definition may have changed: every one may, or only those of the edited document file
abbrev pub touches_definition : Touched → Definition → Bool
touches_definition touched.All d = true
touches_definition (touched.File edit) d = bytes_eq d.file edit.file
touches_definition (touched.Schema edit) d = false

-- these observations hold, of those whose answers may have changed
abbrev pub HoldWhere : Facts → Touched → List Observation → Type 0
HoldWhere facts t observations = (o : Observation) → Contains observations o
    → touches t o.key ≡ true → facts o.key ≡ o.fact

-- the facts before an edit: every verdict that is kept held, and no answer has changed but those
-- that are touched
pub record IsEarlier (facts : Facts) (kept : List Judgement) (t : Touched) (before : Facts)
    : Type 0 where
  pub held : (v : Judgement) → Contains kept v → Hold before v.observations
  pub unchanged : (k : Key) → touches t k ≡ false → facts k ≡ before k

-- this definition, if it is not touched, has a verdict that is kept, place included
abbrev pub IsOtherKept : Definition → List Judgement → Touched → Type 0
IsOtherKept d kept t = touches_definition t d ≡ false → Contains (defs kept) d

-- every definition that is not touched has a verdict that is kept, place included
abbrev pub AreOthersKept : List Definition → List Judgement → Touched → Type 0
AreOthersKept definitions kept t = (d : Definition) → Contains definitions d
    → IsOtherKept d kept t

-- What is known of an edit that leaves these facts and these definitions: there were such facts
-- before it, and each definition that is not touched has a verdict. Nothing is known of an edit that
-- may have changed everything.
abbrev pub IsKnown : Facts → List Definition → List Judgement → Touched → Type 0
IsKnown facts definitions kept touched.All = Unit {0}
IsKnown facts definitions kept (touched.File edit) =
    AreOthersKept definitions kept (touched.File edit)
    × (before : Facts) × IsEarlier facts kept (touched.File edit) before
IsKnown facts definitions kept (touched.Schema edit) =
    AreOthersKept definitions kept (touched.Schema edit)
    × (before : Facts) × IsEarlier facts kept (touched.Schema edit) before

-- What is known of pairs of fragments before an edit: there were such facts, in which all entries
-- held, and no answer has changed but those that are touched. Nothing is known of an edit that may
-- have changed everything.
abbrev pub ArePairsKnown : Facts → List KeptGroup → Touched → Type 0
ArePairsKnown facts pairs touched.All = Unit {0}
ArePairsKnown facts pairs (touched.File edit) = (before : Facts) × AllHold before pairs
    × ((k : Key) → touches (touched.File edit) k ≡ false → facts k ≡ before k)
ArePairsKnown facts pairs (touched.Schema edit) = (before : Facts) × AllHold before pairs
    × ((k : Key) → touches (touched.Schema edit) k ≡ false → facts k ≡ before k)

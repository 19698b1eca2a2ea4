-- Which answers may have changed since a table was made.
use Rattle.std.specs.Prelude.{◌≡◌, ◌||◌, ℕ, List, Contains, Bool, true, false, bytes_eq, codes, find, is_some}
use Rattle.gql_facts.specs.Worlds.{Facts}
use Rattle.gql_facts.specs.declared.key.Key.{Key}
use Rattle.gql_facts.specs.declared.key.Key.TheVariants as key
use Rattle.gql_reads.specs.declared.observation.Observation.{Observation}
use Rattle.gql_pairs.specs.Fragments.{KeptFragment}
use Rattle.gql_pairs.specs.Groups.{KeptGroup}
use Rattle.gql_pairs.specs.declared.doubt.Doubt.{Doubt}
use Rattle.gql_pairs.specs.declared.doubt.Doubt.TheVariants as doubt

-- whether a name is one of these
abbrev pub is_one : List (List ℕ) → List ℕ → Bool
is_one names n = is_some (find (bytes_eq n) names)

-- whether this is the name of a field that only the query root has, whether or not it is defined
abbrev pub is_root_field : List ℕ → Bool
is_root_field n = bytes_eq n (codes "__schema") || bytes_eq n (codes "__type")

-- Whether the answer to this key may have changed. An edit of a schema file that changes types of
-- these names changes what is known of these types, and of the query root, directives and root
-- operation types. It changes no fragments.
abbrev pub in_doubt : Doubt → Key → Bool
in_doubt doubt.All k = true
in_doubt (doubt.Fragments names) (key.FragmentOf n) = is_one names n
in_doubt (doubt.Fragments names) _ = false
in_doubt (doubt.Types names) (key.KindOf t) = is_one names t
in_doubt (doubt.Types names) (key.FieldOf t n) = is_one names t || is_root_field n
in_doubt (doubt.Types names) (key.PossibleOf t) = is_one names t
in_doubt (doubt.Types names) (key.InputOf t) = is_one names t
in_doubt (doubt.Types names) (key.EnumOf t) = is_one names t
in_doubt (doubt.Types names) (key.DirectiveOf n) = true
in_doubt (doubt.Types names) (key.RootOf k) = true
in_doubt (doubt.Types names) (key.FragmentOf n) = false

-- these observations hold, of those whose answers have not changed
abbrev pub HoldUndoubted : Facts → Doubt → List Observation → Type 0
HoldUndoubted facts d observations = (o : Observation) → Contains observations o
    → in_doubt d o.key ≡ false → facts o.key ≡ o.fact

-- so do those of these members
abbrev pub MembersHoldUndoubted : Facts → Doubt → List KeptFragment → Type 0
MembersHoldUndoubted facts d members =
    (x : KeptFragment) → Contains members x → HoldUndoubted facts d x.observations

-- so do those of all members of groups
abbrev pub AllHoldUndoubted : Facts → Doubt → List KeptGroup → Type 0
AllHoldUndoubted facts d table =
    (x : KeptGroup) → Contains table x → MembersHoldUndoubted facts d x.members

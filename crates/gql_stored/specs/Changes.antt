-- Helper definitions for private contracts: a change to a list in the data.
use Rattle.std.specs.Prelude.{◌≡◌, ◌+◌, ◌-◌, ◌≤◌, ◌⊎◌, ℕ, List, [], Vec, vec_len, vec_capacity, String, string_bytes, Option, Some, None, IfSome, MatchOption, codes, option_and_then}
use Rattle.std.specs.Cmp.Lexicographic.{slice_cmp}
use Rattle.std.specs.Global.{Global}
use Rattle.std.specs.BTreeMap.{BTreeMap, get_by_text, is_at}
use Rattle.std.specs.Map.{set_value}
use Rattle.std.specs.Ordering.{nat_cmp}
use Rattle.serde_json.specs.Data.{Data}
use Rattle.serde_json.specs.Find.{as_array}
use Rattle.serde_json.specs.Events.{items_len}
use Rattle.serde_json.specs.View.{view}
use Rattle.serde_json.specs.declared.value.Value.{Value, out-Value}
use Rattle.serde_json.specs.declared.value.Value.TheOpen.{Value-F}
use Rattle.gql_stored.specs.Effects.{with_last}
use Rattle.gql_stored.specs.declared.change.Change.{Change}
use Rattle.gql_stored.specs.declared.change.Change.TheVariants as change

-- ---- lists and objects, with their capacity

-- the members of an object
abbrev pub Entries : Type 0
Entries = BTreeMap (String Global) Value

-- the list that this is
abbrev pub list_at : Value-F Value → Option (Vec Value Global)
list_at Value-F.Null = None
list_at (Value-F.Bool b) = None
list_at (Value-F.Number x) = None
list_at (Value-F.String s) = None
list_at (Value-F.Array v) = Some v
list_at (Value-F.Object m) = None

-- the object that this is
abbrev pub members_at : Value-F Value → Option Entries
members_at Value-F.Null = None
members_at (Value-F.Bool b) = None
members_at (Value-F.Number x) = None
members_at (Value-F.String s) = None
members_at (Value-F.Array v) = None
members_at (Value-F.Object m) = Some m

-- the list that a value is, with its capacity
abbrev pub list_in : Value → Option (Vec Value Global)
list_in v = list_at (out-Value v)

-- the object that a value is
abbrev pub members_in : Value → Option Entries
members_in v = members_at (out-Value v)

-- if a value is a list, it takes n more items without an allocation
abbrev pub HasRoom : ℕ → Value → Type 0
HasRoom n v = IfSome (list_in v) (λ l. n ≤ vec_capacity l - vec_len l)

-- the member of this name, if a value is an object that has one
abbrev pub member_of : List ℕ → Value → Option Value
member_of k v = option_and_then (λ (m : Entries). get_by_text m k) (members_in v)

-- the list of this name, with its capacity, if the data have one
abbrev pub list_of : List ℕ → Value → Option (Vec Value Global)
list_of to v =
    option_and_then list_in (option_and_then (member_of to) (member_of (codes "query") v))

-- if a value is an object with a member of this name, this holds of the member
abbrev pub IfMember : List ℕ → (Value → Type 0) → Value → Type 0
IfMember k holds v = IfSome (member_of k v) holds

-- if the data have a list of this name, this holds of it
abbrev pub IfList : List ℕ → (Value → Type 0) → Value → Type 0
IfList to holds v = IfMember (codes "query") (IfMember to holds) v

-- ---- changes

-- a list after a change
abbrev pub change_of : Change → Data → Data
change_of (change.Move b) d = d
change_of (change.Add v) d = with_last (view v) d

-- if a value is a list, a buffer takes its items and n more
abbrev pub Takes : Vec Value Global → ℕ → Data → Type 0
Takes b n d = IfSome (as_array d) (λ ds. items_len ds + n ≤ vec_capacity b)

-- a list takes n more items without an allocation after a change
abbrev pub LeavesRoom : Change → ℕ → Value → Type 0
LeavesRoom (change.Move b) n v = HasRoom n v ⊎ Takes b n (view v)
LeavesRoom (change.Add x) n v = HasRoom (n + 1) v

-- a change takes no memory
abbrev pub IsReady : Change → Value → Type 0
IsReady (change.Move b) v = b.items ≡ []
IsReady (change.Add x) v = HasRoom 1 v

-- a value before and after a change
abbrev pub IsChanged : Change → Value → Value → Type 0
IsChanged c old new = (view new ≡ change_of c (view old))
    × ((n : ℕ) → LeavesRoom c n old → HasRoom n new)

-- members, where this holds of the member of this name before and after
abbrev pub AreChangedAt : List ℕ → (Value → Value → Type 0) → Entries → Entries → Type 0
AreChangedAt k holds old new = MatchOption (get_by_text old k) (new.entries ≡ old.entries)
    (λ v. (w : Value) × holds v w
    × (new.entries ≡ set_value (is_at (λ q. slice_cmp nat_cmp k (string_bytes q))) old.entries w))

-- an object, where this holds of the member of this name before and after
abbrev pub IsChangedAt : List ℕ → (Value → Value → Type 0) → Value → Value → Type 0
IsChangedAt k holds old new = MatchOption (members_in old) (new ≡ old)
    (λ m. (n : Entries) × AreChangedAt k holds m n × (members_in new ≡ Some n))

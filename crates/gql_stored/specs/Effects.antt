-- What mutations add to the data, which is this registry's own rule: a value at the end of a list.
-- The data's member `query` has the list under its name.
use Rattle.std.specs.Prelude.{ℕ, List, [], ◌∷◌, bytes_eq, codes, Option, option_and_then, if◌then◌else◌}
use Rattle.serde_json.specs.Data as json
use Rattle.serde_json.specs.Data.{Data, Items, no_items, item, Members, no_members, member}
use Rattle.serde_json.specs.Find.{as_array, get}

-- an effect of a mutation: a value that is added at the end of the list of this name
pub record Effect : Type 0 where
  pub to : List ℕ
  pub value : Data

-- the list of this name in the data, if they have one
abbrev pub list_named : List ℕ → Data → Option Items
list_named to d = option_and_then as_array (option_and_then (get to) (get (codes "query") d))

-- ---- data with an effect

-- items, and a value after them
abbrev pub with_end : Data → Items → Items
with_end v no_items = item v no_items
with_end v (item d ds) = item d (with_end v ds)

-- a list, with a value at its end; any other value stays as it is
abbrev pub with_last : Data → Data → Data
with_last v (json.array ds) = json.array (with_end v ds)
with_last v d = d

-- members, with f done to the value of the one of the name k
abbrev pub changed : List ℕ → (Data → Data) → Members → Members
changed k f no_members = no_members
changed k f (member l d ms) =
    if bytes_eq k l then member l (f d) ms else member l d (changed k f ms)

-- an object, with f done to the value of its member k; any other value stays as it is
abbrev pub with_changed : List ℕ → (Data → Data) → Data → Data
with_changed k f (json.object ms) = json.object (changed k f ms)
with_changed k f d = d

-- data with an effect; data that have no such list stay as they are
abbrev pub appended : Effect → Data → Data
appended e d = with_changed (codes "query") (with_changed e.to (with_last e.value)) d

-- data after these effects, one after the other
abbrev pub after : List Effect → Data → Data
after [] d = d
after (e ∷ es) d = after es (appended e d)

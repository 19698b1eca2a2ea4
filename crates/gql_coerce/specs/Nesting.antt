-- Helper definitions for private contracts: how deep a value nests, as far as it is kept with the
-- value.
use Rattle.std.specs.Prelude.{ℕ, ◌≤◌, ◌-◌, ◌^◌, ◌⊎◌, Bool, true, false}
use Rattle.serde_json.specs.Data.{Data, null, boolean, number, string, array, object, no_items, item, no_members, member, depth}

-- whether a value is a list or an object that has a part
abbrev pub has_part : Data → Bool
has_part null = false
has_part (boolean b) = false
has_part (number n) = false
has_part (string s) = false
has_part (array no_items) = false
has_part (array (item d ds)) = true
has_part (object no_members) = false
has_part (object (member k d ms)) = true

-- A value has at most so many levels of lists and objects. The largest number stands for any number
-- of levels.
abbrev pub NestsWithin : Data → ℕ → Type 0
NestsWithin d levels = (depth d ≤ levels) ⊎ (2 ^ 64 - 1 ≤ levels)

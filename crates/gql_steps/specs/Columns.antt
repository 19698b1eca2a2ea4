-- Helper definitions for private contracts: prints, by which most values that differ are told apart,
-- and columns of prints, by which items that do not meet arguments are passed over.
use Rattle.std.specs.Prelude.{◌≡◌, ℕ, ◌+◌, ◌*◌, ◌-◌, ◌%◌, ◌^◌, ◌<◌, ◌≢◌, List, [], map, fold, length, slice_index_or, to_bits, false, Float, if◌then◌else◌, string_bytes}
use Rattle.std.specs.Float.{binary64, merge_zeros}
use Rattle.std.specs.List.{All}
use Rattle.serde_json.specs.Data as json
use Rattle.serde_json.specs.Data.{Data, Members}
use Rattle.serde_json.specs.Find.{to_float}
use Rattle.serde_json.specs.View.{view}
use Rattle.gql_steps.specs.Resolution.{list_of, meets, member_or_null}
use Rattle.gql_steps.specs.declared.columns.Column.{Column}
use Rattle.gql_steps.specs.declared.columns.Columns.{Columns}
use Rattle.gql_steps.specs.declared.filter.Test.{Test}
use Rattle.gql_steps.specs.declared.resolve.Member.{Member}

-- ---- prints

-- a print, with one more byte in it
unfoldable pub mixed : ℕ → ℕ → ℕ
mixed print byte = ((print * 1099511628211) % 2 ^ 64 + byte) % 2 ^ 64

-- the print of a text: its length, and its bytes
abbrev pub print_of_text : List ℕ → ℕ
print_of_text text = fold mixed (length text) text

-- the print of what is not compared by it
abbrev pub other_print : ℕ
other_print = 2 ^ 64 - 4

-- the print of a double: its bits, and those of 0 for -0
abbrev pub print_of_real : Float → ℕ
print_of_real x = merge_zeros binary64 (to_bits binary64 x)

-- the print of a value; values that are the same have the same one
abbrev pub print_of : Data → ℕ
print_of json.null = 2 ^ 64 - 1
print_of (json.boolean truth) = if truth then 2 ^ 64 - 2 else 2 ^ 64 - 3
print_of (json.number n) = print_of_real (to_float n)
print_of (json.string text) = print_of_text text
print_of _ = other_print

-- ---- columns

-- the items of a value that is a list
abbrev pub items_in : Data → List Data
items_in (json.array ds) = list_of ds
items_in _ = []

-- the prints of the member of this name of these items
abbrev pub prints_in : List ℕ → List Data → List ℕ
prints_in name items = map (λ item. print_of (member_or_null name item)) items

-- a column has the prints of its member of the items of its list, which is a member of this object
abbrev pub IsColumnOf : Data → Column → Type 0
IsColumnOf whole c = c.prints.items
    ≡ prints_in (string_bytes c.name) (items_in (member_or_null (string_bytes c.list) whole))

-- the columns are those of this object
abbrev pub AreColumnsOf : Data → Columns → Type 0
AreColumnsOf whole cs = All (IsColumnOf whole) cs.columns.items

-- ---- tests

-- an item of these whose print differs from that of the test does not meet the arguments
abbrev pub IsTestOf : Members → List Data → Test → Type 0
IsTestOf arguments items t = (i : ℕ) → i < length t.prints.now
    → slice_index_or t.prints.now i 0 ≢ t.print
    → meets arguments (slice_index_or items i json.null) ≡ false

-- the same of each of these tests
abbrev pub AreTestsOf : Members → List Data → List Test → Type 0
AreTestsOf arguments items ts = All (IsTestOf arguments items) ts

-- ---- members

-- this is the member of its name of its object
abbrev pub IsMember : Member → Type 0
IsMember m = member_or_null m.name.now (view m.object.now) ≡ view m.value.now

-- A text of parts, cut where it would be too long.
use Rattle.std.specs.Prelude.{ℕ, ◌≡◌, ◌≤◌, List, [], ◌∷◌, ◌++◌, Bool, true, false, length, take, drop, codes, count_by, option_map, unwrap_or, slice_get, string_bytes, ◌-◌}
use Rattle.std.specs.List.{flat_map}
use Rattle.gql_render.specs.Phrases.{count_text}
use Rattle.gql_page.specs.declared.cut.Entry.{Entry}
use Rattle.gql_page.specs.declared.cut.Entry.TheVariants.{Fault, Operation, Other}
use Rattle.gql_page.specs.declared.cut.Part.{Part}

-- whether this is a fault
abbrev pub is_fault : Entry → Bool
is_fault (Fault place) = true
is_fault (Operation place) = false
is_fault Other = false

-- whether this is an operation
abbrev pub is_operation : Entry → Bool
is_operation (Fault place) = false
is_operation (Operation place) = true
is_operation Other = false

-- whether a part tells of a fault
abbrev pub is_of_fault : Part → Bool
is_of_fault p = is_fault p.entry

-- whether a part tells of an operation
abbrev pub is_of_operation : Part → Bool
is_of_operation p = is_operation p.entry

-- the text of a part
abbrev pub text_of : Part → List ℕ
text_of p = string_bytes p.text

-- what has to follow where the whole ends after these parts: what the last of them asks for
abbrev pub closing : List Part → List ℕ
closing parts =
    unwrap_or (option_map (λ p. p.closing.now) (slice_get parts (length parts - 1))) []

-- how many faults and operations are left out with these parts
unfoldable pub left_text : List Part → List ℕ
left_text parts = codes "\nand " ++ count_text (count_by is_of_fault parts) (codes "more fault")
    ++ codes ", " ++ count_text (count_by is_of_operation parts) (codes "more operation")
    ++ codes "\n"

-- what is said of parts that are left out; nothing where there are none
abbrev pub rest_text : List Part → List ℕ
rest_text [] = []
rest_text (p ∷ ps) = left_text (p ∷ ps)

-- the text of the first parts, so many, whole, and what is said of the others
abbrev pub cut_text : List Part → ℕ → List ℕ
cut_text parts n = flat_map text_of (take n parts) ++ closing (take n parts)
    ++ rest_text (drop n parts)

-- The text is that of the first parts, whole, and it counts the others; it has at most 65,536 bytes.
-- None is left out where the text of all of them has no more.
pub record IsCut (parts : List Part) (text : List ℕ) : Type 0 where
  pub kept : ℕ
  pub within : kept ≤ length parts
  pub whole : text ≡ cut_text parts kept
  pub short : length text ≤ 65536
  pub needed : length (cut_text parts (length parts)) ≤ 65536 → kept ≡ length parts

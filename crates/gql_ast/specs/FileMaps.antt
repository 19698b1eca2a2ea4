-- Finite maps from the names of files.
use Rattle.std.specs.Prelude.{ℕ, List, Option}
use Rattle.std.specs.Ordering.{nat_cmp}
use Rattle.std.specs.Cmp.Lexicographic.{slice_cmp}
use Rattle.std.specs.declared.cmp.Ordering.{Ordering}
use Rattle.std.specs.BTreeMap.{insert_entry, is_at}
use Rattle.std.specs.Map.{lookup, remove_entry}

-- the order of names, by their bytes
abbrev pub name_order : List ℕ → List ℕ → Ordering
name_order = slice_cmp nat_cmp

module _ {T : Type 0} where
  -- the value of the file of this name, if there is one
  abbrev pub file_named : List (List ℕ × T) → List ℕ → Option T
  file_named files name = lookup (is_at (name_order name)) files

  -- the map with this file; it replaces a file of the same name
  abbrev pub with_file : List (List ℕ × T) → List ℕ → T → List (List ℕ × T)
  with_file = insert_entry name_order

  -- the map without the file of this name
  abbrev pub without_file : List (List ℕ × T) → List ℕ → List (List ℕ × T)
  without_file files name = remove_entry (is_at (name_order name)) files

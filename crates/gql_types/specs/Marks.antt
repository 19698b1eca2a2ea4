-- Helper definitions for private contracts: marks, one for each thing of a list.
use Rattle.std.specs.Prelude.{ℕ, List, Bool, true, Option, None, Some, slice_set}

-- with the mark at a place, if there is one
abbrev pub with_mark : Option ℕ → List Bool → List Bool
with_mark None marks = marks
with_mark (Some place) marks = slice_set marks place true

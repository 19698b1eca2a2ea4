-- The texts of paths.
use Rattle.std.specs.Prelude.{ℕ, List, [], ◌∷◌, ◌++◌, codes, decimal}
use Rattle.gql_coerce.specs.declared.refusal.Segment.{Segment}
use Rattle.gql_coerce.specs.declared.refusal.Segment.TheVariants as segment

-- a text and a key, with a point between them unless the text is empty
abbrev pub with_key : List ℕ → List ℕ → List ℕ
with_key [] key = key
with_key (c ∷ text) key = (c ∷ text) ++ (codes "." ++ key)

-- a text and an index in brackets
abbrev pub with_index : List ℕ → ℕ → List ℕ
with_index text index = text ++ (codes "[" ++ (decimal index ++ codes "]"))

-- a text and the segment after it
abbrev pub with_segment : List ℕ → Segment → List ℕ
with_segment text (segment.Key key) = with_key text key
with_segment text (segment.Index index) = with_index text index

-- a text and the path after it
abbrev pub path_from : List ℕ → List Segment → List ℕ
path_from text [] = text
path_from text (g ∷ path) = path_from (with_segment text g) path

-- the text of a path
abbrev pub path_text : List Segment → List ℕ
path_text path = path_from [] path

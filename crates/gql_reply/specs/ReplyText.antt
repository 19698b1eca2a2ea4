-- The text of an answer (GraphQL 7.1): its errors, if there are any, and its data, unless it is a
-- request error.
use Rattle.std.specs.Prelude.{ℕ, List, [], ◌∷◌, ◌++◌, map, codes, Option, Some, None}
use Rattle.gql_text.specs.declared.place.Place.{Place}
use Rattle.serde_json.specs.Data as json
use Rattle.serde_json.specs.Data.{Data, item, no_items, Members, member, no_members}
use Rattle.serde_json.specs.View.{items_of}
use Rattle.serde_json.specs.Written.{compact_text}
use Rattle.gql_steps.specs.Outcomes.{AnError, AnOutcome}
use Rattle.gql_steps.specs.Replies.{Segment, key, index, Path}

-- ---- errors (7.1.2)

-- a number of JSON
abbrev pub number : ℕ → Data
number n = json.number (json.unsigned n)

-- the location of an error: a line and a column
abbrev pub location : Place → Data
location p = json.object (member (codes "line") (number p.line)
    (member (codes "column") (number p.column) no_members))

-- a segment of a path: a response name, or the index of an item
abbrev pub step : Segment → Data
step (key name) = json.string name
step (index i) = number i

-- the path of a field error
abbrev pub path : Path → Data
path p = json.array (items_of (map step p))

-- the member `path` of an error; a request error has none
abbrev pub path_member : Option Path → Members
path_member None = no_members
path_member (Some p) = member (codes "path") (path p) no_members

-- an error
abbrev pub error : AnError → Data
error e = json.object (member (codes "message") (json.string e.message)
    (member (codes "locations") (json.array (item (location e.place) no_items))
    (path_member e.path)))

-- ---- the answer

-- the member `errors`, if there are any
abbrev pub errors_text : List AnError → List ℕ
errors_text [] = []
errors_text (e ∷ es) =
    codes "\"errors\":" ++ compact_text (json.array (items_of (map error (e ∷ es))))

-- a comma, if there are errors before the data
abbrev pub comma_after : List AnError → List ℕ
comma_after [] = []
comma_after (e ∷ es) = codes ","

-- the member `data`; a request error has none
abbrev pub data_text : List AnError → Option (List ℕ) → List ℕ
data_text errors None = []
data_text errors (Some text) = comma_after errors ++ (codes "\"data\":" ++ text)

-- the text of an answer
abbrev pub reply_text : AnOutcome → List ℕ
reply_text o = codes "{" ++ (errors_text o.errors ++ (data_text o.errors o.text ++ codes "}"))

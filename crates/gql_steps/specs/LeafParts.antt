-- Helper definitions for private contracts: what is written for a leaf.
use Rattle.std.specs.Prelude.{ℕ, List, ◌++◌, codes, Option, Some, None}
use Rattle.gql_text.specs.declared.place.Place.{Place}
use Rattle.serde_json.specs.Data.{Data}
use Rattle.gql_steps.specs.JsonText.{json_text}
use Rattle.gql_steps.specs.Parts.{Part, plain, raise}
use Rattle.gql_steps.specs.Replies.{Path}
use Rattle.gql_steps.specs.declared.leaves.Leaf.{Leaf}

-- what is written for the value of a leaf, or for the error that there is none of the type of this
-- name
abbrev pub leaf_at : List ℕ → Place → Path → Option Data → Part
leaf_at name place path (Some d) = plain (json_text d)
leaf_at name place path None = raise (record {
  message = codes "value is not of type " ++ name;
  place = place;
  path = path;
})

-- what is written for a leaf
abbrev pub leaf_part : Leaf → Path → Option Data → Part
leaf_part leaf path o = leaf_at leaf.name.now leaf.place path o

-- The text of data in JSON, without blanks (GraphQL 7.1): that of `serde_json`, which has none for
-- a double, with the text of `gql_numbers` for that.
use Rattle.std.specs.Prelude.{ℕ, List, [], ◌∷◌, ◌++◌, Bool, true, false, decimal}
use Rattle.std.specs.Fmt.{signed_decimal}
use Rattle.gql_numbers.specs.Doubles.{double_text}
use Rattle.json.specs.Print.{quoted, token_text}
use Rattle.json.specs.Token.{Token}
use Rattle.serde_json.specs.Data as json
use Rattle.serde_json.specs.Data.{Data, Num, Items, no_items, item, Members, no_members, member}
use Rattle.serde_json.specs.Written.{comma_if}

-- the text of a number: the decimal digits of an integer, or the text of a double
abbrev pub number_text : Num → List ℕ
number_text (json.unsigned n) = decimal n
number_text (json.negative z) = signed_decimal z
number_text (json.float x) = double_text x

-- the text of data, without blanks
abbrev mutual
  pub json_text : Data → List ℕ
  json_text json.null = token_text Token.null
  json_text (json.boolean b) = token_text (Token.boolean b)
  json_text (json.number n) = number_text n
  json_text (json.string s) = quoted s
  json_text (json.array ds) = 91 ∷ items_text false ds
  json_text (json.object ms) = 123 ∷ members_text false ms

  -- items with their commas and the closing bracket, by whether something comes before them
  pub items_text : Bool → Items → List ℕ
  items_text later no_items = 93 ∷ []
  items_text later (item d ds) = comma_if later ++ (json_text d ++ items_text true ds)

  -- the same for members
  pub members_text : Bool → Members → List ℕ
  members_text later no_members = 125 ∷ []
  members_text later (member k d ms) =
      comma_if later ++ (quoted k ++ 58 ∷ (json_text d ++ members_text true ms))

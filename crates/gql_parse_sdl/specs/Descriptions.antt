-- Descriptions (3.2).
use Rattle.std.specs.Prelude.{ℕ, List, Option, Some, None}
use Rattle.gql_text.specs.Values.{text_value}
use Rattle.gql_text.specs.declared.place.Place.{Place}
use Rattle.gql_text.specs.declared.token.Kind.{Kind}
use Rattle.gql_text.specs.declared.token.Kind.TheVariants as k
use Rattle.gql_grammar.specs.Symbol.{Phrase, Part, ◌>>=◌, pure, token, by_kind, relaxed}
use Rattle.gql_parse_sdl.specs.declared.description.Description.{Description}

-- Description: StringValue
unfoldable pub string : Phrase (Option Description)
string = do
  t ← token k.StringValue
  pure (Some (record { place = t.place; text = text_value t.text }))

-- Description: StringValue, as a block string
unfoldable pub block_string : Phrase (Option Description)
block_string = do
  t ← token k.BlockString
  pure (Some (record { place = t.place; text = text_value t.text }))

-- Description?, by the kind of the next token
abbrev pub description_by : Kind → Part (Option Description)
description_by k.StringValue = relaxed string
description_by k.BlockString = relaxed block_string
description_by _ = pure None

-- Description?
abbrev pub optional_description : Part (Option Description)
optional_description = by_kind description_by

-- the text of a description, if there is one
abbrev pub text_of : Option Description → Option (List ℕ)
text_of (Some described) = Some described.text
text_of None = None

-- where a definition starts: at its description, or else at its first word
abbrev pub start : Option Description → Place → Place
start (Some described) word = described.place
start None word = word

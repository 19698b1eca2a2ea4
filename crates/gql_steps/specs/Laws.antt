-- The law of the text of data. `src/laws.rt` has the function.
use Rattle.std.specs.Prelude.{◌≡◌, false}
use Rattle.gql_steps.specs.JsonText.{json_text}
use Rattle.serde_json.specs.Data.{Data}
use Rattle.serde_json.specs.Written.{compact_text, has_float}

-- data without doubles has the text that `serde_json` writes
abbrev pub TextOfIntegers : Type 0
TextOfIntegers = (d : Data) → has_float d ≡ false → json_text d ≡ compact_text d

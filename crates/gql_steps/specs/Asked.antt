-- Helper definitions for private contracts: arguments that were taken apart.
use Rattle.std.specs.Prelude.{List, [], ◌∷◌}
use Rattle.serde_json.specs.Data as json
use Rattle.serde_json.specs.Data.{Data, Members, member, no_members}
use Rattle.serde_json.specs.View.{view}
use Rattle.gql_steps.specs.declared.asked.Asked.{Asked}
use Rattle.gql_steps.specs.declared.asked.AskedText.{AskedText}
use Rattle.gql_steps.specs.declared.asked.AskedValue.{AskedValue}
use Rattle.gql_steps.specs.declared.asked.AskedValue.TheVariants as asked

-- the value of an argument, as specifications see it
abbrev pub asked_data : AskedValue → Data
asked_data (asked.Text text) = json.string text.now
asked_data (asked.Other value) = view value.now

-- these arguments, and these members after them
abbrev pub asked_before : List Asked → Members → Members
asked_before [] rest = rest
asked_before (a ∷ more) rest = member a.name.now (asked_data a.value) (asked_before more rest)

-- these arguments, as the members of an object
abbrev pub asked_members : List Asked → Members
asked_members asked = asked_before asked no_members

-- an argument that is a text, as the one member of an object
abbrev pub text_member : AskedText → Members
text_member t = member t.name.now (json.string t.text.now) no_members

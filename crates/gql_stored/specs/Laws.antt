-- Laws of effects, which are this registry's own rule.
use Rattle.std.specs.Prelude.{◌≡◌, ◌≢◌, ℕ, List, ◌++◌, bytes_eq, codes, is_some, option_map, if◌then◌else◌}
use Rattle.serde_json.specs.Data.{Data}
use Rattle.serde_json.specs.Find.{get}
use Rattle.gql_stored.specs.Effects.{Effect, list_named, with_end, appended, after}

-- an effect adds its value at the end of its list, and other lists stay as they are
abbrev pub OneList : Type 0
OneList = (e : Effect) (d : Data) (to : List ℕ) → list_named to (appended e d)
    ≡ (if bytes_eq to e.to then option_map (with_end e.value) (list_named to d)
    else list_named to d)

-- after any effects, a list is there exactly if it was there before
abbrev pub ListsStay : Type 0
ListsStay = (es : List Effect) (d : Data) (to : List ℕ)
    → is_some (list_named to (after es d)) ≡ is_some (list_named to d)

-- after any effects, each member other than `query` is as it was
abbrev pub OtherMembers : Type 0
OtherMembers = (es : List Effect) (d : Data) (k : List ℕ)
    → k ≢ codes "query" → get k (after es d) ≡ get k d

-- effects and then others are all of them, one after the other
abbrev pub InSequence : Type 0
InSequence = (es fs : List Effect) (d : Data) → after (es ++ fs) d ≡ after fs (after es d)

-- Arguments that were taken apart.
use Rattle.std.proofs.Common.{◌≡◌, ◌++◌, ◌&&◌, ℕ, Bool, true, false, List, [], ◌∷◌, refl, ap}
use Rattle.serde_json.specs.Data as json
use Rattle.serde_json.specs.Data.{Data, Members, member}
use Rattle.gql_steps.specs.Asked.{asked_before, asked_data}
use Rattle.gql_steps.specs.Resolution.{meets, member_or_null, same_data}
use Rattle.gql_steps.specs.declared.asked.Asked.{Asked}

-- one more argument, which the members after the first ones began with
pub asked_more : (asked : List Asked) (a : Asked) (rest : Members) → asked_before (asked ++ a ∷ []) rest ≡ asked_before asked (member a.name.now (asked_data a.value) rest)
asked_more [] a rest = refl
asked_more (b ∷ asked) a rest = ap (member b.name.now (asked_data b.value)) (asked_more asked a rest)

and_true : (b : Bool) → b && true ≡ b
and_true true = refl
and_true false = refl

-- an item meets an argument that is a text if its member of that name is the same
pub text_meets : (name text : List ℕ) (d : Data) → meets (json.member name (json.string text) json.no_members) d ≡ same_data (json.string text) (member_or_null name d)
text_meets name text json.null = refl
text_meets name text (json.boolean b) = refl
text_meets name text (json.number n) = refl
text_meets name text (json.string s) = refl
text_meets name text (json.array ds) = refl
text_meets name text (json.object ms) = and_true (same_data (json.string text) (member_or_null name (json.object ms)))

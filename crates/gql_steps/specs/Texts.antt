-- Helper definitions for private contracts: what is written for a reply.
use Rattle.std.specs.Prelude.{ℕ, zero, suc, ◌+◌, List, [], ◌∷◌, ◌++◌, codes, Option, Some, None}
use Rattle.json.specs.Print.{quoted}
use Rattle.serde_json.specs.Data.{Data}
use Rattle.gql_steps.specs.JsonText.{json_text}
use Rattle.gql_steps.specs.Parts.{Outcome, text, bubble, Part}
use Rattle.gql_steps.specs.Replies.{Reply}

-- a value as a text, or a null that bubbles
abbrev pub outcome_text : {A : Type 0} → (A → List ℕ) → Option A → Outcome
outcome_text f (Some a) = text (f a)
outcome_text f None = bubble

-- a reply, with its value as a text
abbrev pub texted : {A : Type 0} → (A → List ℕ) → Reply A → Part
texted f r = record { outcome = outcome_text f r.value; notes = r.notes; weight = r.weight }

-- what is written for a value
abbrev pub value_part : Reply Data → Part
value_part r = texted json_text r

-- a member of an object
abbrev pub member_text : List ℕ × Data → List ℕ
member_text m = (quoted m.0 ++ codes ":") ++ json_text m.1

-- a comma before the text of this number; before the first there is none
abbrev pub comma_at : ℕ → List ℕ
comma_at zero = []
comma_at (suc i) = codes ","

-- the texts of these with commas between them, numbered from i on
abbrev pub listed_text : {A : Type 0} → (A → List ℕ) → ℕ → List A → List ℕ
listed_text f i [] = []
listed_text f i (a ∷ as') = (comma_at i ++ f a) ++ listed_text f (i + 1) as'

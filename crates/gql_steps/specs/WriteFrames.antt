-- Helper definitions for private contracts: the lists and objects around the part of a value whose
-- text is written.
use Rattle.std.specs.Prelude.{ℕ, List, [], ◌∷◌, ◌++◌, Bool, true, false, Option, Some, None}
use Rattle.serde_json.specs.View.{items_view, members_view}
use Rattle.gql_steps.specs.JsonText.{items_text, members_text}
use Rattle.gql_steps.specs.declared.values.TextFrame.{TextFrame}
use Rattle.gql_steps.specs.declared.values.TextFrame.TheVariants as frame
use Rattle.gql_steps.specs.declared.values.TextStep.{TextStep}
use Rattle.gql_steps.specs.declared.values.TextStep.TheVariants as step

-- the text of the rest of a list or an object, by whether something comes before it
abbrev pub rest_text : Bool → TextFrame → List ℕ
rest_text later (frame.Items vs) = items_text later (items_view vs.now)
rest_text later (frame.Members es) = members_text later (members_view es)

-- the rest of the text of a value that is begun, if it is a list or an object
abbrev pub inner_text : Option TextFrame → List ℕ
inner_text None = []
inner_text (Some f) = rest_text false f

-- the rest of the text of a list or an object, by what it has come to
abbrev pub step_text : TextStep → List ℕ
step_text step.Written = []
step_text (step.Within outer inner) = rest_text false inner ++ rest_text true outer

-- the rest of the text of the lists and objects that wait, the innermost first
abbrev pub waiting_text : List TextFrame → List ℕ
waiting_text [] = []
waiting_text (f ∷ fs) = rest_text true f ++ waiting_text fs

-- Helper definitions for private contracts: the lists and objects around the parts of two values
-- that are compared.
use Rattle.std.specs.Prelude.{List, [], ◌∷◌, Bool, true, ◌&&◌}
use Rattle.serde_json.specs.View.{items_view, members_view}
use Rattle.gql_steps.specs.Resolution.{same_items, same_members}
use Rattle.gql_steps.specs.declared.same.PairFrame.{PairFrame}
use Rattle.gql_steps.specs.declared.same.PairFrame.TheVariants as frame
use Rattle.gql_steps.specs.declared.same.PairStep.{PairStep}
use Rattle.gql_steps.specs.declared.same.PairStep.TheVariants as step
use Rattle.gql_steps.specs.declared.same.Compared.{Compared}
use Rattle.gql_steps.specs.declared.same.Compared.TheVariants as compared

-- whether the rests of two lists or of two objects are the same
abbrev pub same_rests : PairFrame → Bool
same_rests (frame.Items vs us) = same_items (items_view vs.now) (items_view us.now)
same_rests (frame.Members es fs) = same_members (members_view es) (members_view fs)

-- whether two values are the same, by what they have come to
abbrev pub same_values : Compared → Bool
same_values (compared.Done same) = same
same_values (compared.Inner f) = same_rests f

-- whether two lists or two objects are the same, by what they have come to
abbrev pub same_step : PairStep → Bool
same_step (step.Done same) = same
same_step (step.Within outer inner) = same_rests inner && same_rests outer

-- whether all that waits is the same
abbrev pub same_waiting : List PairFrame → Bool
same_waiting [] = true
same_waiting (f ∷ fs) = same_rests f && same_waiting fs

-- Edits keep the profile.
use Rattle.std.proofs.Common.{◌≡◌, ◌∙◌, [], ◌∷◌, Ok, Err, refl, ap}
use Rattle.gql_ast.specs.declared.fault.FileSide.TheVariants.{Schema, Documents}
use Rattle.gql_registry.specs.Edits.{Change, Edit, put, remove, put_data, set_data, Leaves, MakesAll, done, step}
use Rattle.gql_registry.specs.Laws.{EditKeepsProfile}
use Rattle.gql_registry.specs.State.{State, profile_of}

-- an accepted change
pub change_keeps : (s t : State) (c : Change) → Leaves s c t → profile_of t ≡ profile_of s
change_keeps s t (put Schema name bytes) (document, is, same) = ap profile_of same
change_keeps s t (put Documents name bytes) (document, is, same) = ap profile_of same
change_keeps s t (remove Schema name) same = ap profile_of same
change_keeps s t (remove Documents name) same = ap profile_of same
change_keeps s t (put_data bytes) (d, is, same) = ap profile_of same
change_keeps s t (set_data d) same = ap profile_of same

all_keep : (s t : State) (e : Edit) → MakesAll s e t → profile_of t ≡ profile_of s
all_keep s _ [] done = refl
all_keep s t (c ∷ cs) (step {t = u} accepted leaves rest) = all_keep u t cs rest ∙ change_keeps s u c leaves

pub edit_keeps : EditKeepsProfile
edit_keeps s t expected e (Ok edited) made = ap profile_of made.0.left ∙ all_keep s made.0.made e made.0.makes
edit_keeps s t expected e (Err r) made = ap profile_of made.1

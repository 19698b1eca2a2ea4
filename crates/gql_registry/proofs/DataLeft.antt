-- What an accepted edit leaves as the data.
use Rattle.std.proofs.Common.{[], ◌∷◌, refl, sym, ap, subst}
use Rattle.gql_ast.specs.declared.profile.Profile.{Profile}
use Rattle.gql_registry.specs.Edits.{Change, Edit, put, remove, put_data, set_data, IsAccepted, Leaves, MakesAll, done, step}
use Rattle.gql_registry.specs.Laws.{ChangesDataTo, by_text, by_value, of_file, LeavesData, data_as_before, data_by_change, DataLeft}
use Rattle.gql_registry.specs.State.{State, profile_of}
use Rattle.gql_registry.proofs.FirstRefusals.{accepted_value}
use Rattle.gql_registry.proofs.KeptProfile.{change_keeps}

change_left : (s t : State) (c : Change) → IsAccepted s c → Leaves s c t → ChangesDataTo (profile_of s) s.stored c t.stored
change_left s t (put side name bytes) accepted (document, is, same) =
    subst (ChangesDataTo (profile_of s) s.stored (put side name bytes)) (sym (ap (λ (u : State). u.stored) same)) (of_file refl)
change_left s t (remove side name) accepted same =
    subst (ChangesDataTo (profile_of s) s.stored (remove side name)) (sym (ap (λ (u : State). u.stored) same)) (of_file refl)
change_left s t (put_data bytes) accepted (d, is, same) =
    subst (ChangesDataTo (profile_of s) s.stored (put_data bytes)) (sym (ap (λ (u : State). u.stored) same)) (by_text is)
change_left s t (set_data d) accepted same =
    subst (ChangesDataTo (profile_of s) s.stored (set_data d)) (sym (ap (λ (u : State). u.stored) same)) (by_value (accepted_value s d accepted))

all_left : (s t : State) (e : Edit) → MakesAll s e t → LeavesData (profile_of s) s.stored e t.stored
all_left s _ [] done = data_as_before
all_left s t (c ∷ cs) (step {t = u} accepted leaves rest) =
    data_by_change (change_left s u c accepted leaves)
    (subst (λ (p : Profile). LeavesData p u.stored cs t.stored) (change_keeps s u c leaves) (all_left u t cs rest))

pub data_left : DataLeft
data_left s t expected e accepts =
    subst (LeavesData (profile_of s) s.stored e) (sym (ap (λ (u : State). u.stored) accepts.left)) (all_left s accepts.made e accepts.makes)

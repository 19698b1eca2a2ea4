-- Why the files of a folder are not put.
use Rattle.std.proofs.Common.{◌≡◌, ◌==◌, ◌+◌, ℕ, List, [], ◌∷◌, ◌++◌, None, Option, Some, true, Result, Ok, Err, IfErr, zero, suc, arith, length, refl, slice_get, subst, sym}
use Rattle.std.specs.Result.{IsErrAnd}
use Rattle.std.proofs.lemmas.Bool.Decides.{nat_tests}
use Rattle.std.proofs.lemmas.List.{length-map}
use Rattle.gql_registry.proofs.OneEdit.{head_refused, no_change}
use Rattle.gql_ast.specs.declared.profile.Profile.{Profile}
use Rattle.gql_check.specs.Faults.{AreRefused, IsFault, IsFileFault, also_accepted, also_refused, bad_folder, empty, first_refused, memory, of_folder, refused}
use Rattle.gql_check.specs.Loads.{IsFolderOf, folder_edit, folder_indices}
use Rattle.gql_check.specs.Steps.{ArePuts, IsAnswer, IsLoadFault, IsPutFault}
use Rattle.gql_check.specs.declared.fault.CheckFault.{CheckFault}
use Rattle.gql_check.specs.declared.fault.CheckFault.TheVariants.{Empty, TooMany, Twice, Misnamed, Refused, Memory}
use Rattle.gql_check.specs.declared.fault.FileFault.{FileFault}
use Rattle.gql_check.specs.declared.loading.Puts.{Puts}
use Rattle.gql_folder.specs.Folders.{IsFolder, IsFolderFault, paths_of}
use Rattle.gql_folder.specs.declared.folder.Folder.{Folder}
use Rattle.gql_folder.specs.declared.folder.FolderFault.{FolderFault}
use Rattle.gql_folder.specs.declared.folder.GivenFile.{GivenFile}
use Rattle.gql_registry.specs.Changes.{change_of, edit_of}
use Rattle.gql_registry.specs.Edits.{Accepts, Change, Edit, IsAccepted, IsFirstRefusal, IsRefused, IsRefusedAt, MakesAll, Stops, at_change, memory as memory_failed, spent, step, stopped}
use Rattle.gql_registry.specs.State as state
use Rattle.gql_registry.specs.State.{State}
use Rattle.gql_registry.specs.declared.change.Change.{Change as GivenChange}
use Rattle.gql_registry.specs.declared.change.EditRefusal.{EditRefusal}
use Rattle.gql_registry.specs.declared.refusal.Refusal.{Refusal}
use Rattle.gql_registry.specs.declared.refusal.Refusal.TheVariants as refusal

none_if : {A : Type 0} (xs : List A) → (length xs == 0) ≡ true → xs ≡ []
none_if [] e = refl
none_if (x ∷ xs) e = absurd (no_zero (length xs) e)
  where
    no_zero : (n : ℕ) → (suc n == 0) ≡ true → ⊥
    no_zero n is = grind (arith, nat_tests)

-- no file of a registry is among those given
pub is_empty : (p : Profile) (given : List GivenFile) (f : Folder) → IsFolder p.limits (paths_of given) (length given) f → (length (folder_indices f) == 0) ≡ true → IsFault p given Empty
is_empty p given f h none = empty f h (none_if (folder_indices f) none)

-- the fault of a folder is that of a check
pub folder_refused : {T : Type 0} (p : Profile) (given : List GivenFile) (r : Result T CheckFault) (e : FolderFault) → IsErrAnd r (λ c. c ≡ of_folder e) → IsFolderFault p.limits (paths_of given) e → IfErr r (IsFault p given)
folder_refused p given (Ok v) e is h = absurd is
folder_refused p given (Err c) e is h = bad_folder e h is

-- nothing stops an edit of a new registry that expects no revision
not_stopped : (p : Profile) (r : Refusal) → Stops (state.empty_in p) None r → ⊥
not_stopped p _ (spent is) = cc is

-- a refusal that is not for memory is that of the change at its index
at_index : (p : Profile) (e : Edit) (r : EditRefusal) → (r.refusal ≡ refusal.Memory → ⊥) → IsRefused (state.empty_in p) None e r → IsRefusedAt (state.empty_in p) e r.at r.refusal
at_index p e _ other (stopped {r = r} stop) = absurd (not_stopped p r stop.stops)
at_index p e _ other (at_change time h) = h
at_index p e _ other memory_failed = absurd (other refl)

-- a change alone that is accepted
accepted_first : (s t : State) (c : Change) → MakesAll s (c ∷ []) t → IsAccepted s c
accepted_first s t c (step accepted leaves more) = accepted

pub accepted_alone : (p : Profile) (s t : State) (c : Change) → s ≡ (state.empty_in p) → Accepts s None (c ∷ []) t → IsAccepted (state.empty_in p) c
accepted_alone p s t c is accepts = subst (λ x. IsAccepted x c) is (accepted_first s accepts.made c accepts.makes)

-- a change alone that is refused
first_alone : (s : State) (c : Change) (at : ℕ) (r : Refusal) → IsRefusedAt s (c ∷ []) at r → IsFirstRefusal s c r
first_alone s c zero r h = head_refused s c [] r h
first_alone s c (suc n) r h = absurd (no_change h.change n h.there)

pub refused_alone : (p : Profile) (s : State) (c : Change) (r : EditRefusal) → s ≡ (state.empty_in p) → (r.refusal ≡ refusal.Memory → ⊥) → IsRefused s None (c ∷ []) r → IsFirstRefusal (state.empty_in p) c r.refusal
refused_alone p s c r is other h = first_alone (state.empty_in p) c r.at r.refusal (at_index p (c ∷ []) r other (subst (λ x. IsRefused x None (c ∷ []) r) is h))

-- the change at an index is the one at that index of the edit
pub edit_there : (puts : List GivenChange) (at : ℕ) (p : GivenChange) → slice_get puts at ≡ Some p → slice_get (edit_of puts) at ≡ Some (change_of p)
edit_there [] at p is = absurd (cc is)
edit_there (q ∷ puts) zero p is = cc is
edit_there (q ∷ puts) (suc n) p is = edit_there puts n p is

-- the first file that is refused
pub refused_first : (p : Profile) (edit : Edit) (indices : List ℕ) (file : ℕ) (r : EditRefusal) (e : FileFault) → (r.refusal ≡ refusal.Memory → ⊥) → IsRefused (state.empty_in p) None edit r
    → slice_get indices r.at ≡ Some file → IsFileFault file r.refusal e → AreRefused p edit indices (r.at + 1) (e ∷ [])
refused_first p edit indices file r e other h index fault = first_refused r.at r.refusal (at_index p edit r other h) index fault

-- the fault of the files that are put is that of the files of the folder
pub load_fault : (profile : Profile) (given : List GivenFile) (f : Folder) (p : Puts) → ArePuts given f p → (c : CheckFault) → IsPutFault profile p c → IsLoadFault profile given f c
load_fault profile given f p puts Empty is = absurd is
load_fault profile given f p puts (TooMany side) is = absurd is
load_fault profile given f p puts (Twice first at) is = absurd is
load_fault profile given f p puts (Misnamed at) is = absurd is
load_fault profile given f p puts Memory is = tt
load_fault profile given f p puts (Refused es) is =
    subst (λ indices. AreRefused profile (folder_edit given f) indices (length (folder_edit given f)) es.items) puts.indices
    (subst (λ edit. AreRefused profile edit p.indices.items (length edit) es.items) puts.edit
    (subst (λ n. AreRefused profile (edit_of p.puts.items) p.indices.items n es.items) (sym (length-map p.puts.items change_of)) is))

-- why the files of a folder are not put is why they are not checked
pub loading_fault : (p : Profile) (given : List GivenFile) (f : Folder) → IsFolderOf p given f → (c : CheckFault) → IsLoadFault p given f c → IsFault p given c
loading_fault p given f h Empty is = absurd is
loading_fault p given f h (TooMany side) is = absurd is
loading_fault p given f h (Twice first at) is = absurd is
loading_fault p given f h (Misnamed at) is = absurd is
loading_fault p given f h Memory is = memory
loading_fault p given f h (Refused es) is = refused f h is

-- what holds of an error holds of the answer that returns it
pub err_of : {T E : Type 0} (P : E → Type 0) (r : Result T E) (e : E) → IsErrAnd r (λ x. x ≡ e) → P e → IfErr r P
err_of P (Ok v) e is h = absurd is
err_of P (Err x) e is h = subst P (sym is) h

-- an answer that is no refusal accepts the edit
answered : (p : Profile) (e : Change) (o : Option Refusal) → IsAnswer p e o → ((r : Refusal) → o ≡ Some r → ⊥) → IsAccepted (state.empty_in p) e
answered p e None h none = h
answered p e (Some r) h none = absurd (none r refl)

-- a file that a new registry accepts is left out
pub left_out : (profile : Profile) (puts : List GivenChange) (indices : List ℕ) (at : ℕ) (p : GivenChange) (es : List FileFault) (o : Option Refusal) → slice_get puts at ≡ Some p → IsAnswer profile (change_of p) o
    → ((r : Refusal) → o ≡ Some r → ⊥) → AreRefused profile (edit_of puts) indices at es → AreRefused profile (edit_of puts) indices (at + 1) es
left_out profile puts indices at p es o there h none before = also_accepted at (change_of p) before (edit_there puts at p there) (answered profile (change_of p) o h none)

-- an answer that is this refusal refuses the edit
refused_with : (p : Profile) (e : Change) (o : Option Refusal) (r : Refusal) → IsAnswer p e o → o ≡ Some r → IsFirstRefusal (state.empty_in p) e r
refused_with p e None r h is = absurd (cc is)
refused_with p e (Some x) r h is = subst (λ y. IsFirstRefusal (state.empty_in p) e y) (cc is) h

-- a file that a new registry refuses is added
pub put_in : (profile : Profile) (puts : List GivenChange) (indices : List ℕ) (at file : ℕ) (p : GivenChange) (es : List FileFault) (e : FileFault) (o : Option Refusal) (r : Refusal) → slice_get puts at ≡ Some p
    → slice_get indices at ≡ Some file → IsAnswer profile (change_of p) o → o ≡ Some r → IsFileFault file r e → AreRefused profile (edit_of puts) indices at es → AreRefused profile (edit_of puts) indices (at + 1) (es ++ e ∷ [])
put_in profile puts indices at file p es e o r there index h is fault before =
    also_refused at (change_of p) r before (edit_there puts at p there) (refused_with profile (change_of p) o r h is) index fault

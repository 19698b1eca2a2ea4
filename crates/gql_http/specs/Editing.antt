-- Which edit a call asks for, and what it is answered.
use Rattle.std.specs.Prelude.{◌≡◌, ◌++◌, ℕ, List, [], ◌∷◌, Bool, true, false, Option, Some, None, Result, Ok, Err, codes, option_map, slice_get}
use Rattle.gql_ast.specs.declared.profile.Profile.{Profile}
use Rattle.gql_registry.specs.Edits as edits
use Rattle.gql_registry.specs.Edits.{Change, Edit, Makes}
use Rattle.gql_registry.specs.State.{State, profile_of}
use Rattle.gql_registry.specs.declared.change.EditRefusal.{EditRefusal}
use Rattle.gql_registry.specs.declared.registry.Edited.{Edited}
use Rattle.serde_json.specs.Data.{Data}
use Rattle.gql_http.specs.Answers.{Said, bad_batch, refusal_said, said}
use Rattle.gql_http.specs.Batches.{Says, edit_in}
use Rattle.gql_http.specs.Json.{edited_text, side_text}
use Rattle.gql_http.specs.Routes.{EditKind, put, remove, put_data, batch}

-- the edit of a call that is of one file or of the data
abbrev pub single_edit : EditKind → List ℕ → Option Edit
single_edit (put side name) body = Some (edits.put side name body ∷ [])
single_edit (remove side name) body = Some (edits.remove side name ∷ [])
single_edit put_data body = Some (edits.put_data body ∷ [])
single_edit batch body = None

-- the edit that a call of this kind asks for with this body; none if the body is no batch
abbrev pub Asks : Profile → EditKind → List ℕ → Option Edit → Type 0
Asks profile (put side name) body e = e ≡ Some (edits.put side name body ∷ [])
Asks profile (remove side name) body e = e ≡ Some (edits.remove side name ∷ [])
Asks profile put_data body e = e ≡ Some (edits.put_data body ∷ [])
Asks profile batch body e = Says profile.limits.name body e

-- what a change is of, as the refusal of a batch names it
abbrev pub changed_text : Change → List ℕ
changed_text (edits.put side name bytes) = side_text side ++ name
changed_text (edits.remove side name) = side_text side ++ name
changed_text (edits.put_data bytes) = codes "data"
changed_text (edits.set_data d) = codes "data"

-- whether refusals of edits of this kind name what the change is of
abbrev pub names_changes : EditKind → Bool
names_changes (put side name) = false
names_changes (remove side name) = false
names_changes put_data = false
names_changes batch = true

-- what a refusal at this index names
abbrev pub named_at : Bool → Edit → ℕ → Option (List ℕ)
named_at false e at = None
named_at true e at = option_map changed_text (slice_get e at)

-- The answer to an edit: if it is refused and the first is true, it names what the change is of. None
-- if an allocation failed.
abbrev pub edit_said : Bool → Edit → Result Edited EditRefusal → Option Said
edit_said named e (Ok edited) = Some (said 200 (edited_text edited.revision edited.faults))
edit_said named e (Err r) = refusal_said (named_at named e r.at) r.refusal

-- The answer to an edit of this kind with this body, and the state that it leaves, unless an
-- allocation fails. A body that is no batch changes nothing.
pub data Edits (s : State) (expected : Option ℕ) (kind : EditKind) (body : List ℕ) : Said → State
    → Type 0 where
  makes : (e : Edit) (r : Result Edited EditRefusal) {a : Said} {t : State}
      → Asks (profile_of s) kind body (Some e) → edit_said (names_changes kind) e r ≡ Some a
      → Makes s expected e r t → Edits s expected kind body a t
  no_batch : Asks (profile_of s) kind body None → Edits s expected kind body bad_batch s

-- The answer to a batch with this value, and the state that it leaves, unless an allocation fails.
pub data EditsValue (s : State) (expected : Option ℕ) (d : Data) : Said → State → Type 0 where
  value_makes : (e : Edit) (r : Result Edited EditRefusal) {a : Said} {t : State}
      → edit_in (profile_of s).limits.name d ≡ Some e → edit_said true e r ≡ Some a
      → Makes s expected e r t → EditsValue s expected d a t
  no_value : edit_in (profile_of s).limits.name d ≡ None → EditsValue s expected d bad_batch s

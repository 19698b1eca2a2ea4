-- The answers to edits.
use Rattle.std.proofs.Common.{◌≡◌, ℕ, List, true, false, Option, Some, None, Result, Ok, Err, refl, sym, subst}
use Rattle.gql_registry.specs.Edits.{Accepts, Edit, Makes, Reports}
use Rattle.gql_registry.specs.PreparedEdits.{IsPreparedEditFor, after_of, edited_of}
use Rattle.gql_registry.specs.State.{State, profile_of, state_of}
use Rattle.gql_registry.specs.declared.change.EditRefusal.{EditRefusal}
use Rattle.gql_registry.specs.declared.editing.PreparedEdit.{PreparedEdit}
use Rattle.gql_registry.specs.declared.registry.Edited.{Edited}
use Rattle.gql_registry.specs.declared.registry.Registry.{Registry}
use Rattle.json.specs.Json.{document}
use Rattle.serde_json.specs.Data.{Data}
use Rattle.serde_json.specs.Read.{read}
use Rattle.std.specs.Prelude.{OnOk}
use Rattle.std.specs.Str.{IsUtf8}
use Rattle.gql_http.specs.Answers.{Said, bad_batch}
use Rattle.gql_http.specs.Batches.{Says, edit_in, is_once, reads}
use Rattle.gql_http.specs.Called.{batch_said}
use Rattle.gql_http.specs.Editing.{Asks, Edits, EditsValue, edit_said, makes, names_changes, no_batch, no_value, single_edit, value_makes}
use Rattle.gql_http.specs.Routes.{EditKind, put, remove, put_data, batch}
use Rattle.gql_http.specs.declared.batch.BatchFault.{BatchFault}
use Rattle.gql_http.specs.declared.batch.BatchFault.TheVariants.{BadBatch, Memory}

pub on_ok : {A E : Type 0} (result : Result A E) (P Q : Type 0) → (P → Q) → OnOk result P → OnOk result Q
on_ok (Ok a) P Q f h = f h
on_ok (Err e) P Q f h = tt

none_edit : (g : Edit) → ◌≡◌ {A = Option Edit} None (Some g) → ⊥
none_edit g same = cc same

-- what is committed is what was prepared
pub committed : (r : Registry) (expected : Option ℕ) (e : Edit) (p : PreparedEdit) (t : State) (edited : Edited) → IsPreparedEditFor r expected e p → t ≡ after_of (state_of r) p → edited ≡ edited_of p
    → Makes (state_of r) expected e (Ok edited) t
committed r expected e p t edited h is same =
    (subst (Accepts (state_of r) expected e) (sym is) h.accepts, subst (λ u. Reports u edited) (sym is) (subst (Reports (after_of (state_of r) p)) (sym same) h.reports))

-- a call that is of one file or of the data asks for its one change, and its refusal names nothing
pub single_asks : (s : State) (kind : EditKind) (body : List ℕ) (e : Edit) → Some e ≡ single_edit kind body → Asks (profile_of s) kind body (Some e) × (names_changes kind ≡ false)
single_asks s (put side name) body e is = (is, refl)
single_asks s (remove side name) body e is = (is, refl)
single_asks s put_data body e is = (is, refl)
single_asks s batch body e is = absurd (none_edit e (sym is))

pub single_answer : (s : State) (expected : Option ℕ) (kind : EditKind) (body : List ℕ) (e : Edit) (r : Result Edited EditRefusal) (a : Said) (t : State) → Some e ≡ single_edit kind body
    → edit_said false e r ≡ Some a → Makes s expected e r t → Edits s expected kind body a t
single_answer s expected kind body e r a t is said h =
    let asks = single_asks s kind body e is in
    makes e r asks.0 (subst (λ named. edit_said named e r ≡ Some a) (sym asks.1) said) h

-- every other call is a batch
pub other_kind : (kind : EditKind) (body : List ℕ) → None ≡ single_edit kind body → batch ≡ kind
other_kind (put side name) body is = absurd (none_edit _ is)
other_kind (remove side name) body is = absurd (none_edit _ is)
other_kind put_data body is = absurd (none_edit _ is)
other_kind batch body is = refl

-- the value of a batch's body
pub of_value : (s : State) (expected : Option ℕ) (body : List ℕ) (d : Data) (a : Said) (t : State) → IsUtf8 body → read body ≡ Some d → is_once (document body) ≡ true
    → EditsValue s expected d a t → Edits s expected batch body a t
of_value s expected body d _ _ text is once (value_makes e r {a = a} {t = t} says said h) =
    makes e r (subst (Says (profile_of s).limits.name body) says (reads text is once)) said h
of_value s expected body d _ _ text is once (no_value says) = no_batch (subst (Says (profile_of s).limits.name body) says (reads text is once))

some_said : (a b : Said) → ◌≡◌ {A = Option Said} (Some a) (Some b) → a ≡ b
some_said a b e = cc e

none_said : (a : Said) → ◌≡◌ {A = Option Said} None (Some a) → ⊥
none_said a e = cc e

-- a body that is no batch
pub refused_batch : (s : State) (expected : Option ℕ) (body : List ℕ) (why : BatchFault) (a : Said) → (why ≡ BadBatch → (most : ℕ) → Says most body None) → batch_said why ≡ Some a
    → Edits s expected batch body a s
refused_batch s expected body BadBatch a asks said = subst (λ x. Edits s expected batch body x s) (some_said bad_batch a said) (no_batch (asks refl (profile_of s).limits.name))
refused_batch s expected body Memory a asks said = absurd (none_said a said)

pub refused_value : (s : State) (expected : Option ℕ) (d : Data) (why : BatchFault) (a : Said) → (why ≡ BadBatch → edit_in (profile_of s).limits.name d ≡ None) → batch_said why ≡ Some a
    → EditsValue s expected d a s
refused_value s expected d BadBatch a asks said = subst (λ x. EditsValue s expected d x s) (some_said bad_batch a said) (no_value (asks refl))
refused_value s expected d Memory a asks said = absurd (none_said a said)

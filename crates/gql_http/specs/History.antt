-- The document that a name of a side was given last, and the data that edits and mutations have left.
use Rattle.std.specs.Prelude.{ℕ, suc, ◌≡◌, List, [], ◌∷◌, Bool, Option, Some}
use Rattle.gql_ast.specs.declared.definition.Document.{Document}
use Rattle.gql_ast.specs.declared.fault.FileSide.{FileSide}
use Rattle.gql_ast.specs.declared.profile.Profile.{Profile}
use Rattle.gql_registry.specs.Edits.{Accepts, Edit}
use Rattle.gql_registry.specs.Laws.{LeavesData, LeavesUnder}
use Rattle.gql_registry.specs.State.{State, profile_of}
use Rattle.gql_stored.specs.Effects.{Effect, after}
use Rattle.gql_wire.specs.Stream.{Req, request}
use Rattle.gql_http.specs.Answers.{Said}
use Rattle.gql_http.specs.Editing.{Asks}
use Rattle.gql_http.specs.Routes.{EditKind, edit, run, call_of}
use Rattle.gql_http.specs.Service.{Runs, Step}
use Rattle.serde_json.specs.Data.{Data}

-- the request asks for this edit under a profile, and expects this revision or any
pub data AsksFor (profile : Profile) : Req → Option ℕ → Edit → Type 0 where
  asks_for : {kind : EditKind} {method target body : List ℕ} {closing : Bool} {expected : Option ℕ}
      {e : Edit} → call_of profile method target ≡ edit kind expected
      → Asks profile kind body (Some e)
      → AsksFor profile (request method target body closing) expected e

-- the request is an accepted edit in this state
pub record IsAcceptedEdit (s : State) (r : Req) (e : Edit) : Type 0 where
  pub expected : Option ℕ
  pub asks : AsksFor (profile_of s) r expected e
  pub after : State
  pub accepts : Accepts s expected e after

-- What a name of a side holds after requests, by the changes of the accepted edits among them alone:
-- the document of the last change that put one, nothing after one that removed it, and what it held
-- before if there was no such change.
pub data Holds (side : FileSide) (name : List ℕ) : State
    → Option Document → List Req → Option Document → Type 0 where
  no_requests : {s : State} {held : Option Document} → Holds side name s held [] held
  by_edit : {s t : State} {before after last : Option Document} {e : Edit} {r : Req} {rs : List Req}
      (bytes : List ℕ) → IsAcceptedEdit s r e
      → LeavesUnder side name before e after → Step s r bytes t → Holds side name t after rs last
      → Holds side name s before (r ∷ rs) last
  by_other : {s t : State} {before last : Option Document} {r : Req} {rs : List Req}
      (bytes : List ℕ) → ((e : Edit) → IsAcceptedEdit s r e → ⊥)
      → Step s r bytes t → Holds side name t before rs last → Holds side name s before (r ∷ rs) last

-- the request is a run, which adds these effects to the data of this state; none if it is refused
pub data RunsWith (s : State) : Req → List Effect → Type 0 where
  runs_with : {method target body : List ℕ} {closing : Bool} {a : Said} {effects : List Effect}
      → call_of (profile_of s) method target ≡ run → Runs s body a effects
      → RunsWith s (request method target body closing) effects

-- the request may change the data of this state: it is an accepted edit, or it is a run
pub data MayChangeData (s : State) (r : Req) : Type 0 where
  is_edit : {e : Edit} → IsAcceptedEdit s r e → MayChangeData s r
  is_run : {effects : List Effect} → RunsWith s r effects → MayChangeData s r

-- The data after requests, by edits and runs alone, one after the other: an accepted edit puts its
-- data in place of those before, if it has any, and a run adds what it adds, a served mutation its
-- effects in their order.
pub data DataAfter : State → Data → List Req → Data → Type 0 where
  no_more_requests : {s : State} {d : Data} → DataAfter s d [] d
  by_data : {s t : State} {before put last : Data} {e : Edit} {r : Req} {rs : List Req}
      (bytes : List ℕ) → IsAcceptedEdit s r e
      → LeavesData (profile_of s) before e put → Step s r bytes t → DataAfter t put rs last
      → DataAfter s before (r ∷ rs) last
  by_run : {s t : State} {before last : Data} {effects : List Effect} {r : Req} {rs : List Req}
      (bytes : List ℕ) → RunsWith s r effects
      → Step s r bytes t → DataAfter t (after effects before) rs last
      → DataAfter s before (r ∷ rs) last
  by_none : {s t : State} {before last : Data} {r : Req} {rs : List Req} (bytes : List ℕ)
      → (MayChangeData s r → ⊥)
      → Step s r bytes t → DataAfter t before rs last → DataAfter s before (r ∷ rs) last

-- how many of these requests are accepted edits
pub data AcceptedEdits : State → List Req → ℕ → Type 0 where
  no_edits : {s : State} → AcceptedEdits s [] 0
  one_edit : {s t : State} {e : Edit} {r : Req} {rs : List Req} {n : ℕ} (bytes : List ℕ)
      → IsAcceptedEdit s r e → Step s r bytes t → AcceptedEdits t rs n
      → AcceptedEdits s (r ∷ rs) (suc n)
  no_edit : {s t : State} {r : Req} {rs : List Req} {n : ℕ} (bytes : List ℕ)
      → ((e : Edit) → IsAcceptedEdit s r e → ⊥) → Step s r bytes t → AcceptedEdits t rs n
      → AcceptedEdits s (r ∷ rs) n

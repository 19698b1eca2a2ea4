-- What a request does: it is an accepted edit, a run, or neither.
use Rattle.std.proofs.Common.{◌≡◌, ◌≢◌, ℕ, List, Bool, Option, Some, None, Result, Ok, Err, refl, sym, subst, ◌∙◌}
use Rattle.gql_registry.specs.Edits.{Accepts, Edit, IsRefused, Makes}
use Rattle.gql_registry.specs.Laws.{OneLoad}
use Rattle.gql_registry.specs.State.{State, profile_of, with_effects}
use Rattle.gql_registry.specs.declared.change.EditRefusal.{EditRefusal}
use Rattle.gql_registry.specs.declared.refusal.Refusal.TheVariants.{Memory}
use Rattle.gql_registry.specs.declared.registry.Edited.{Edited}
use Rattle.gql_stored.specs.Effects.{Effect}
use Rattle.gql_wire.specs.Stream.{Req, request, refused as refused_head}
use Rattle.gql_http.specs.Answers.{Said}
use Rattle.gql_http.specs.Editing.{Asks, Edits, edit_said, makes, names_changes, no_batch}
use Rattle.gql_http.specs.History.{AsksFor, asks_for, IsAcceptedEdit, RunsWith, runs_with}
use Rattle.gql_http.specs.Routes.{Call, EditKind, call_of}
use Rattle.gql_http.specs.Routes as routes
use Rattle.gql_http.specs.Service.{Calls, Step}
use Rattle.gql_http.proofs.Batches.{one_asked}
use Rattle.gql_http.proofs.Refusing.{not_accepted, said_made}

-- the request is no accepted edit
abbrev pub IsNoEdit : State → Req → Type 0
IsNoEdit s r = (e : Edit) → IsAcceptedEdit s r e → ⊥

-- the request is no run
abbrev pub IsNoRun : State → Req → Type 0
IsNoRun s r = (effects : List Effect) → RunsWith s r effects → ⊥

-- what a request does
pub data Deed (s t : State) (r : Req) : Type 0 where
  edits : {expected : Option ℕ} {e : Edit} → AsksFor (profile_of s) r expected e → Accepts s expected e t → Deed s t r
  runs : {effects : List Effect} → IsNoEdit s r → RunsWith s r effects → t ≡ with_effects s effects → Deed s t r
  keeps : IsNoEdit s r → IsNoRun s r → t ≡ s → Deed s t r

edit_same : (kind other : EditKind) (expected wanted : Option ℕ) → routes.edit kind expected ≡ routes.edit other wanted → (kind ≡ other) × (expected ≡ wanted)
edit_same kind other expected wanted e = (let h : kind ≡ other = cc in h, let h : expected ≡ wanted = cc in h)

some_edit : (e g : Edit) → Some e ≡ Some g → e ≡ g
some_edit e g same = cc same

none_edit : (g : Edit) → ◌≡◌ {A = Option Edit} None (Some g) → ⊥
none_edit g same = cc same

-- a request that is no edit
no_edit : (s : State) (method target body : List ℕ) (closing : Bool) (call : Call) → call_of (profile_of s) method target ≡ call
    → ((kind : EditKind) (expected : Option ℕ) → call ≡ routes.edit kind expected → ⊥) → IsNoEdit s (request method target body closing)
no_edit s method target body closing call is none e h = by e h.expected h.asks
  where
    by : (e : Edit) (expected : Option ℕ) → AsksFor (profile_of s) (request method target body closing) expected e → ⊥
    by _ _ (asks_for {kind = kind} {expected = expected} asks what) = none kind expected (sym is ∙ asks)

-- a request that is no run
no_run : (s : State) (method target body : List ℕ) (closing : Bool) (call : Call) → call_of (profile_of s) method target ≡ call → (call ≡ routes.run → ⊥) → IsNoRun s (request method target body closing)
no_run s method target body closing call is other effects (runs_with asks h) = other (sym is ∙ asks)

-- what an edit of this request asks for is what the call asks for
asked_by : (s : State) (method target body : List ℕ) (closing : Bool) (kind : EditKind) (expected wanted : Option ℕ) (x : Option Edit) (g : Edit) → call_of (profile_of s) method target ≡ routes.edit kind expected
    → Asks (profile_of s) kind body x → AsksFor (profile_of s) (request method target body closing) wanted g → (x ≡ Some g) × (expected ≡ wanted)
asked_by s method target body closing kind expected _ x _ is asks (asks_for {kind = other} {expected = wanted} {e = g} also what) =
    let same = edit_same kind other expected wanted (sym is ∙ also) in
    (one_asked (profile_of s) kind body x (Some g) asks (subst (λ k. Asks (profile_of s) k body (Some g)) (sym same.0) what), same.1)

module _ (one : OneLoad) where
  -- a refused edit
  refused : (s : State) (method target body : List ℕ) (closing : Bool) (kind : EditKind) (expected : Option ℕ) (e : Edit) (q : EditRefusal) → call_of (profile_of s) method target ≡ routes.edit kind expected
      → Asks (profile_of s) kind body (Some e) → q.refusal ≢ Memory → IsRefused s expected e q → IsNoEdit s (request method target body closing)
  refused s method target body closing kind expected e q is asks made refuses g h =
      let same = asked_by s method target body closing kind expected h.expected (Some e) g is asks h.asks in
      let moved : Accepts s expected e h.after = subst (λ x. Accepts s expected x h.after) (sym (some_edit e g same.0)) (subst (λ w. Accepts s w g h.after) (sym same.1) h.accepts) in
      not_accepted one s h.after expected e q made moved refuses

  made_deed : (s t : State) (method target body : List ℕ) (closing : Bool) (kind : EditKind) (expected : Option ℕ) (e : Edit) (r : Result Edited EditRefusal) (a : Said)
      → call_of (profile_of s) method target ≡ routes.edit kind expected → Asks (profile_of s) kind body (Some e) → edit_said (names_changes kind) e r ≡ Some a → Makes s expected e r t
      → Deed s t (request method target body closing)
  made_deed s t method target body closing kind expected e (Ok edited) a is asks said h = edits (asks_for is asks) h.0
  made_deed s t method target body closing kind expected e (Err q) a is asks said h =
      keeps (refused s method target body closing kind expected e q is asks (said_made (names_changes kind) e (Err q) a said) h.0)
      (no_run s method target body closing (routes.edit kind expected) is (λ clash. cc clash)) h.1

  edit_deed : (s t : State) (method target body : List ℕ) (closing : Bool) (kind : EditKind) (expected : Option ℕ) (a : Said) → call_of (profile_of s) method target ≡ routes.edit kind expected
      → Edits s expected kind body a t → Deed s t (request method target body closing)
  edit_deed s _ method target body closing kind expected _ is (makes e r {a = a} {t = t} asks said h) = made_deed s t method target body closing kind expected e r a is asks said h
  edit_deed s _ method target body closing kind expected _ is (no_batch asks) = keeps none (no_run s method target body closing (routes.edit kind expected) is (λ clash. cc clash)) refl
    where
      none : IsNoEdit s (request method target body closing)
      none g h = none_edit g (asked_by s method target body closing kind expected h.expected None g is asks h.asks).0

  call_deed : (s t : State) (method target body : List ℕ) (closing : Bool) (call : Call) (a : Said) → call_of (profile_of s) method target ≡ call → Calls s call body a t
      → Deed s t (request method target body closing)
  call_deed s t method target body closing routes.report a is h =
      keeps (no_edit s method target body closing routes.report is (λ kind expected clash. cc clash)) (no_run s method target body closing routes.report is (λ clash. cc clash)) h.1
  call_deed s t method target body closing (routes.edit kind expected) a is h = edit_deed s t method target body closing kind expected a is h
  call_deed s t method target body closing routes.run a is h =
      runs (no_edit s method target body closing routes.run is (λ kind expected clash. cc clash)) (runs_with is h.1) h.2
  call_deed s t method target body closing (routes.refused said) a is h =
      keeps (no_edit s method target body closing (routes.refused said) is (λ kind expected clash. cc clash)) (no_run s method target body closing (routes.refused said) is (λ clash. cc clash)) h.1

  pub deed : (s t : State) (r : Req) (bytes : List ℕ) → Step s r bytes t → Deed s t r
  deed s t (request method target body closing) bytes h = call_deed s t method target body closing (call_of (profile_of s) method target) h.0 refl h.1
  deed s t (refused_head refusal bodiless) bytes h = keeps (λ e k. by k.asks) (λ effects k. other k) h.1
    where
      by : {expected : Option ℕ} {e : Edit} → AsksFor (profile_of s) (refused_head refusal bodiless) expected e → ⊥
      by asks = elim asks [ ]

      other : {effects : List Effect} → RunsWith s (refused_head refusal bodiless) effects → ⊥
      other k = elim k [ ]

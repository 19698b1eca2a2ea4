-- A request, a list of requests and an event each have one answer and leave one state.
use Rattle.std.proofs.Common.{◌≡◌, ℕ, Bool, List, ◌∷◌, ◌++◌, take, Option, Some, None, IsSome, Result, Err, refl, sym, ap, ap₂, ◌∙◌, subst}
use Rattle.gql_http.specs.RunBodies as ask
use Rattle.gql_http.specs.RunBodies.{Asked, Asks, asked_by, reads, not_json, not_text}
use Rattle.gql_registry.specs.Calls.{Answers, CallOutcome, effects_in, text_of}
use Rattle.gql_registry.specs.Edits.{Edit, Makes}
use Rattle.gql_registry.specs.Laws.{OneAnswer as OneCall, OneEdit, OneReport}
use Rattle.gql_registry.specs.State.{State, profile_of, with_effects}
use Rattle.gql_stored.specs.Effects.{Effect}
use Rattle.gql_registry.specs.declared.change.EditRefusal.{EditRefusal}
use Rattle.gql_registry.specs.declared.refusal.Refusal.{Refusal}
use Rattle.gql_registry.specs.declared.refusal.Refusal.TheVariants.{Memory}
use Rattle.gql_registry.specs.declared.registry.Edited.{Edited}
use Rattle.gql_wire.specs.Head.{is_head}
use Rattle.gql_wire.specs.Stream.{request, refused as refused_head}
use Rattle.gql_wire.specs.Laws.{OneSplit}
use Rattle.gql_http.specs.Answers.{Said, answer_bytes, report_said, run_said}
use Rattle.gql_http.specs.Connections.{requests_of, joined, held_after, Serves, Breaks}
use Rattle.gql_http.specs.Editing.{Edits, edit_said, makes, names_changes, no_batch}
use Rattle.gql_http.specs.Events.{with_connection, does_open, does_feed, does_break, does_close, ignores}
use Rattle.gql_http.specs.Laws.{OneStep, OneRun, OneDeed}
use Rattle.gql_http.specs.Limits.{limit_in}
use Rattle.gql_http.specs.Routes.{Call, EditKind, report, edit, run, refused, call_of}
use Rattle.gql_http.specs.Service.{Calls, Run, Runs, calls, gives_text, bad_body, done, more}
use Rattle.serde_json.specs.Data.{Data}
use Rattle.serde_json.specs.Read.{read}
use Rattle.gql_http.proofs.Batches.{one_asked as one_asked_edit}
use Rattle.gql_http.proofs.Joining.{some_same}
use Rattle.gql_http.proofs.Refusing.{said_made}

one_said : (named : Bool) (e : Edit) (r q : Result Edited EditRefusal) (a b : Said) → edit_said named e r ≡ Some a → edit_said named e q ≡ Some b → r ≡ q → a ≡ b
one_said named e r q a b x y same = let some : ◌≡◌ {A = Option Said} (Some a) (Some b) = sym x ∙ ap (edit_said named e) same ∙ y in cc

some_edit : (e g : Edit) → Some e ≡ Some g → e ≡ g
some_edit e g same = cc same

-- a body asks for one thing
read_same : (r : Option Data) (d e : Data) → r ≡ Some d → r ≡ Some e → d ≡ e
read_same r d e x y = some_same d e (sym x ∙ y)

read_clash : (r : Option Data) (d : Data) → r ≡ Some d → r ≡ None → ⊥
read_clash r d x y = let clash : Some d ≡ None = sym x ∙ y in cc clash

one_asked : (body : List ℕ) (x y : Asked) → Asks body x → Asks body y → x ≡ y
one_asked body _ _ (reads {d = d} text is) (reads {d = e} other also) = ap asked_by (read_same (read body) d e is also)
one_asked body _ _ (reads {d = d} text is) (not_json other none) = absurd (read_clash (read body) d is none)
one_asked body _ _ (reads text is) (not_text bad) = absurd (bad text)
one_asked body _ _ (not_json text none) (reads {d = e} other also) = absurd (read_clash (read body) e also none)
one_asked body _ _ (not_json text none) (not_json other also) = refl
one_asked body _ _ (not_json text none) (not_text bad) = absurd (bad text)
one_asked body _ _ (not_text bad) (reads other also) = absurd (bad other)
one_asked body _ _ (not_text bad) (not_json other also) = absurd (bad other)
one_asked body _ _ (not_text bad) (not_text also) = refl

-- a call of an operation that is answered did not fail for memory
run_made : (r : Result CallOutcome Refusal) (a : Said) → run_said (text_of r) ≡ Some a → r ≡ Err Memory → ⊥
run_made r a said is = let none : ◌≡◌ {A = Option Said} None (Some a) = subst (λ q. run_said (text_of q) ≡ Some a) is said in cc

one_run_said : (r q : Result CallOutcome Refusal) (a b : Said) → run_said (text_of r) ≡ Some a → run_said (text_of q) ≡ Some b → r ≡ q → a ≡ b
one_run_said r q a b x y same = let some : ◌≡◌ {A = Option Said} (Some a) (Some b) = sym x ∙ ap (λ z. run_said (text_of z)) same ∙ y in cc

module _ (edits : OneEdit) (calls_one : OneCall) (reports : OneReport) where
  one_called : (s : State) (name other : Option (List ℕ)) (variables values : Data) (r q : Result CallOutcome Refusal) (a b : Said) → ask.call name variables ≡ ask.call other values
      → Answers s.files s.stored name variables r → Answers s.files s.stored other values q → run_said (text_of r) ≡ Some a → run_said (text_of q) ≡ Some b → (a ≡ b) × (effects_in r ≡ effects_in q)
  one_called s name other variables values r q a b asked h k x y =
      let names : name ≡ other = cc asked in
      let vars : variables ≡ values = cc asked in
      let moved = subst (λ n. Answers s.files s.stored n values r) names (subst (λ v. Answers s.files s.stored name v r) vars h) in
      let same = calls_one s.files s.stored other values r q moved k (run_made r a x) (run_made q b y) in
      (one_run_said r q a b x y same, ap effects_in same)

  one_run_answer : (s : State) (body : List ℕ) (a b : Said) (fs gs : List Effect) → Runs s body a fs → Runs s body b gs → (a ≡ b) × (fs ≡ gs)
  one_run_answer s body a b _ _ (calls {name = n} {variables = v} {r = r} asks h x) (calls {name = m} {variables = w} {r = q} also k y) =
      one_called s n m v w r q a b (one_asked body (ask.call n v) (ask.call m w) asks also) h k x y
  one_run_answer s body a _ _ _ (calls {name = n} {variables = v} asks h x) (gives_text also) = let clash : ask.call n v ≡ ask.stored_only = one_asked body _ _ asks also in absurd (cc clash)
  one_run_answer s body a _ _ _ (calls {name = n} {variables = v} asks h x) (bad_body also) = let clash : ask.call n v ≡ ask.bad_call = one_asked body _ _ asks also in absurd (cc clash)
  one_run_answer s body _ b _ _ (gives_text asks) (calls {name = m} {variables = w} also k y) = let clash : ask.stored_only ≡ ask.call m w = one_asked body _ _ asks also in absurd (cc clash)
  one_run_answer s body _ _ _ _ (gives_text asks) (gives_text also) = (refl, refl)
  one_run_answer s body _ _ _ _ (gives_text asks) (bad_body also) = let clash : ask.stored_only ≡ ask.bad_call = one_asked body _ _ asks also in absurd (cc clash)
  one_run_answer s body _ b _ _ (bad_body asks) (calls {name = m} {variables = w} also k y) = let clash : ask.bad_call ≡ ask.call m w = one_asked body _ _ asks also in absurd (cc clash)
  one_run_answer s body _ _ _ _ (bad_body asks) (gives_text also) = let clash : ask.bad_call ≡ ask.stored_only = one_asked body _ _ asks also in absurd (cc clash)
  one_run_answer s body _ _ _ _ (bad_body asks) (bad_body also) = (refl, refl)

  -- an edit that two bodies of an answer are of
  one_made : (s t u : State) (expected : Option ℕ) (kind : EditKind) (e g : Edit) (r q : Result Edited EditRefusal) (a b : Said) → e ≡ g → edit_said (names_changes kind) e r ≡ Some a → Makes s expected e r t
      → edit_said (names_changes kind) g q ≡ Some b → Makes s expected g q u → (a ≡ b) × (t ≡ u)
  one_made s t u expected kind e g r q a b is said h also k =
      let moved : edit_said (names_changes kind) e q ≡ Some b = subst (λ x. edit_said (names_changes kind) x q ≡ Some b) (sym is) also in
      let same = edits s t u expected e r q h (subst (λ x. Makes s expected x q u) (sym is) k) (said_made (names_changes kind) e r a said) (said_made (names_changes kind) e q b moved) in
      (one_said (names_changes kind) e r q a b said moved same.0, same.1)

  one_answer : (s t u : State) (expected : Option ℕ) (kind : EditKind) (body : List ℕ) (a b : Said) → Edits s expected kind body a t → Edits s expected kind body b u → (a ≡ b) × (t ≡ u)
  one_answer s _ _ expected kind body _ _ (makes e r {a = a} {t = t} asks said h) (makes g q {a = b} {t = u} others also k) =
      one_made s t u expected kind e g r q a b (some_edit e g (one_asked_edit (profile_of s) kind body (Some e) (Some g) asks others)) said h also k
  one_answer s _ _ expected kind body _ _ (makes e r asks said h) (no_batch others) = let clash : Some e ≡ None = one_asked_edit (profile_of s) kind body (Some e) None asks others in absurd (cc clash)
  one_answer s _ _ expected kind body _ _ (no_batch asks) (makes g q others also k) = let clash : Some g ≡ None = one_asked_edit (profile_of s) kind body (Some g) None others asks in absurd (cc clash)
  one_answer s _ _ expected kind body _ _ (no_batch asks) (no_batch others) = (refl, refl)

  one_call : (s t u : State) (call : Call) (body : List ℕ) (a b : Said) → Calls s call body a t → Calls s call body b u → (a ≡ b) × (t ≡ u)
  one_call s t u report body a b h k = (h.0.2 ∙ ap (report_said s.revision) (reports s.files h.0.0 k.0.0 h.0.1 k.0.1) ∙ sym k.0.2, h.1 ∙ sym k.1)
  one_call s t u (edit kind expected) body a b h k = one_answer s t u expected kind body a b h k
  one_call s t u run body a b h k = let same = one_run_answer s body a b h.0 k.0 h.1 k.1 in (same.0, h.2 ∙ ap (with_effects s) same.1 ∙ sym k.2)
  one_call s t u (refused said) body a b h k = (h.0 ∙ sym k.0, h.1 ∙ sym k.1)

  pub one_step_lem : OneStep
  one_step_lem s t u (request method target body closing) a b h k =
      let same = one_call s t u (call_of (profile_of s) method target) body h.0 k.0 h.1 k.1 in
      (h.2 ∙ ap (answer_bytes closing (is_head method)) same.0 ∙ sym k.2, same.1)
  one_step_lem s t u (refused_head refusal bodiless) a b h k = (h.0 ∙ sym k.0, h.1 ∙ sym k.1)

  pub one_run_lem : OneRun
  one_run_lem s _ _ _ _ _ done done = (refl, refl)
  one_run_lem s t u _ _ _ (more {t = v} {r = r} {rs = rs} {bytes = a} {answers = ls} x h) (more {t = w} {bytes = b} {answers = ms} y k) =
      let first = one_step_lem s v w r a b x y in
      let rest = one_run_lem v t u rs ls ms h (subst (λ z. Run z rs ms u) (sym first.1) k) in
      (ap₂ (λ p q. p ∷ q) first.0 rest.0, rest.1)

  module _ (split : OneSplit) where
    one_service : (s t u : State) (bytes a b : List ℕ) (p q : Option (List ℕ)) → Serves s bytes a t p → Serves s bytes b u q → (a ≡ b) × (t ≡ u) × (p ≡ q)
    one_service s t u bytes a b p q h k =
        let same = split (limit_in s) 0 bytes h.requests k.requests h.rest k.rest h.splits k.splits in
        let runs = one_run_lem s t u (requests_of h.requests) h.answers k.answers h.run (subst (λ ps. Run s (requests_of ps) k.answers u) (sym same.0) k.run) in
        (h.written ∙ ap joined runs.0 ∙ sym k.written, runs.1, h.left ∙ ap₂ (λ ps r. held_after (requests_of ps) r) same.0 same.1 ∙ sym k.left)

    one_break : (s t u : State) (bytes a b : List ℕ) (made : ℕ) → Breaks s bytes a t made → Breaks s bytes b u made → (a ≡ b) × (t ≡ u)
    one_break s t u bytes a b made h k =
        let same = split (limit_in s) 0 bytes h.requests k.requests h.rest k.rest h.splits k.splits in
        let runs = one_run_lem s t u (take made (requests_of h.requests)) h.answers k.answers h.run (subst (λ ps. Run s (take made (requests_of ps)) k.answers u) (sym same.0) k.run) in
        (h.written ∙ ap joined runs.0 ∙ sym k.written, runs.1)

    held_same : (o : Option (List ℕ)) (a b : List ℕ) → o ≡ Some a → o ≡ Some b → b ≡ a
    held_same o a b x y = some_same b a (sym y ∙ x)

    is_open : (o : Option (List ℕ)) (a : List ℕ) → o ≡ Some a → IsSome o
    is_open o a is = rw is refl

    pub one_deed_lem : OneDeed
    one_deed_lem s _ _ rests _ _ _ _ _ (does_open x) (does_open y) = (refl, refl, refl)
    one_deed_lem s _ _ rests _ _ _ _ _ (does_open x) (ignores barred) = absurd (barred x)
    one_deed_lem s _ _ rests _ _ _ _ _ (does_feed {t = t} {c = c} {piece = piece} {held = held} {out = a} {rest = p} here h) (does_feed {t = u} {held = other} {out = b} {rest = q} there k) =
        let same = one_service s t u (held ++ piece) a b p q h (subst (λ bytes. Serves s (bytes ++ piece) b u q) (held_same (rests c) held other here there) k) in
        (same.0, same.1, ap (λ r. with_connection rests c r) same.2)
    one_deed_lem s _ _ rests _ _ _ _ _ (does_feed {c = c} {held = held} here h) (ignores barred) = absurd (barred (is_open (rests c) held here))
    one_deed_lem s _ _ rests _ _ _ _ _ (does_break {t = t} {c = c} {made = made} {piece = piece} {held = held} {out = a} here h) (does_break {t = u} {held = other} {out = b} there k) =
        let same = one_break s t u (held ++ piece) a b made h (subst (λ bytes. Breaks s (bytes ++ piece) b u made) (held_same (rests c) held other here there) k) in
        (same.0, same.1, refl)
    one_deed_lem s _ _ rests _ _ _ _ _ (does_break {c = c} {held = held} here h) (ignores barred) = absurd (barred (is_open (rests c) held here))
    one_deed_lem s _ _ rests _ _ _ _ _ (does_close x) (does_close y) = (refl, refl, refl)
    one_deed_lem s _ _ rests _ _ _ _ _ (does_close x) (ignores barred) = absurd (barred x)
    one_deed_lem s _ _ rests _ _ _ _ _ (ignores barred) (does_open x) = absurd (barred x)
    one_deed_lem s _ _ rests _ _ _ _ _ (ignores barred) (does_feed {c = c} {held = held} here h) = absurd (barred (is_open (rests c) held here))
    one_deed_lem s _ _ rests _ _ _ _ _ (ignores barred) (does_break {c = c} {held = held} here h) = absurd (barred (is_open (rests c) held here))
    one_deed_lem s _ _ rests _ _ _ _ _ (ignores barred) (does_close x) = absurd (barred x)
    one_deed_lem s _ _ rests _ _ _ _ _ (ignores barred) (ignores other) = (refl, refl, refl)

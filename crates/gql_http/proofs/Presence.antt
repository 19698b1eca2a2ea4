-- Files then present: what each name holds after requests.
use Rattle.std.proofs.Common.{◌≡◌, ℕ, List, [], ◌∷◌, ◌++◌, None, refl, sym, ap, ◌∙◌, subst}
use Rattle.gql_ast.specs.FileMaps.{file_named, name_order}
use Rattle.gql_ast.specs.declared.fault.Fault.{Fault}
use Rattle.gql_ast.specs.declared.fault.FileSide.{FileSide}
use Rattle.gql_ast.specs.declared.fault.FileSide.TheVariants.{Schema, Documents}
use Rattle.gql_ast.specs.declared.files.Files.{Files}
use Rattle.gql_ast.specs.declared.profile.Profile.{Profile}
use Rattle.std.specs.List.Sorted.{IsStrictlySortedBy}
use Rattle.std.specs.Map.{keys_of}
use Rattle.gql_registry.specs.Laws.{HoldsAfter, IsOrderedOn, OneLoad, under}
use Rattle.gql_registry.specs.Report.{IsReport}
use Rattle.gql_registry.specs.Sides.{files_on}
use Rattle.gql_registry.specs.State.{State, empty_in, profile_of}
use Rattle.gql_wire.specs.Head.{is_head}
use Rattle.gql_wire.specs.Stream.{Req, request}
use Rattle.gql_http.specs.Answers.{Said, answer_bytes, report_said}
use Rattle.gql_http.specs.History.{Holds, no_requests, by_edit, by_other}
use Rattle.gql_http.specs.Laws.{FilesPresent, ReportThen}
use Rattle.gql_http.specs.Routes.{Call, report, call_of}
use Rattle.gql_http.specs.Service.{Step, Calls, Run, done, more}
use Rattle.gql_http.proofs.KeptLimit.{run_keeps}
use Rattle.gql_http.proofs.RequestDeeds.{Deed, IsNoEdit, deed, edits, keeps, runs}

module _ (one : OneLoad) (holds : HoldsAfter) where
  held : (s t : State) (rs : List Req) (answers : List (List ℕ)) (side : FileSide) (name : List ℕ) → ((on : FileSide) → IsOrderedOn on s) → Run s rs answers t → Holds side name s (under side name s) rs (under side name t)
  held s _ _ _ side name ordered done = no_requests
  held s t _ _ side name ordered (more {t = u} {r = r} {rs = rs} {bytes = bytes} {answers = answers} step run) =
      by (deed one s u r bytes step) (λ still. held u t rs answers side name still run)
    where
      Later : Type 0
      Later = ((on : FileSide) → IsOrderedOn on u) → Holds side name u (under side name u) rs (under side name t)

      kept : u.files ≡ s.files → IsNoEdit s r → Later → Holds side name s (under side name s) (r ∷ rs) (under side name t)
      kept same none rest =
          by_other bytes none step (subst (λ o. Holds side name u o rs (under side name t)) (ap (λ (fs : Files). file_named (files_on side fs) name) same) (rest (λ on. subst (λ (fs : Files). IsStrictlySortedBy name_order (keys_of (files_on on fs))) (sym same) (ordered on))))

      by : Deed s u r → Later → Holds side name s (under side name s) (r ∷ rs) (under side name t)
      by (edits {expected = expected} {e = e} asks accepts) rest =
          by_edit bytes (record { expected = expected; asks = asks; after = u; accepts = accepts }) ((holds s u expected e side (ordered side) accepts).1 name) step (rest (λ on. (holds s u expected e on (ordered on) accepts).0))
      by (runs none ran same) rest = kept (ap (λ (x : State). x.files) same) none rest
      by (keeps none other same) rest = kept (ap (λ (x : State). x.files) same) none rest

  pub files_present_lem : FilesPresent
  unfolding Rattle.std.specs.List.Sorted.IsStrictlySortedBy
  files_present_lem profile t rs answers side name run =
      subst (λ o. Holds side name (empty_in profile) o rs (under side name t)) (nothing side) (held (empty_in profile) t rs answers side name ordered run)
    where
      nothing : (on : FileSide) → under on name (empty_in profile) ≡ None
      nothing Schema = refl
      nothing Documents = refl

      ordered : (on : FileSide) → IsOrderedOn on (empty_in profile)
      ordered Schema = tt
      ordered Documents = tt

-- ---- the report of the files then present

pub record Split (s u : State) (front rest : List Req) (r : Req) (answers : List (List ℕ)) : Type 0 where
  pub before : List (List ℕ)
  pub after : List (List ℕ)
  pub bytes : List ℕ
  pub t : State
  pub v : State
  pub first : Run s front before t
  pub step : Step t r bytes v
  pub then : Run v rest after u
  pub is : answers ≡ before ++ (bytes ∷ after)

pub split_run : (s u : State) (front rest : List Req) (r : Req) (answers : List (List ℕ)) → Run s (front ++ (r ∷ rest)) answers u → Split s u front rest r answers
split_run s u [] rest r _ (more {t = v} {bytes = bytes} {answers = after} step run) =
    record { before = []; after = after; bytes = bytes; t = s; v = v; first = done; step = step; then = run; is = refl }
split_run s u (q ∷ front) rest r _ (more {t = v} {bytes = bytes} {answers = answers} step run) =
    let ih = split_run v u front rest r answers run in
    record { before = bytes ∷ ih.before; after = ih.after; bytes = ih.bytes; t = ih.t; v = ih.v; first = more step ih.first; step = ih.step; then = ih.then; is = ap (λ xs. bytes ∷ xs) ih.is }

report_by : (s t : State) (call : Call) (body : List ℕ) (a : Said) → call ≡ report → Calls s call body a t
    → ((faults : List Fault) × IsReport s.files faults × (a ≡ report_said s.revision faults)) × (t ≡ s)
report_by s t call body a is h = subst (λ k. Calls s k body a t) is h

pub report_then_lem : ReportThen
report_then_lem s u front rest method target body closing answers is run =
    let p = split_run s u front rest (request method target body closing) answers run in
    let there : call_of (profile_of p.t) method target ≡ report = subst (λ (q : Profile). call_of q method target ≡ report) (sym (run_keeps s p.t front p.before p.first)) is in
    let h = report_by p.t p.v (call_of (profile_of p.t) method target) body p.step.0 there p.step.1 in (
      p.before,
      p.after,
      p.t,
      h.0.0,
      p.first,
      h.0.1,
      p.is ∙ ap (λ bytes. p.before ++ (bytes ∷ p.after)) (p.step.2 ∙ ap (answer_bytes closing (is_head method)) h.0.2),
      subst (λ v. Run v rest p.after u) h.1 p.then,
    )

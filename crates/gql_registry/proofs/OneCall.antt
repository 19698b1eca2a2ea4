-- A call has one answer.
use Rattle.std.proofs.Common.{◌≡◌, ◌<◌, ◌≤◌, List, [], ◌∷◌, Option, Some, None, Result, Ok, Err, refl, sym, ap, subst, ◌∙◌, ℕ, arith, true, false}
use Rattle.gql_ast.specs.declared.definition.Definition.{Definition}
use Rattle.gql_ast.specs.declared.definition.Tree.TheVariants as tree
use Rattle.gql_ast.specs.declared.executable.Operation.{Operation}
use Rattle.gql_ast.specs.declared.fault.Fault.{Fault}
use Rattle.gql_ast.specs.declared.files.Files.{Files}
use Rattle.gql_exec.specs.Laws.{OneResponse}
use Rattle.gql_steps.specs.Requests.{Executes, Response, request_of}
use Rattle.gql_facts.specs.ListMembers.{Contains-here}
use Rattle.gql_registry.specs.Chosen.{chosen}
use Rattle.gql_report.specs.Laws.{OneOrder}
use Rattle.gql_registry.specs.Calls.{AreAgainst, Answers, CallOutcome, outcome_of, IsResponse, IsServed, StandsAgainst, no_operation, faulty, not_run, too_large, served, memory}
use Rattle.gql_registry.specs.Laws.{OneAnswer}
use Rattle.gql_registry.specs.Runs.{is_run}
use Rattle.gql_registry.specs.declared.refusal.Refusal.{Refusal}
use Rattle.gql_registry.specs.declared.refusal.Refusal.TheVariants as refusal
use Rattle.serde_json.specs.Data.{Data}

-- the operation of a tree
operation_same : (d : Definition) (a b : Operation) → d.tree ≡ tree.Operation a → d.tree ≡ tree.Operation b → a ≡ b
operation_same d a b is_a is_b = let same : tree.Operation a ≡ tree.Operation b = sym is_a ∙ is_b in cc same

chosen_same : (o : Option Definition) (a b : Definition) → o ≡ Some a → o ≡ Some b → a ≡ b
chosen_same o a b is_a is_b = let same : Some a ≡ Some b = sym is_a ∙ is_b in cc same

module _ (responses : OneResponse) (orders : OneOrder) (files : Files) (stored : Data) (name : Option (List ℕ)) (variables : Data) where
  one_response : (p q : Response) → IsResponse files stored name variables p → IsResponse files stored name variables q → p ≡ q
  one_response p q h k =
      let d : h.definition ≡ k.definition = chosen_same (chosen files.documents name) h.definition k.definition h.served.called k.served.called in
      let there : h.definition.tree ≡ tree.Operation k.operation = ap (λ (x : Definition). x.tree) d ∙ k.served.operation in
      let o : h.operation ≡ k.operation = operation_same h.definition h.operation k.operation h.served.operation there in
      responses (request_of files k.definition k.operation variables stored) p q
      (subst (λ (y : Operation). Executes (request_of files k.definition y variables stored) p) o
      (subst (λ (x : Definition). Executes (request_of files x h.operation variables stored) p) d h.executes))
      k.executes

  -- a fault that stands against an operation which is served
  no_faults : (d e : Definition) (o : Operation) (faults : List Fault) → chosen files.documents name ≡ Some d → AreAgainst files d faults → (faults ≡ [] → ⊥) → IsServed files name e o → ⊥
  no_faults d e o [] called are some h = some refl
  no_faults d e o (f ∷ fs) called are some h =
      let same : d ≡ e = chosen_same (chosen files.documents name) d e called h.called in
      h.sound f (subst (λ x. StandsAgainst files x f) same ((are.1 f).0 (Contains-here f fs)))

  -- an operation that is not run has no response
  no_response : (d : Definition) (o : Operation) (p : Response) → IsServed files name d o → is_run o.kind ≡ false → IsResponse files stored name variables p → ⊥
  no_response d o p s not h =
      let same : d ≡ h.definition = chosen_same (chosen files.documents name) d h.definition s.called h.served.called in
      let there : h.definition.tree ≡ tree.Operation o = sym (ap (λ (x : Definition). x.tree) same) ∙ s.operation in
      let one : o ≡ h.operation = operation_same h.definition o h.operation there h.served.operation in
      let clash : true ≡ false = sym h.run ∙ sym (ap (λ (x : Operation). is_run x.kind) one) ∙ not in
      cc clash

  same_faults : (d e : Definition) (fs gs : List Fault) → chosen files.documents name ≡ Some d → chosen files.documents name ≡ Some e → AreAgainst files d fs → AreAgainst files e gs → fs ≡ gs
  same_faults d e fs gs called_d called_e are_d are_e =
      let same : d ≡ e = chosen_same (chosen files.documents name) d e called_d called_e in
      let are : AreAgainst files e fs = subst (λ x. AreAgainst files x fs) same are_d in
      orders fs gs are.0 are_e.0 (λ f. (λ h. (are_e.1 f).1 ((are.1 f).0 h), λ h. (are.1 f).1 ((are_e.1 f).0 h)))

  heavy : (p q : Response) → p ≡ q → files.profile.limits.values < p.weight → q.weight ≤ files.profile.limits.values → ⊥
  heavy p q same more most = omega (arith, more, most, ap (λ (r : Response). r.weight) same)

  one : (r q : Result CallOutcome Refusal) → Answers files stored name variables r → Answers files stored name variables q → (r ≡ Err refusal.Memory → ⊥) → (q ≡ Err refusal.Memory → ⊥) → r ≡ q
  one _ _ memory k made other = absurd (made refl)
  one _ _ h memory made other = absurd (other refl)
  one _ _ (no_operation is) (no_operation also) made other = refl
  one _ _ (no_operation is) (faulty called are some) made other = let clash : None ≡ Some _ = sym is ∙ called in absurd (cc clash)
  one _ _ (no_operation is) (too_large h more) made other = let clash : None ≡ Some h.definition = sym is ∙ h.served.called in absurd (cc clash)
  one _ _ (no_operation is) (served h most) made other = let clash : None ≡ Some h.definition = sym is ∙ h.served.called in absurd (cc clash)
  one _ _ (faulty called are some) (no_operation is) made other = let clash : None ≡ Some _ = sym is ∙ called in absurd (cc clash)
  one _ _ (faulty {d = d} {faults = fs} called are some) (faulty {d = e} {faults = gs} called_e are_e some_e) made other =
      ap (λ (xs : List Fault). let a : Result CallOutcome Refusal = Err (refusal.Faulty xs) in a) (same_faults d e fs gs called called_e are are_e)
  one _ _ (faulty {d = d} {faults = fs} called are some) (too_large {p = p} h more) made other = absurd (no_faults d h.definition h.operation fs called are some h.served)
  one _ _ (faulty {d = d} {faults = fs} called are some) (served {p = p} h most) made other = absurd (no_faults d h.definition h.operation fs called are some h.served)
  one _ _ (no_operation is) (not_run s not) made other = let clash : None ≡ Some _ = sym is ∙ s.called in absurd (cc clash)
  one _ _ (not_run s not) (no_operation is) made other = let clash : None ≡ Some _ = sym is ∙ s.called in absurd (cc clash)
  one _ _ (faulty {d = d} {faults = fs} called are some) (not_run {d = e} {o = o} s not) made other = absurd (no_faults d e o fs called are some s)
  one _ _ (not_run {d = e} {o = o} s not) (faulty {d = d} {faults = fs} called are some) made other = absurd (no_faults d e o fs called are some s)
  one _ _ (not_run s not) (not_run t also) made other = refl
  one _ _ (not_run {d = d} {o = o} s not) (too_large {p = p} h more) made other = absurd (no_response d o p s not h)
  one _ _ (not_run {d = d} {o = o} s not) (served {p = p} h most) made other = absurd (no_response d o p s not h)
  one _ _ (too_large {p = p} h more) (not_run {d = d} {o = o} s not) made other = absurd (no_response d o p s not h)
  one _ _ (served {p = p} h most) (not_run {d = d} {o = o} s not) made other = absurd (no_response d o p s not h)
  one _ _ (too_large h more) (no_operation is) made other = let clash : None ≡ Some h.definition = sym is ∙ h.served.called in absurd (cc clash)
  one _ _ (too_large {p = p} h more) (faulty {d = d} {faults = fs} called are some) made other = absurd (no_faults d h.definition h.operation fs called are some h.served)
  one _ _ (too_large h more) (too_large k also) made other = refl
  one _ _ (too_large {p = p} h more) (served {p = q} k most) made other = absurd (heavy p q (one_response p q h k) more most)
  one _ _ (served h most) (no_operation is) made other = let clash : None ≡ Some h.definition = sym is ∙ h.served.called in absurd (cc clash)
  one _ _ (served {p = p} h most) (faulty {d = d} {faults = fs} called are some) made other = absurd (no_faults d h.definition h.operation fs called are some h.served)
  one _ _ (served {p = p} h most) (too_large {p = q} k more) made other = absurd (heavy q p (one_response q p k h) more most)
  one _ _ (served {p = p} h most) (served {p = q} k also) made other =
      ap (λ (r : Response). let a : Result CallOutcome Refusal = Ok (outcome_of r) in a) (one_response p q h k)

pub one_answer : OneResponse → OneOrder → OneAnswer
one_answer responses orders files stored name variables r q h k made other = one responses orders files stored name variables r q h k made other

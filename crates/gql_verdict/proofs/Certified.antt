-- What a world recorded of what a definition reads, with the faults, makes a verdict.
use Rattle.std.specs.Prelude.{◌≡◌, ◌⊎◌, List, ◌++◌, map, Contains}
use Rattle.std.proofs.Common.{sym, ◌∙◌, ap, append_assoc, flat_map, refl, subst, inl, inr, [], ◌∷◌}
use Rattle.std.proofs.lemmas.List.Elements.{Contains-append_left, Contains-append_right, Contains-append_cases}
use Rattle.gql_ast.specs.declared.definition.Definition.{Definition}
use Rattle.gql_ast.specs.declared.fault.Fault.{Fault}
use Rattle.gql_ast.specs.declared.fault.FilePlace.{FilePlace}
use Rattle.gql_facts.specs.Members.{Lists}
use Rattle.gql_facts.specs.Reads.{Agree, Reads}
use Rattle.gql_facts.specs.Worlds.{Facts}
use Rattle.gql_facts.proofs.Agreement.{reads_back, reads_there}
use Rattle.gql_merge.proofs.View as merging
use Rattle.gql_merge.specs.MergeFaults.{IsMergeFault}
use Rattle.gql_rules.specs.LocalFaults.{IsFault, owner_of}
use Rattle.gql_rules.proofs.View as definitions
use Rattle.gql_vars.specs.VariableFaults.{IsVariableFault}
use Rattle.gql_vars.proofs.View as variables
use Rattle.gql_single_root.proofs.Reading as roots
use Rattle.gql_verdict.specs.Faults.{IsFaultIn, by_definition, by_merging, by_root, by_variables}
use Rattle.gql_verdict.specs.V30SingleRootField.{IsRootFault, fault_of, of_root}
use Rattle.gql_single_root.specs.V30SingleRootField.{IsSingleRootFault}
use Rattle.gql_single_root.specs.declared.fault.RootFault.{RootFault}
use Rattle.gql_facts.specs.ListMembers.{Contains-map}
use Rattle.gql_reads.specs.Leading.{AreLed}
use Rattle.gql_reads.specs.Observations.{Hold, keys_of, observed, observed_in}
use Rattle.gql_reads.specs.Readings.{answers_in, flat, seen_in}
use Rattle.gql_reads.specs.Records.{Kept}
use Rattle.gql_reads.specs.declared.observation.Answer.{Answer}
use Rattle.gql_reads.specs.declared.reading.Reading.{Reading}
use Rattle.gql_reads.specs.declared.observation.Observation.{Observation}
use Rattle.gql_reads.proofs.Members.{Contains-map_from}
use Rattle.gql_verdict.specs.Verdicts.{AreReadsOf, IsCertificate, IsFounded, Judges}

-- ---- faults by all rules

-- facts that agree on what d reads give it the same faults
module _ (v u : Facts) (d : Definition) (agree : Agree v u d) where
  pub faults_there : (f : Fault) → IsFaultIn v d f → IsFaultIn u d f
  faults_there f (by_definition h) = by_definition ((definitions.same_faults v u d agree f).0 h)
  faults_there f (by_variables h) = by_variables ((variables.same_faults v u d agree f).0 h)
  faults_there f (by_merging h) = by_merging ((merging.same_faults v u d agree f).0 h)
  faults_there f (by_root (of_root {x = x} h)) = by_root (of_root ((roots.same_faults v u d agree x).0 h))

  pub faults_back : (f : Fault) → IsFaultIn u d f → IsFaultIn v d f
  faults_back f (by_definition h) = by_definition ((definitions.same_faults v u d agree f).1 h)
  faults_back f (by_variables h) = by_variables ((variables.same_faults v u d agree f).1 h)
  faults_back f (by_merging h) = by_merging ((merging.same_faults v u d agree f).1 h)
  faults_back f (by_root (of_root {x = x} h)) = by_root (of_root ((roots.same_faults v u d agree x).1 h))

-- two lists together have the members of both
pub Lists-append : {A : Type 0} {P Q : A → Type 0} (xs ys zs : List A) → Lists xs P → Lists ys Q → zs ≡ xs ++ ys
    → Lists zs (λ x. P x ⊎ Q x)
Lists-append xs ys zs first second is = rw is (record {
  sound = λ x c. elim (Contains-append_cases xs ys x c) [
    | inl a ↦ inl (first.sound x a)
    | inr b ↦ inr (second.sound x b)
  ];
  complete = λ x q. elim q [
    | inl p ↦ Contains-append_left xs ys x (first.complete x p)
    | inr p ↦ Contains-append_right xs ys x (second.complete x p)
  ];
})

-- the faults by the rules of each crate are those by all rules
pub by_all : (F : Facts) (d : Definition) (found : List Fault)
    → Lists found (λ f. ((IsFault F d f ⊎ IsVariableFault F d f) ⊎ IsRootFault F d f) ⊎ IsMergeFault F d f) → Lists found (IsFaultIn F d)
by_all F d found lists = record {
  sound = λ f c. elim (lists.sound f c) [
    | inl r ↦ elim r [
      | inl q ↦ elim q [ inl h ↦ by_definition h | inr h ↦ by_variables h ]
      | inr h ↦ by_root h
    ]
    | inr h ↦ by_merging h
  ];
  complete = λ f q. lists.complete f (by_one f q);
} where
  by_one : (f : Fault) → IsFaultIn F d f → ((IsFault F d f ⊎ IsVariableFault F d f) ⊎ IsRootFault F d f) ⊎ IsMergeFault F d f
  by_one f (by_definition h) = inl (inl (inl h))
  by_one f (by_variables h) = inl (inl (inr h))
  by_one f (by_root h) = inl (inr h)
  by_one f (by_merging h) = inr h

-- the faults by the rule on root fields, as a report has them
pub of_roots : (F : Facts) (d : Definition) (xs ys : List RootFault) (owner : FilePlace) (found : List Fault)
    → found ≡ map (fault_of owner) ys → owner ≡ owner_of d → ys ≡ xs → Lists xs (IsSingleRootFault F d) → Lists found (IsRootFault F d)
of_roots F d xs ys owner found is owned same lists =
    subst (λ l. Lists l (IsRootFault F d)) (sym (is ∙ ap (λ o. map (fault_of o) ys) owned ∙ ap (map (fault_of (owner_of d))) same)) (record {
      sound = λ f c. let m = Contains-map_from (fault_of (owner_of d)) xs f c in
          subst (IsRootFault F d) m.2 (of_root (lists.sound m.0 m.1));
      complete = λ f q. by f q;
    }) where
      by : (f : Fault) → IsRootFault F d f → Contains (map (fault_of (owner_of d)) xs) f
      by f (of_root {x = x} h) = Contains-map (fault_of (owner_of d)) xs x (lists.complete x h)

-- ---- the verdict

module _ (F : Facts) (d : Definition) (os : List Observation) (holds : Hold F os) (keys : Lists (keys_of os) (Reads F d)) where
  -- where the observations hold, the facts agree on what d reads
  agrees : (u : Facts) → Hold u os → Agree F u d
  agrees u h k r =
      let m = Contains-map_from (λ (o : Observation). o.key) os k (keys.complete k r) in
      subst (λ j. u j ≡ F j) m.2 (h m.0 m.1 ∙ sym (holds m.0 m.1))

  certificate : (e : Definition) (faults : List Fault) → e ≡ d → Lists faults (IsFaultIn F d) → IsCertificate e faults os
  certificate e faults is l = rw is (λ u h. record {
    sound = λ f c. faults_there F u d (agrees u h) f (l.sound f c);
    complete = λ f q. l.complete f (faults_back F u d (agrees u h) f q);
  })

  -- wherever the observations hold, their keys are those that the definition reads
  reads : (e : Definition) → e ≡ d → AreReadsOf e os
  reads e is = rw is (λ u h. record {
    sound = λ k c. reads_there F u d (agrees u h) (keys.sound k c);
    complete = λ k r. keys.complete k (reads_back F u d (agrees u h) r);
  })

  pub founded : (e : Definition) (faults : List Fault) → e ≡ d → Lists faults (IsFaultIn F d) → IsFounded e faults os
  founded e faults is l = record { certificate = certificate e faults is l; keys = reads e is }

  pub judged : (e : Definition) (faults : List Fault) (xs : List Answer) → e ≡ d → Lists faults (IsFaultIn F d) → os ≡ observed_in xs → AreLed xs
      → Judges F d (record { def = e; faults = faults; observations = os; answers = xs })
  judged e faults xs is l flat led = record { def = is; certificate = certificate e faults is l; holds = holds; keys = keys; read = record { flat = flat; led = led; keys = reads e is } }

-- all observations of a reading are those of its answers
pub flat_is : (r : Reading) → flat r ≡ observed_in (answers_in r)
flat_is r = ap (λ l. observed_in r.own.record ++ l) (parts r.parts.items) ∙ sym (observed_append r.own.record (flat_map (λ (p : Kept). p.seen) r.parts.items)) where
  observed_append : (xs ys : List Answer) → observed_in (xs ++ ys) ≡ observed_in xs ++ observed_in ys
  observed_append [] ys = refl
  observed_append (x ∷ xs) ys = ap (λ l. observed x ++ l) (observed_append xs ys) ∙ sym (append_assoc (observed x) (observed_in xs) (observed_in ys))

  parts : (ps : List Kept) → seen_in ps ≡ observed_in (flat_map (λ (p : Kept). p.seen) ps)
  parts [] = refl
  parts (p ∷ ps) = ap (λ l. observed_in p.seen ++ l) (parts ps) ∙ sym (observed_append p.seen (flat_map (λ (q : Kept). q.seen) ps))

-- The faults of a definition are those of its parts, and that of a cycle.
use Rattle.std.specs.Prelude.{◌≡◌, List, [], ◌∷◌, ◌++◌, ◌↔◌, Contains, Option, Some, None, Bool, true, false, IsTrue}
use Rattle.std.proofs.Common.{ap, sym, ◌∙◌, subst, inl, inr, true≢false}
use Rattle.std.proofs.lemmas.List.Elements.{Contains-append_left, Contains-append_right, Contains-push_cases}
use Rattle.gql_ast.specs.declared.definition.Definition.{Definition}
use Rattle.gql_ast.specs.declared.executable.Fragment.{Fragment}
use Rattle.gql_ast.specs.declared.fault.Fault.{Fault}
use Rattle.gql_ast.specs.declared.fault.FilePlace.{FilePlace}
use Rattle.gql_facts.specs.ListMembers.{Contains-here}
use Rattle.gql_facts.specs.Members.{Lists}
use Rattle.gql_facts.specs.Worlds.{Facts}
use Rattle.gql_rules.specs.LocalFaults.{IsFault, of_part, of_cycle, AddsCycle, cyclic, other, tree_faults, owner_of}
use Rattle.gql_rules.specs.V16FragmentSpreadsMustNotFormCycles as v16

module _ (facts : Facts) (d : Definition) where
  abbrev pub parts : List Fault
  parts = tree_faults facts (owner_of d) d.tree

  some_is : {A : Type 0} {a b : A} → Some a ≡ Some b → a ≡ b
  some_is {a = a} same = ap (or a) same where
    or : {A : Type 0} → A → Option A → A
    or x None = x
    or x (Some y) = y

  apart : {A : Type 0} {x : A} → None ≡ Some x → ⊥
  apart {A = A} same = subst (λ o. Empty o) same tt where
    Empty : Option A → Type 0
    Empty None = Unit {0}
    Empty (Some x) = ⊥

  -- a definition that is no fragment
  pub no_fragment : (before : List Fault) → v16.own_fragment d.tree ≡ None → AddsCycle facts d before before
  no_fragment before is = other (λ k its e. apart (sym is ∙ its))

  -- a fragment that does not reach itself
  pub not_cyclic : (before : List Fault) (g : Fragment) (is : Bool) → v16.own_fragment d.tree ≡ Some g → is ≡ false → (IsTrue is ↔ v16.IsCyclic facts d g)
      → AddsCycle facts d before before
  not_cyclic before g is own unlike found = other (λ k its e. true≢false (sym (found.1 (subst (v16.IsCyclic facts d) (some_is (sym its ∙ own)) e)) ∙ unlike))

  -- a fragment that reaches itself
  pub added : (before after : List Fault) (owner : FilePlace) (g got : Fragment) (is : Bool) → owner ≡ owner_of d → got ≡ g → v16.own_fragment d.tree ≡ Some g
      → is ≡ true → (IsTrue is ↔ v16.IsCyclic facts d g) → after ≡ before ++ v16.fault owner got ∷ [] → AddsCycle facts d before after
  added before after owner g got is here same own true_of found adds =
      subst (AddsCycle facts d before) (sym (adds ∙ ap (λ o. before ++ v16.fault o got ∷ []) here ∙ ap (λ h. before ++ v16.fault (owner_of d) h ∷ []) same)) (cyclic own (found.0 true_of))

  pub lists : (before found : List Fault) → before ≡ parts → AddsCycle facts d before found → Lists found (IsFault facts d)
  lists before found is (cyclic {g = g} own c) = record {
    sound = λ x h. elim (Contains-push_cases before (v16.fault (owner_of d) g) x h) [
      | inl m ↦ of_part (subst (λ l. Contains l x) is m)
      | inr same ↦ subst (λ y. IsFault facts d y) same (of_cycle own c)
    ];
    complete = λ x f. complete x f;
  } where
    complete : (x : Fault) → IsFault facts d x → Contains (before ++ v16.fault (owner_of d) g ∷ []) x
    complete x (of_part h) = Contains-append_left before (v16.fault (owner_of d) g ∷ []) x (subst (λ l. Contains l x) (sym is) h)
    complete x (of_cycle {g = k} its e) = subst (λ j. Contains (before ++ v16.fault (owner_of d) g ∷ []) (v16.fault (owner_of d) j)) (some_is (sym own ∙ its))
        (Contains-append_right before (v16.fault (owner_of d) g ∷ []) (v16.fault (owner_of d) g) (Contains-here (v16.fault (owner_of d) g) []))
  lists before found is (other none) = record {
    sound = λ x h. of_part (subst (λ l. Contains l x) is h);
    complete = λ x f. complete x f;
  } where
    complete : (x : Fault) → IsFault facts d x → Contains before x
    complete x (of_part h) = subst (λ l. Contains l x) (sym is) h
    complete x (of_cycle {g = k} its e) = absurd (none k its e)

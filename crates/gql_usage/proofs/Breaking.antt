-- Faults that a definition gains, by its verdicts before and after.
use Rattle.std.proofs.Common.{◌≡◌, ◌≢◌, ◌↔◌, ◌∙◌, List, Bool, true, false, not, Contains, IfOk, IsTrue, Result, Ok, Err, Option, None, Some, inl, inr, refl, subst, sym}
use Rattle.gql_ast.specs.declared.definition.Definition.{Definition}
use Rattle.gql_ast.specs.declared.definition.Tree.{Tree}
use Rattle.gql_ast.specs.declared.executable.OperationKind.{OperationKind}
use Rattle.gql_ast.specs.declared.fault.Fault.{Fault}
use Rattle.gql_facts.specs.Worlds.{Facts}
use Rattle.gql_reads.specs.Observations.{Hold}
use Rattle.gql_reads.specs.declared.observation.Observation.{Observation}
use Rattle.gql_removal.specs.Removals.{without}
use Rattle.gql_removal.specs.declared.removal.Removal.{Removal}
use Rattle.gql_usage.specs.Breaks.{Breaks, GainsFault, LosesRoot, LosesRootOf, operation_kind}
use Rattle.gql_usage.specs.Untouched.{AreLeft}
use Rattle.gql_usage.proofs.Left.{still_hold}
use Rattle.gql_verdict.specs.Faults.{IsFaultIn}
use Rattle.gql_ast.specs.Trees.{id_of}
use Rattle.gql_ast.specs.declared.definition.DefinitionId.{DefinitionId}
use Rattle.gql_usage.specs.Stored.{IsStored}
use Rattle.gql_verdict.specs.Shelves.{Answers, IsCurrent, Serves}
use Rattle.gql_verdict.specs.Verdicts.{IsCertificate, Judgement, Judges}

-- a fault that is new
abbrev pub IsNew : List Fault → List Fault → Type 0
IsNew faults before = (f : Fault) × Contains faults f × (Contains before f → ⊥)

-- what a removal leaves as it is gains no fault
pub gains_none : (d : Definition) (faults : List Fault) (os : List Observation) → IsCertificate d faults os → (r : Removal) → AreLeft r os
    → (before : Facts) → Hold before os → GainsFault before (without r before) d → ⊥
gains_none d faults os cert r kept before hold gain =
    gain.2 ((cert before hold).sound gain.0 ((cert (without r before) (still_hold r before os kept hold)).complete gain.0 gain.1))

-- what the verdict after has and the verdict before has not is gained, and nothing else
pub gained : (before after : Facts) (v w : Judgement) → IsCertificate v.def v.faults v.observations → Hold before v.observations → Judges after v.def w
    → (b : Bool) → (IsTrue b ↔ IsNew w.faults v.faults) → IsTrue b ↔ GainsFault before after v.def
gained before after v w cert hold judged b news = (
  λ t. let n = news.0 t in (n.0, subst (λ d. IsFaultIn after d n.0) judged.def ((judged.certificate after judged.holds).sound n.0 n.1), λ h. n.2 ((cert before hold).complete n.0 h)),
  λ g. news.1 (g.0, (judged.certificate after judged.holds).complete g.0 (subst (λ d. IsFaultIn after d g.0) (sym judged.def) g.1), λ h. g.2 ((cert before hold).sound g.0 h)),
)

-- the same, where what is examined and the faults are known by equations
pub gained_by : (before after : Facts) (v w : Judgement) (d : Definition) (old new : List Fault) → d ≡ v.def → old ≡ v.faults → new ≡ w.faults
    → IsCertificate v.def v.faults v.observations → Hold before v.observations → Judges after d w
    → (b : Bool) → (IsTrue b ↔ IsNew new old) → IsTrue b ↔ GainsFault before after v.def
gained_by before after v w d old new e o n cert hold judged b news = gained before after v w cert hold (subst (λ x. Judges after x w) e judged) b
    (subst (λ xs. IsTrue b ↔ IsNew w.faults xs) o (subst (λ xs. IsTrue b ↔ IsNew xs old) n news))

-- ---- roots

-- two facts differ if they are not found to be the same
pub differ : {A : Type 0} (same : Bool) (x y left now : A) → x ≡ left → y ≡ now → (IsTrue same ↔ (x ≡ y)) → IsTrue (not same) ↔ (left ≢ now)
differ true x y left now p q h = (λ t. let z : false ≡ true = t in cc z, λ n. absurd (n (sym p ∙ h.0 refl ∙ q)))
differ false x y left now p q h = (λ t e. let z : false ≡ true = h.1 (p ∙ e ∙ sym q) in cc z, λ n. refl)

module _ (facts : Facts) (r : Removal) where
  -- an operation of a kind loses its root if the kind loses it
  pub loses_by_kind : {E : Type 0} (found : Result Bool E) (t : Tree) (k : OperationKind) → Some k ≡ operation_kind t
      → IfOk found (λ b. IsTrue b ↔ LosesRootOf facts r k) → IfOk found (λ b. IsTrue b ↔ LosesRoot facts r t)
  loses_by_kind (Ok b) t k e h = (
    λ y. (k, sym e, h.0 y),
    λ y. h.1 (subst (λ j. LosesRootOf facts r j) (same_kind y.0 (sym y.1 ∙ sym e)) y.2),
  )
    where
      same_kind : (j : OperationKind) → Some j ≡ Some k → j ≡ k
      same_kind j f = cc f
  loses_by_kind (Err x) t k e h = tt

  pub loses_none : (t : Tree) → None ≡ operation_kind t → IsTrue false ↔ LosesRoot facts r t
  loses_none t e = (λ y. let z : false ≡ true = y in cc z, λ y. none_some y.0 (e ∙ y.1))
    where
      none_some : (j : OperationKind) → None ≡ Some j → IsTrue false
      none_some j f = absurd (cc f)

  -- ---- breaks

  pub breaks_by_root : (d : Definition) (b : Bool) → (IsTrue b ↔ LosesRoot facts r d.tree) → b ≡ true → IsTrue true ↔ Breaks facts r d
  breaks_by_root d b h t = (λ y. inr (h.0 t), λ y. refl)

  pub breaks_not : (d : Definition) (b : Bool) → (IsTrue b ↔ LosesRoot facts r d.tree) → b ≡ false → (GainsFault facts (without r facts) d → ⊥) → IsTrue false ↔ Breaks facts r d
  breaks_not d b h n none = (
    λ y. let z : false ≡ true = y in cc z,
    λ y. elim y [
      | inl g ↦ absurd (none g)
      | inr l ↦ let z : false ≡ true = sym n ∙ h.1 l in cc z
    ],
  )

  pub breaks_if_gains : {E : Type 0} (found : Result Bool E) (d : Definition) (b : Bool) → (IsTrue b ↔ LosesRoot facts r d.tree) → b ≡ false
      → IfOk found (λ g. IsTrue g ↔ GainsFault facts (without r facts) d) → IfOk found (λ g. IsTrue g ↔ Breaks facts r d)
  breaks_if_gains (Ok g) d b h n gains = (
    λ y. inl (gains.0 y),
    λ y. elim y [
      | inl x ↦ gains.1 x
      | inr l ↦ let z : false ≡ true = sym n ∙ h.1 l in cc z
    ],
  )
  breaks_if_gains (Err x) d b h n gains = tt

-- what a found value satisfies at these facts
pub ok_at : {E : Type 0} {P Q : Bool → Type 0} (found : Result Bool E) → ((b : Bool) → P b → Q b) → IfOk found P → IfOk found Q
ok_at (Ok b) f h = f b h
ok_at (Err x) f h = tt

-- ---- the verdict of a stored definition

pub served : (facts : Facts) (shelf : List Judgement) (d : Definition) (id : DefinitionId) (o : Option Judgement) → IsStored facts shelf d → id ≡ id_of d
    → ((definitions : List Definition) → IsCurrent facts definitions shelf → Answers facts definitions id o) → (v : Judgement) × (o ≡ Some v) × Serves facts d v
served facts shelf d id o s e a = (a s.0 s.1.current).present d s.2 (sym e)

pub serves : (facts : Facts) (d : Definition) (w : Judgement) → (v : Judgement) × (Some w ≡ Some v) × Serves facts d v → Serves facts d w
serves facts d w s = let e : w ≡ s.0 = cc s.1 in subst (λ v. Serves facts d v) (sym e) s.2

-- The faults that stand against an operation.
use Rattle.std.proofs.Common.{◌≡◌, ◌≢◌, inl, inr, List, [], ◌∷◌, Contains, sym, subst}
use Rattle.std.specs.declared.cmp.Ordering.TheVariants.{Less}
use Rattle.std.specs.List.{AllByRecursion}
use Rattle.std.specs.List.Sorted.{IsStrictlySortedBy}
use Rattle.gql_ast.specs.declared.definition.Definition.{Definition}
use Rattle.gql_ast.specs.declared.fault.Fault.{Fault}
use Rattle.gql_ast.specs.declared.files.Files.{Files}
use Rattle.gql_facts.specs.Facts.{fact_of}
use Rattle.gql_facts.specs.ListMembers.{Contains-nil, Contains-here, Contains-there, Contains-cases}
use Rattle.gql_report.specs.Order.{fault_order}
use Rattle.gql_serving.specs.Owned.{IsOwned, Picks, none, picked, left_out}
use Rattle.gql_registry.specs.Calls.{StandsAgainst, of_schema, of_documents, AreAgainst}
use Rattle.gql_registry.specs.Keeping.{AreSchemaFaults}
use Rattle.gql_registry.specs.Report.{IsFault, IsReport, IsSound}
use Rattle.gql_registry.specs.Report as report
use Rattle.gql_registry.proofs.Reports.{unsound_if_some}

-- ---- faults that are picked

picked_from : (P : Fault → Type 0) (xs ys : List Fault) → Picks P xs ys → (f : Fault) → Contains ys f → Contains xs f × P f
picked_from P _ _ none f there = absurd (Contains-nil f there)
picked_from P _ _ (picked {f = g} {fs = fs} {gs = gs} holds rest) f there = elim (Contains-cases f g gs there) [
  | inl e ↦ (subst (λ x. Contains (g ∷ fs) x) (sym e) (Contains-here g fs), subst P (sym e) holds)
  | inr h ↦ let p = picked_from P fs gs rest f h in (Contains-there f g fs p.0, p.1)
]
picked_from P _ _ (left_out {f = g} {fs = fs} {gs = gs} fails rest) f there =
    let p = picked_from P fs gs rest f there in (Contains-there f g fs p.0, p.1)

picks_all : (P : Fault → Type 0) (xs ys : List Fault) → Picks P xs ys → (f : Fault) → Contains xs f → P f → Contains ys f
picks_all P _ _ none f there holds = absurd (Contains-nil f there)
picks_all P _ _ (picked {f = g} {fs = fs} {gs = gs} here rest) f there holds = elim (Contains-cases f g fs there) [
  | inl e ↦ subst (λ x. Contains (g ∷ gs) x) (sym e) (Contains-here g gs)
  | inr h ↦ Contains-there f g gs (picks_all P fs gs rest f h holds)
]
picks_all P _ _ (left_out {f = g} {fs = fs} {gs = gs} fails rest) f there holds = elim (Contains-cases f g fs there) [
  | inl e ↦ absurd (fails (subst P e holds))
  | inr h ↦ picks_all P fs gs rest f h holds
]

-- what holds of all holds of those that are picked
all_picked : (P : Fault → Type 0) (Q : Fault → Type 0) (xs ys : List Fault) → Picks P xs ys → AllByRecursion Q xs → AllByRecursion Q ys
all_picked P Q _ _ none all = tt
all_picked P Q _ _ (picked {fs = fs} {gs = gs} holds rest) all = (all.0, all_picked P Q fs gs rest all.1)
all_picked P Q _ _ (left_out {fs = fs} {gs = gs} fails rest) all = all_picked P Q fs gs rest all.1

-- faults that are picked keep their order
picked_sorted : (P : Fault → Type 0) (xs ys : List Fault) → Picks P xs ys → IsStrictlySortedBy fault_order xs → IsStrictlySortedBy fault_order ys
unfolding IsStrictlySortedBy
picked_sorted P _ _ none sorted = tt
picked_sorted P _ _ (picked {f = g} {fs = fs} {gs = gs} holds rest) sorted =
    (all_picked P (λ y. fault_order g y ≡ Less) fs gs rest sorted.0, picked_sorted P fs gs rest sorted.1)
picked_sorted P _ _ (left_out {fs = fs} {gs = gs} fails rest) sorted = picked_sorted P fs gs rest sorted.1

-- ---- against an operation

-- while the schema has faults, all of the report stand against it
pub against_of_schema : (files : Files) (d : Definition) (faults all : List Fault) → faults ≢ [] → AreSchemaFaults files faults → IsReport files all → AreAgainst files d all
against_of_schema files d faults all some lists is = (
  is.0,
  λ f. (
    λ there. by_fault f ((is.1 f).0 there),
    λ stands. (is.1 f).1 (elim stands [
      | of_schema h ↦ report.of_schema h
      | of_documents h owned ↦ h
    ]),
  ),
)
  where
    by_fault : (f : Fault) → IsFault files f → StandsAgainst files d f
    by_fault f (report.of_schema h) = of_schema h
    by_fault f (report.of_names sound h) = absurd (unsound_if_some files faults some lists sound)
    by_fault f (report.of_definition sound there h) = absurd (unsound_if_some files faults some lists sound)

-- else those that it, or a fragment that it reaches, owns
pub against_of_documents : (files : Files) (d : Definition) (all owned : List Fault) → IsSound files → IsReport files all → Picks (IsOwned (fact_of files) d) all owned
    → AreAgainst files d owned
against_of_documents files d all owned sound is picks = (
  picked_sorted (IsOwned (fact_of files) d) all owned picks is.0,
  λ f. (
    λ there. let p = picked_from (IsOwned (fact_of files) d) all owned picks f there in of_documents ((is.1 f).0 p.0) p.1,
    λ stands. elim stands [
      | of_schema h ↦ absurd (sound f h)
      | of_documents h own ↦ picks_all (IsOwned (fact_of files) d) all owned picks f ((is.1 f).1 h) own
    ],
  ),
)

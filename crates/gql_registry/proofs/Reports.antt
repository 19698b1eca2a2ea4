-- The members of a report.
use Rattle.std.proofs.Common.{◌≡◌, ◌≢◌, ◌↔◌, ◌==◌, ℕ, suc, arith, inl, inr, List, [], ◌∷◌, ◌++◌, length, true, false, refl, sym, subst, Contains, Bool, IsTrue}
use Rattle.std.proofs.lemmas.Bool.Decides.{nat_tests}
use Rattle.std.proofs.lemmas.List.Elements.{Contains-append_left, Contains-append_right, Contains-append_cases}
use Rattle.gql_ast.specs.declared.fault.Fault.{Fault}
use Rattle.gql_ast.specs.declared.files.Files.{Files}
use Rattle.gql_facts.specs.ListMembers.{Contains-nil, Contains-here}
use Rattle.gql_facts.specs.Members.{Lists}
use Rattle.gql_registry.specs.Keeping.{AreSchemaFaults, IsDefinitionFault}
use Rattle.gql_registry.specs.Report.{IsFault, IsSound, of_schema, of_names, of_definition}
use Rattle.gql_verdict.specs.NameFaults.{name_faults}

-- these lists have the same members
abbrev pub AreSame : List Fault → List Fault → Type 0
AreSame xs ys = (f : Fault) → Contains xs f ↔ Contains ys f

-- a schema with an empty list of faults has none
pub sound_if_none : (files : Files) (faults : List Fault) → faults ≡ [] → AreSchemaFaults files faults → IsSound files
sound_if_none files faults none lists f is = Contains-nil f (subst (λ xs. Contains xs f) none (lists.complete f is))

-- a schema with some is not sound
pub unsound_if_some : (files : Files) (faults : List Fault) → faults ≢ [] → AreSchemaFaults files faults → IsSound files → ⊥
unsound_if_some files [] some lists sound = some refl
unsound_if_some files (f ∷ fs) some lists sound = sound f (lists.sound f (Contains-here f fs))

-- while the schema has faults, these are all
pub of_schema_alone : (files : Files) (faults report : List Fault) → faults ≢ [] → AreSchemaFaults files faults → AreSame report faults → (f : Fault) → Contains report f ↔ IsFault files f
of_schema_alone files faults report some lists same f = (
  λ h. of_schema (lists.sound f ((same f).0 h)),
  λ is. (same f).1 (elim is [
    | of_schema h ↦ lists.complete f h
    | of_names sound h ↦ absurd (unsound_if_some files faults some lists sound)
    | of_definition sound there h ↦ absurd (unsound_if_some files faults some lists sound)
  ]),
)

of_any : (files : Files) (f : Fault) → IsSound files → IsDefinitionFault files f → IsFault files f
of_any files f sound (d, there, h) = of_definition {d = d} sound there h

-- a list that is not empty, or is
pub some_if : (faults : List Fault) → (length faults == 0) ≡ false → faults ≢ []
some_if [] is none = cc is
some_if (f ∷ fs) is none = cc none

pub none_if : (faults : List Fault) → (length faults == 0) ≡ true → faults ≡ []
none_if [] is = refl
none_if (f ∷ fs) is = absurd (no_zero (length fs) is)
  where
    no_zero : (n : ℕ) → (suc n == 0) ≡ true → ⊥
    no_zero n is = grind (arith, nat_tests)

-- else they are those of names and of definitions
pub of_documents : (files : Files) (names of_definitions all report : List Fault) → IsSound files → names ≡ name_faults files → Lists of_definitions (IsDefinitionFault files)
    → all ≡ names ++ of_definitions → AreSame report all → (f : Fault) → Contains report f ↔ IsFault files f
of_documents files names ofs all report sound are lists is same f = (
  λ h. elim (Contains-append_cases names ofs f (subst (λ xs. Contains xs f) is ((same f).0 h))) [
    | inl n ↦ of_names sound (subst (λ xs. Contains xs f) are n)
    | inr d ↦ of_any files f sound (lists.sound f d)
  ],
  λ w. (same f).1 (subst (λ xs. Contains xs f) (sym is) (elim w [
    | of_schema h ↦ absurd (sound f h)
    | of_names s h ↦ Contains-append_left names ofs f (subst (λ xs. Contains xs f) (sym are) h)
    | of_definition {d = d} s there h ↦ Contains-append_right names ofs f (lists.complete f (d, there, h))
  ])),
)

-- whether a list of faults is empty tells whether the schema is sound
pub none_iff_sound : (files : Files) (faults : List Fault) (is : Bool) → is ≡ (length faults == 0) → AreSchemaFaults files faults → IsTrue is ↔ IsSound files
none_iff_sound files faults true is lists = (λ t. sound_if_none files faults (none_if faults (sym is)) lists, λ sound. refl)
none_iff_sound files faults false is lists = (λ t. absurd (cc t), λ sound. absurd (unsound_if_some files faults (some_if faults (sym is)) lists sound))

-- where the faults of a schema are not none, it is not sound
pub unsound : {files : Files} (b : Bool) → IsTrue b ↔ IsSound files → b ≡ false → IsSound files → ⊥
unsound true same is sound = cc is
unsound false same is sound = cc (same.1 sound)

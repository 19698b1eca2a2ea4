-- What an edit examines where nothing is due, and what holds of answers that are errors.
use Rattle.std.proofs.Common.{◌≡◌, inl, inr, List, Contains, Result, Ok, Err, IfErr, OnErr, sym, subst}
use Rattle.std.specs.Result.{IsErrAnd}
use Rattle.gql_ast.specs.declared.definition.Definition.{Definition}
use Rattle.gql_ast.specs.declared.definition.DefinitionId.{DefinitionId}
use Rattle.gql_ast.specs.declared.files.Files.{Files}
use Rattle.gql_facts.specs.Facts.{fact_of}
use Rattle.gql_reads.proofs.Members.{Contains-map_from}
use Rattle.gql_pairs.specs.Groups.{KeptGroup}
use Rattle.gql_registry.specs.Keeping.{HasPairsDue, IsShelfOf, IsWholeWorkOn, IsWorkOn}
use Rattle.gql_verdict.specs.Definitions.{all_definitions}
use Rattle.gql_verdict.specs.Shelves.{IsDue}
use Rattle.gql_verdict.specs.Verdicts.{Judgement}
use Rattle.gql_verdict.proofs.Picked.{no_entries}

-- nothing was examined
pub no_work : (files : Files) (shelf : List Judgement) (m : List DefinitionId) → IsWorkOn files shelf m m
no_work files shelf m =
    no_entries (fact_of files) shelf (all_definitions files.documents) m

-- no definition is due in the files that the verdicts are of
nothing_due : (files : Files) (shelf : List Judgement) → IsShelfOf files shelf → (d : Definition) → Contains (all_definitions files.documents) d → IsDue (fact_of files) shelf d → ⊥
nothing_due files shelf current d there (inl none) =
    let found = Contains-map_from (λ (v : Judgement). v.def) shelf d (subst (λ (ds : List Definition). Contains ds d) (sym current.each) there) in
    none found.0 found.1 found.2
nothing_due files shelf current d there (inr (v, kept, is, broken)) = broken.2 (current.holds v kept broken.0 broken.1)

-- so nothing is to be examined
pub whole_idle : (files : Files) (shelf : List Judgement) (m : List DefinitionId) → IsShelfOf files shelf → IsWholeWorkOn files shelf m m
whole_idle files shelf m current = record {
  works = no_work files shelf m;
  all = λ d there due. absurd (nothing_due files shelf current d there due);
}

-- and no entry for pairs is missing
pub pairs_idle : (files : Files) (shelf : List Judgement) (pairs : List KeptGroup) → IsShelfOf files shelf → HasPairsDue files shelf pairs
pairs_idle files shelf pairs current d there due = absurd (nothing_due files shelf current d there due)

-- what holds of the error that this answer is
pub err_of : {T E : Type 0} (P : E → Type 0) (r : Result T E) (e : E) → IsErrAnd r (λ x. x ≡ e) → P e → IfErr r P
err_of P (Ok v) e is h = absurd is
err_of P (Err x) e is h = subst P (sym is) h

-- what follows from what is known of the error
pub err_where : {T E : Type 0} (Q P : E → Type 0) (r : Result T E) → IsErrAnd r Q → ((x : E) → Q x → P x) → IfErr r P
err_where Q P (Ok v) is h = absurd is
err_where Q P (Err x) is h = h x is

-- what holds anyway holds of an answer that is an error
pub on_err_of : {T E : Type 0} {P : Type 0} (r : Result T E) → P → OnErr r P
on_err_of (Ok v) h = tt
on_err_of (Err e) h = h

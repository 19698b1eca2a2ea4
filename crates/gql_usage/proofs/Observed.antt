-- What the list of readers says of whether nobody observes a key.
use Rattle.std.proofs.Common.{◌≡◌, ◌∙◌, List, [], ◌∷◌, ◌==◌, Bool, true, filter, length, ap, not, refl, sym, subst, Contains, arith}
use Rattle.std.proofs.lemmas.Bool.{eqb-true, false_from_ne_true}
use Rattle.gql_ast.specs.Trees.{id_of}
use Rattle.gql_ast.specs.declared.definition.DefinitionId.{DefinitionId}
use Rattle.gql_facts.specs.ListMembers.{Contains-nil, Contains-here, Contains-map}
use Rattle.gql_facts.specs.declared.key.Key.{Key}
use Rattle.gql_reads.proofs.Members.{Contains-map_from}
use Rattle.gql_reads.specs.Observations.{keys_of}
use Rattle.gql_readers.proofs.Merging.{filter_from, filter_has}
use Rattle.gql_verdict.proofs.SeenKeys.{from_test, tested}
use Rattle.gql_verdict.specs.Shelves.{observes, readers_of}
use Rattle.gql_verdict.specs.Verdicts.{Judgement}
use Rattle.gql_usage.specs.Answered.{is_unasked}

-- ---- the list of readers

abbrev HasReader : Key → List Judgement → Type 0
HasReader k vs = (v : Judgement) × Contains vs v × Contains (keys_of v.observations) k

listed : (k : Key) (vs : List Judgement) (r : HasReader k vs) → Contains (readers_of k vs) (id_of r.0.def)
listed k vs r = Contains-map (λ (v : Judgement). id_of v.def) (filter (observes k) vs) r.0 (filter_has (observes k) vs r.0 (tested k r.0 r.2) r.1)

from_list : (k : Key) (vs : List Judgement) (id : DefinitionId) → Contains (readers_of k vs) id → HasReader k vs
from_list k vs id c =
    let m = Contains-map_from (λ (v : Judgement). id_of v.def) (filter (observes k) vs) id c in
    let f = filter_from (observes k) vs m.0 m.1 in
    (m.0, f.0, from_test k m.0 f.1)

by_list : (k : Key) (vs : List Judgement) (b : Bool) → (b ≡ true → HasReader k vs) → (HasReader k vs → b ≡ true) → (ids : List DefinitionId) → readers_of k vs ≡ ids → not b ≡ (length ids == 0)
by_list k vs b to from [] e = ap not (false_from_ne_true b (λ t. let r = to t in Contains-nil (id_of r.0.def) (subst (λ ids. Contains ids (id_of r.0.def)) e (listed k vs r))))
by_list k vs b to from (id ∷ ids) e = ap not (from (from_list k vs id (subst (λ all. Contains all id) (sym e) (Contains-here id ids))))
    ∙ sym (false_from_ne_true (length (id ∷ ids) == 0) (λ t. omega (arith, eqb-true (length (id ∷ ids)) 0 t)))

pub is_unasked_is : (k : Key) (vs : List Judgement) (b : Bool) → (b ≡ true → HasReader k vs) → (HasReader k vs → b ≡ true) → not b ≡ is_unasked vs k
is_unasked_is k vs b to from = by_list k vs b to from (readers_of k vs) refl

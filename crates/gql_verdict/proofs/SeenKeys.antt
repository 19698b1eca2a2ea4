-- Which keys a verdict observes: by its own nodes, or by those of a fragment.
use Rattle.std.proofs.Common.{◌≡◌, ◌∙◌, ◌⊎◌, inl, inr, List, [], ◌∷◌, ◌++◌, Bool, true, false, ap, cond, filter, refl, subst, Contains}
use Rattle.std.proofs.lemmas.Bool.{false_from_ne_true}
use Rattle.gql_ast.specs.Trees.{id_of}
use Rattle.gql_facts.specs.Keys.{is_key, is_key_decides}
use Rattle.gql_facts.specs.ListMembers.{Contains-map, Contains-flat_map, Contains-flat_map_from}
use Rattle.gql_facts.specs.declared.key.Key.{Key}
use Rattle.gql_reads.proofs.Members.{Contains-map_from}
use Rattle.gql_reads.specs.Observations.{keys_of, observed_in}
use Rattle.gql_reads.specs.Readings.{seen_in}
use Rattle.gql_reads.specs.Records.{Kept}
use Rattle.gql_reads.specs.declared.observation.Observation.{Observation}
use Rattle.gql_readers.proofs.Reading.{any_from, any_has}
use Rattle.gql_verdict.proofs.LedTo.{verdicts_append}
use Rattle.gql_verdict.specs.Shelves.{observes, readers_of}
use Rattle.gql_verdict.specs.Slots.{ids_of, verdicts}
use Rattle.gql_verdict.specs.declared.slot.Slot.{Slot}
use Rattle.gql_verdict.specs.declared.slot.Slot.TheVariants.{Here}
use Rattle.gql_verdict.specs.Verdicts.{Judgement}
use Rattle.std.proofs.lemmas.List.Elements.{Contains-append_cases, Contains-append_left, Contains-append_right}

-- an observation is of a key
abbrev key_of : Observation → Key
key_of o = o.key

pub key_seen : (os : List Observation) (o : Observation) (k : Key) → Contains os o → key_of o ≡ k → Contains (keys_of os) k
key_seen os o k c e = subst (Contains (keys_of os)) e (Contains-map key_of os o c)

pub seen_key : (os : List Observation) (k : Key) → Contains (keys_of os) k → (o : Observation) × Contains os o × (key_of o ≡ k)
seen_key os k c = Contains-map_from key_of os k c

-- ---- two lists

pub key_left : (os ps : List Observation) (k : Key) → Contains (keys_of os) k → Contains (keys_of (os ++ ps)) k
key_left os ps k c = let o = seen_key os k c in key_seen (os ++ ps) o.0 k (Contains-append_left os ps o.0 o.1) o.2

pub key_right : (os ps : List Observation) (k : Key) → Contains (keys_of ps) k → Contains (keys_of (os ++ ps)) k
key_right os ps k c = let o = seen_key ps k c in key_seen (os ++ ps) o.0 k (Contains-append_right os ps o.0 o.1) o.2

pub key_either : (os ps : List Observation) (k : Key) → Contains (keys_of (os ++ ps)) k → Contains (keys_of os) k ⊎ Contains (keys_of ps) k
key_either os ps k c = let o = seen_key (os ++ ps) k c in elim (Contains-append_cases os ps o.0 o.1) [
  | inl a ↦ inl (key_seen os o.0 k a o.2)
  | inr b ↦ inr (key_seen ps o.0 k b o.2)
]

-- ---- the parts

pub part_observed : (ps : List Kept) (p : Kept) (k : Key) → Contains ps p → Contains (keys_of (observed_in p.seen)) k → Contains (keys_of (seen_in ps)) k
part_observed ps p k c h =
    let o = seen_key (observed_in p.seen) k h in
    key_seen (seen_in ps) o.0 k (Contains-flat_map (λ (q : Kept). observed_in q.seen) ps p o.0 c o.1) o.2

pub observed_part : (ps : List Kept) (k : Key) → Contains (keys_of (seen_in ps)) k → (p : Kept) × Contains ps p × Contains (keys_of (observed_in p.seen)) k
observed_part ps k c =
    let o = seen_key (seen_in ps) k c in
    let r = Contains-flat_map_from (λ (q : Kept). observed_in q.seen) ps o.0 o.1 in
    (r.0, r.1, key_seen (observed_in r.0.seen) o.0 k r.2 o.2)

-- ---- the test of the definitions

pub tested : (k : Key) (v : Judgement) → Contains (keys_of v.observations) k → observes k v ≡ true
tested k v c = let o = seen_key v.observations k c in any_has (λ (x : Observation). is_key x.key k) v.observations o.0 o.1 ((is_key_decides o.0.key k).1 o.2)

pub from_test : (k : Key) (v : Judgement) → observes k v ≡ true → Contains (keys_of v.observations) k
from_test k v e = let a = any_from (λ (x : Observation). is_key x.key k) v.observations e in key_seen v.observations a.0 k a.1 ((is_key_decides a.0.key k).0 a.2)

-- ---- who observes a key, verdict after verdict

pub reader_itself : (k : Key) (v : Judgement) → Contains (keys_of v.observations) k → readers_of k (v ∷ []) ≡ id_of v.def ∷ []
reader_itself k v c = ap (λ b. ids_of (cond b (v ∷ []) [])) (tested k v c)

pub no_reader : (k : Key) (v : Judgement) → (Contains (keys_of v.observations) k → ⊥) → readers_of k (v ∷ []) ≡ []
no_reader k v n = ap (λ b. ids_of (cond b (v ∷ []) [])) (false_from_ne_true (observes k v) (λ e. n (from_test k v e)))

pub slot_reader : (k : Key) (s : Slot) (v : Judgement) → s ≡ Here v → Contains (keys_of v.observations) k → readers_of k (verdicts (s ∷ [])) ≡ id_of v.def ∷ []
slot_reader k s v e c = ap (λ (x : Slot). readers_of k (verdicts (x ∷ []))) e ∙ reader_itself k v c

pub slot_no_reader : (k : Key) (s : Slot) (v : Judgement) → s ≡ Here v → (Contains (keys_of v.observations) k → ⊥) → readers_of k (verdicts (s ∷ [])) ≡ []
slot_no_reader k s v e n = ap (λ (x : Slot). readers_of k (verdicts (x ∷ []))) e ∙ no_reader k v n

by_test : (b : Bool) (v : Judgement) (vs ws rest : List Judgement) → ids_of rest ≡ ids_of vs ++ ids_of ws → ids_of (cond b (v ∷ rest) rest) ≡ ids_of (cond b (v ∷ vs) vs) ++ ids_of ws
by_test true v vs ws rest e = ap (λ ids. id_of v.def ∷ ids) e
by_test false v vs ws rest e = e

pub readers_append : (k : Key) (vs ws : List Judgement) → readers_of k (vs ++ ws) ≡ readers_of k vs ++ readers_of k ws
readers_append k [] ws = refl
readers_append k (v ∷ vs) ws = by_test (observes k v) v (filter (observes k) vs) (filter (observes k) ws) (filter (observes k) (vs ++ ws)) (readers_append k vs ws)

pub slots_append : (k : Key) (xs ys : List Slot) → readers_of k (verdicts (xs ++ ys)) ≡ readers_of k (verdicts xs) ++ readers_of k (verdicts ys)
slots_append k xs ys = ap (readers_of k) (verdicts_append xs ys) ∙ readers_append k (verdicts xs) (verdicts ys)

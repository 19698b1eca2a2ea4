-- Objects of which a member has come to a value, or to none.
use Rattle.std.proofs.Common.{◌≡◌, ◌+◌, ℕ, List, ◌∷◌, Option, Some, None, map, drop, refl, ap}
use Rattle.std.specs.List.{slice_get}
use Rattle.gql_ast.specs.declared.type_system.InputValueDefinition.{InputValueDefinition}
use Rattle.gql_types.specs.Written.{Written}
use Rattle.serde_json.specs.Data as json
use Rattle.serde_json.specs.Data.{Data, Members}
use Rattle.gql_coerce.specs.Coercion.{Entry, put_if, put_all, under, or_default, entry_at, member_at, once}
use Rattle.gql_coerce.specs.Frames.{Inner, members_rest, members_then}
use Rattle.gql_coerce.specs.Outcomes.{Reached, value, refused, too_deep, after, all, some}
use Rattle.gql_coerce.specs.declared.refusal.Reason.{Reason}
use Rattle.gql_coerce.specs.declared.refusal.Segment.{Segment}
use Rattle.gql_coerce.proofs.ListSteps.{drop_at, drop_past}

-- one member more
pub put_on : (m : Option (List ℕ × Data)) (ms : Members) (rest : Reached (List (Option (List ℕ × Data)))) → after (after rest (λ xs. value (m ∷ xs))) (λ more. value (json.object (put_all more ms)))
    ≡ after rest (λ more. value (json.object (put_all more (put_if m ms))))
put_on m ms (value xs) = refl
put_on m ms (refused r path) = refl
put_on m ms too_deep = refl

module _ (inner : Inner) (t : Option Written) (n : List ℕ) (ms : Members) (rest : List Entry) where
  -- a member has come to a value, or is left out
  pub member_done : (v : Option Data) → members_then inner t n ms rest (value v) ≡ members_rest inner t (put_if (under n v) ms) rest
  member_done v = ap (λ o. once t (some o)) (put_on (under n v) ms (all (map (member_at inner) rest)))

-- a member is refused
pub member_refused : (inner : Inner) (t : Option Written) (n : List ℕ) (ms : Members) (rest : List Entry) (r : Reason) (path : List Segment) → members_then inner t n ms rest (refused r path) ≡ refused r path
member_refused inner None n ms rest r path = refl
member_refused inner (Some t) n ms rest r path = refl

-- what is given needs no default
pub given_kept : (inner : Inner) (n : List ℕ) (d : Option InputValueDefinition) (v : Data) → or_default inner n d (Some v) ≡ value (Some v)
given_kept inner n (Some d) v = refl
given_kept inner n None v = refl

-- an object that is refused
pub object_refused : (t : Option Written) (r : Reason) (path : List Segment) → once t (refused r path) ≡ refused r path
object_refused (Some t) r path = refl
object_refused None r path = refl

module _ (inner : Inner) (t : Option Written) (ms : Members) (es : List Entry) (i : ℕ) where
  -- the next entry is taken
  pub entry_taken : (m : Entry) → slice_get es i ≡ Some m → members_rest inner t ms (drop i es) ≡ members_then inner t m.name ms (drop (i + 1) es) (entry_at inner m)
  entry_taken m at = ap (members_rest inner t ms) (drop_at es i m at)

  -- no entry is left
  pub entries_end : slice_get es i ≡ None → members_rest inner t ms (drop i es) ≡ once t (value (Some (json.object ms)))
  entries_end past = ap (members_rest inner t ms) (drop_past es i past)

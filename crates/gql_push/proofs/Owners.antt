-- The owners of one fault more, and a fault without one.
use Rattle.std.proofs.Common.{ℕ, zero, suc, ◌+◌, ◌<◌, ◌≡◌, ◌∙◌, List, [], ◌∷◌, ◌++◌, Option, Some, None, refl, sym, ap, length, map, take, get_or, arith}
use Rattle.std.specs.Prelude.{option_and_then, option_map}
use Rattle.std.proofs.lemmas.List.{map-append}
use Rattle.serde_json.specs.Data.{Data}
use Rattle.serde_json.specs.View.{items_view, view}
use Rattle.serde_json.specs.declared.value.Value.{Value}
use Rattle.gql_push.proofs.Steps.{map_taken}
use Rattle.gql_push.specs.Reports.{Owner, owner_in, owner_of, owners_in, owners_of, values_of}
use Rattle.gql_push.specs.declared.report.FaultOwner.{FaultOwner}

-- the owners of faults, with one more before them
abbrev with_first : Option (List Owner) → Owner → Option (List Owner)
with_first rest o = option_map (λ os. o ∷ os) rest

none_after : (o : Option Owner) → option_and_then (with_first None) o ≡ None
none_after None = refl
none_after (Some o) = refl

-- a fault without an owner
pub none_at : (xs : List Value) (k : ℕ) (x : Value) → k < length xs → x ≡ get_or xs k x → None ≡ owner_in (view x) → None ≡ owners_in (map view xs)
none_at [] k x within is none = absurd (omega arith)
none_at (y ∷ ys) zero x within is none = ap (option_and_then (with_first (owners_in (map view ys)))) (none ∙ ap (λ v. owner_in (view v)) is)
none_at (y ∷ ys) (suc k) x within is none =
    sym (none_after (owner_in (view y))) ∙ ap (λ os. option_and_then (with_first os) (owner_in (view y))) (none_at ys k x (omega arith) is none)

-- the owners of faults, with one more after them
abbrev with_last : Option (List Owner) → Option Owner → Option (List Owner)
with_last rest o = option_and_then (λ os. option_map (λ w. os ++ w ∷ []) o) rest

first_and_last : (a : Option Owner) (b : Option (List Owner)) (c : Option Owner) → option_and_then (with_first (with_last b c)) a ≡ with_last (option_and_then (with_first b) a) c
first_and_last None b c = refl
first_and_last (Some w) None c = refl
first_and_last (Some w) (Some os) None = refl
first_and_last (Some w) (Some os) (Some o) = refl

only_one : (c : Option Owner) → option_and_then (with_first (Some [])) c ≡ with_last (Some []) c
only_one None = refl
only_one (Some o) = refl

owners_push : (ds : List Data) (d : Data) → owners_in (ds ++ d ∷ []) ≡ with_last (owners_in ds) (owner_in d)
owners_push [] d = only_one (owner_in d)
owners_push (e ∷ es) d =
    ap (λ os. option_and_then (with_first os) (owner_in e)) (owners_push es d) ∙ first_and_last (owner_in e) (owners_in es) (owner_in d)

-- one fault more, and its owner
pub owners_more : (faults : List Value) (i : ℕ) (x : Value) (w : FaultOwner) (old new : List FaultOwner) → i < length faults → x ≡ get_or faults i x
    → Some (owner_of w) ≡ owner_in (view x) → Some (owners_of old) ≡ owners_in (map view (take i faults)) → new ≡ old ++ w ∷ [] → Some (owners_of new) ≡ owners_in (map view (take (i + 1) faults))
owners_more faults i x w old new within is owner before made =
    ap (λ os. Some (owners_of os)) made ∙ ap Some (map-append owner_of old (w ∷ []))
    ∙ ap (λ o. with_last (Some (owners_of old)) o) owner ∙ ap (λ os. with_last os (owner_in (view x))) before
    ∙ sym (owners_push (map view (take i faults)) (view x)) ∙ ap owners_in (sym (map_taken view faults i x within is))

-- the values of an array
pub values_same : (vs : List Value) → values_of (items_view vs) ≡ map view vs
values_same [] = refl
values_same (v ∷ vs) = ap (λ ds. view v ∷ ds) (values_same vs)

-- Lists of which an item has come to a value, or to none.
use Rattle.std.proofs.Common.{◌≡◌, ℕ, zero, suc, List, [], ◌∷◌, ◌++◌, ◌+◌, length, drop, Bool, true, false, Option, Some, None, true≢false, map, refl, ap, sym, ◌∙◌, append_assoc, append-nil, arith}
use Rattle.std.proofs.lemmas.List.{drop_more, map-append}
use Rattle.std.proofs.lemmas.Option.{slice_get_within, get_or_from_slice_get}
use Rattle.std.specs.List.{slice_get}
use Rattle.gql_types.specs.Written.{Written}
use Rattle.serde_json.specs.Data as json
use Rattle.serde_json.specs.Data.{Data}
use Rattle.serde_json.specs.View.{view, items_of}
use Rattle.serde_json.specs.declared.value.Value.{Value}
use Rattle.gql_coerce.specs.Coercion.{items_from, item_at, array_of, or_null}
use Rattle.gql_coerce.specs.Frames.{Inner, items_rest, items_then}
use Rattle.gql_coerce.specs.Inputs.{Input}
use Rattle.gql_coerce.specs.Outcomes.{Reached, value, refused, too_deep, after, within, all, some}
use Rattle.gql_coerce.specs.declared.refusal.Segment.TheVariants.{Index}

-- ---- what is left of a list

pub drop_at : {A : Type 0} (xs : List A) (i : ℕ) (x : A) → slice_get xs i ≡ Some x → drop i xs ≡ x ∷ drop (i + 1) xs
drop_at xs i x is = drop_more xs i x (slice_get_within xs i x is) ∙ ap (λ y. y ∷ drop (i + 1) xs) (get_or_from_slice_get xs i x x is)

pub drop_past : {A : Type 0} (xs : List A) (i : ℕ) → slice_get xs i ≡ None → drop i xs ≡ []
drop_past [] zero is = refl
drop_past [] (suc i) is = refl
drop_past (x ∷ xs) zero is = grind (arith, is)
drop_past (x ∷ xs) (suc i) is = drop_past xs i is

-- ---- outcomes

-- an answer that is no value
abbrev pub is_stop : Reached (Option Data) → Bool
is_stop (value (Some d)) = false
is_stop (value None) = true
is_stop (refused r path) = true
is_stop too_deep = true

-- the value of an answer, or another
abbrev found : Data → Reached (Option Data) → Data
found d (value (Some x)) = x
found d (value None) = d
found d (refused r path) = d
found d too_deep = d

-- ---- lists

module _ (inner : Inner) (e : Option Written) where
  one_more : (done : List Data) (d : Data) (o : Reached (List Data)) → after (after o (λ ds. value (d ∷ ds))) (λ ds. value (json.array (items_of (done ++ ds))))
      ≡ after o (λ ds. value (json.array (items_of ((done ++ d ∷ []) ++ ds))))
  one_more done d (value ds) = ap (λ xs. value (json.array (items_of xs))) (sym (append_assoc done (d ∷ []) ds))
  one_more done d (refused r path) = refl
  one_more done d too_deep = refl

  length_more : {A : Type 0} (done : List A) (d : A) → suc (length done) ≡ length (done ++ d ∷ [])
  length_more [] d = refl
  length_more (x ∷ done) d = ap suc (length_more done d)

  value_by : (o : Reached Data) (done : List Data) (rest : List Input) (d : Data) → value (Some d) ≡ some o
      → some (after (all (within (Index (length done)) o ∷ items_from (item_at inner e) (suc (length done)) rest)) (λ ds. value (json.array (items_of (done ++ ds)))))
      ≡ items_rest inner e (done ++ d ∷ []) rest
  value_by (value x) done rest d is = ap some (one_more done x (all (items_from (item_at inner e) (suc (length done)) rest)))
      ∙ ap (λ n. some (after (all (items_from (item_at inner e) n rest)) (λ ds. value (json.array (items_of ((done ++ x ∷ []) ++ ds)))))) (length_more done x)
      ∙ ap (λ y. items_rest inner e (done ++ y ∷ []) rest) (sym (ap (found d) is))
  value_by (refused r path) done rest d is = absurd (true≢false (sym (ap is_stop is)))
  value_by too_deep done rest d is = absurd (true≢false (sym (ap is_stop is)))

  -- an item has come to a value
  pub item_done : (done : List Data) (rest : List Input) (o : Reached (Option Data)) (d : Data) → value (Some d) ≡ some (after o (or_null e))
      → items_then inner e done rest o ≡ items_rest inner e (done ++ d ∷ []) rest
  item_done done rest o d is = value_by (after o (or_null e)) done rest d is

  stop_by : (o : Reached Data) (done : List Data) (rest : List Input) (c : Reached (Option Data)) → c ≡ within (Index (length done)) (some o) → is_stop (some o) ≡ true
      → some (after (all (within (Index (length done)) o ∷ items_from (item_at inner e) (suc (length done)) rest)) (λ ds. value (json.array (items_of (done ++ ds))))) ≡ c
  stop_by (value d) done rest c is stop = absurd (true≢false (sym stop))
  stop_by (refused r path) done rest c is stop = sym is
  stop_by too_deep done rest c is stop = sym is

  -- an item has come to no value
  pub item_stops : (done : List Data) (rest : List Input) (o c a : Reached (Option Data)) → a ≡ some (after o (or_null e)) → is_stop a ≡ true → c ≡ within (Index (length done)) a
      → items_then inner e done rest o ≡ c
  item_stops done rest o c a is stop placed = stop_by (after o (or_null e)) done rest c (placed ∙ ap (within (Index (length done))) is) (sym (ap is_stop is) ∙ stop)

  -- the next item is taken
  pub goes_on : (done : List Data) (xs : List Input) (i : ℕ) (x : Input) (o : Reached (Option Data)) → slice_get xs i ≡ Some x → after o (or_null e) ≡ item_at inner e x
      → items_rest inner e done (drop i xs) ≡ items_then inner e done (drop (i + 1) xs) o
  goes_on done xs i x o at is = ap (items_rest inner e done) (drop_at xs i x at)
      ∙ ap (λ y. some (after (all (within (Index (length done)) y ∷ items_from (item_at inner e) (suc (length done)) (drop (i + 1) xs))) (λ ds. value (json.array (items_of (done ++ ds)))))) (sym is)

  -- no item is left
  pub finishes : (done : List Data) (xs : List Input) (i : ℕ) → slice_get xs i ≡ None → items_rest inner e done (drop i xs) ≡ value (Some (json.array (items_of done)))
  finishes done xs i past = ap (items_rest inner e done) (drop_past xs i past) ∙ ap (λ ds. value (Some (json.array (items_of ds)))) (append-nil done)

  -- no item is done
  pub begins : (xs : List Input) (vs : List Value) → vs ≡ [] → some (array_of (item_at inner e) xs) ≡ items_rest inner e (map view vs) (drop 0 xs)
  begins xs vs is = sym (ap (λ ws. items_rest inner e (map view ws) (drop 0 xs)) is)

-- one value more
pub one_pushed : (old new : List Value) (v : Value) → new ≡ old ++ v ∷ [] → map view old ++ view v ∷ [] ≡ map view new
one_pushed old new v is = sym (ap (map view) is ∙ map-append view old (v ∷ []))

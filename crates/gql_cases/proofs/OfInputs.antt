-- What an input comes to in cases is what it comes to, and the other way round.
use Rattle.std.proofs.Common.{◌≡◌, ◌+◌, ◌&&◌, true≢false, ℕ, zero, suc, List, [], ◌∷◌, Bool, true, false, not, if◌then◌else◌, map, Option, Some, None, is_some, refl, ap, sym, subst, ◌∙◌, arith}
use Rattle.gql_ast.specs.declared.literal.Literal.{Literal}
use Rattle.gql_ast.specs.declared.type_system.InputValueDefinition.{InputValueDefinition}
use Rattle.gql_inputs.specs.InputTypes.{is_non_null}
use Rattle.gql_types.specs.Written.{Written, written}
use Rattle.gql_types.specs.declared.schema.Schema.{Schema}
use Rattle.serde_json.specs.Data as json
use Rattle.serde_json.specs.Data.{Data}
use Rattle.serde_json.specs.Find.{as_null}
use Rattle.serde_json.specs.View.{items_of}
use Rattle.gql_coerce.specs.Coercion.{coerced, at_level, Expected, nothing, anything, this, Entry, Entries, are, unknown, no_object, null_at, given_at, once, single_at, item_at, items_from, array_of, list_by, or_null, default_of, or_default, if_given, entry_at, member_at, object_at, put_all, under, items_expected, entries_for, is_list_expected}
use Rattle.gql_coerce.specs.Comes.{Outcome, Eventually, reached}
use Rattle.gql_coerce.specs.Comes as comes
use Rattle.gql_coerce.specs.Frames.{Inner}
use Rattle.gql_coerce.specs.Inputs.{Input, Inputs, absent, given, null, single, list, object, all_inputs, all_fields, literal, may_be_list}
use Rattle.gql_coerce.specs.Outcomes.{Reached, value, refused, too_deep, after, within, all, some}
use Rattle.gql_coerce.specs.Scalars.{wrong_kind}
use Rattle.gql_coerce.specs.declared.refusal.Reason.{Reason}
use Rattle.gql_coerce.specs.declared.refusal.Reason.TheVariants as reason
use Rattle.gql_coerce.specs.declared.refusal.Segment.{Segment}
use Rattle.gql_coerce.specs.declared.refusal.Segment.TheVariants.{Index, Key}
use Rattle.gql_coerce.proofs.Reading.{level, no_level}
use Rattle.gql_coerce.proofs.Deeper.{one_reached, is_too_deep}
use Rattle.gql_cases.specs.Inputs as cases
use Rattle.gql_cases.specs.Inputs.{Becomes, ItemsBecome, ItemBecomes, MembersBecome, MemberBecomes, IsNotGiven, NullComes, AreItemsOf, InCases, there, below, as_array, as_object, listed_once, type_of_member}

-- ---- choices

pub pick_true : {A : Type 0} (b : Bool) (x y : A) → b ≡ true → (if b then x else y) ≡ x
pick_true b x y is = ap (λ c. if c then x else y) is

pub pick_false : {A : Type 0} (b : Bool) (x y : A) → b ≡ false → (if b then x else y) ≡ y
pick_false b x y is = ap (λ c. if c then x else y) is

-- ---- outcomes that are reached with enough levels

abbrev pub Ev : {A : Type 0} → (ℕ → Reached A) → Outcome A → Type 0
Ev f o = Eventually (λ n. f n ≡ reached o)

pub always : {A : Type 0} (f : ℕ → Reached A) (o : Outcome A) → ((n : ℕ) → f n ≡ reached o) → Ev f o
always f o h = (0, λ n. h (0 + n))

pub mapped : {A B : Type 0} (g : Reached A → Reached B) (f : ℕ → Reached A) (o : Outcome A) (p : Outcome B) → g (reached o) ≡ reached p → Ev f o → Ev (λ n. g (f n)) p
mapped g f o p is (k, h) = (k, λ n. ap g (h n) ∙ is)

-- another function with the same values
pub instead : {A : Type 0} (f g : ℕ → Reached A) (o : Outcome A) → ((n : ℕ) → g n ≡ f n) → Ev f o → Ev g o
instead f g o same (k, h) = (k, λ n. same (k + n) ∙ h n)

pub then_value : {A B : Type 0} (f : ℕ → Reached A) (h : ℕ → A → Reached B) (x : A) (o : Outcome B) → Ev f (comes.value x) → Ev (λ n. h n x) o → Ev (λ n. after (f n) (h n)) o
then_value f h x o (k, is) (j, later) = (k + j, λ n. ap (λ p. after p (h (k + j + n))) (first n) ∙ second n) where
  one : (n : ℕ) → k + j + n ≡ k + (j + n)
  one n = omega arith

  other : (n : ℕ) → k + j + n ≡ j + (k + n)
  other n = omega arith

  first : (n : ℕ) → f (k + j + n) ≡ value x
  first n = ap f (one n) ∙ is (j + n)

  second : (n : ℕ) → h (k + j + n) x ≡ reached o
  second n = ap (λ m. h m x) (other n) ∙ later (k + n)

pub then_refused : {A B : Type 0} (f : ℕ → Reached A) (h : ℕ → A → Reached B) (r : Reason) (path : List Segment) → Ev f (comes.refused r path) → Ev {A = B} (λ n. after (f n) (h n)) (comes.refused r path)
then_refused f h r path (k, is) = (k, λ n. ap (λ o. after o (h (k + n))) (is n))

-- ---- small equations

null_is : {e : Option Written} {o : Outcome Data} → NullComes e o → null_at e ≡ reached o
null_is cases.within_a_scalar = refl
null_is (cases.nullable {t = t} is) = pick_false (is_non_null t) (refused reason.NullForNonNull []) (value json.null) is
null_is (cases.non_null {t = t} is) = pick_true (is_non_null t) (refused reason.NullForNonNull []) (value json.null) is

some_there : (o : Outcome Data) (a : Reached Data) → a ≡ reached o → some a ≡ reached (there o)
some_there (comes.value d) a is = ap some is
some_there (comes.refused r path) a is = ap some is

once_value : (e : Option Written) (d : Data) → once e (value (Some d)) ≡ value (Some (listed_once e d))
once_value None d = refl
once_value (Some t) d = refl

once_refused : (e : Option Written) (r : Reason) (path : List Segment) → once e (refused r path) ≡ refused r path
once_refused None r path = refl
once_refused (Some t) r path = refl

array_is : (o : Outcome (List Data)) → some (after (reached o) (λ ds. value (json.array (items_of ds)))) ≡ reached (as_array o)
array_is (comes.value ds) = refl
array_is (comes.refused r path) = refl

object_is : (e : Option Written) (o : Outcome (List (Option (List ℕ × Data)))) → once e (some (after (reached o) (λ ms. value (json.object (put_all ms json.no_members))))) ≡ reached (as_object e o)
object_is e (comes.value ms) = once_value e (json.object (put_all ms json.no_members))
object_is e (comes.refused r path) = once_refused e r path

pub within_is : {A : Type 0} (g : Segment) (o : Outcome A) → within g (reached o) ≡ reached (below g o)
within_is g (comes.value x) = refl
within_is g (comes.refused r path) = refl

default_kept : (inner : Inner) (n : List ℕ) (f : Option InputValueDefinition) (d : Data) → or_default inner n f (Some d) ≡ value (Some d)
default_kept inner n None d = refl
default_kept inner n (Some f) d = refl

module _ (s : Schema) where
  up : (x : Input) (e : Option Written) (o : Outcome (Option Data)) → Ev (λ n. at_level (coerced n s) s x e) o → Ev (λ n. coerced n s x e) o
  up x e o (k, h) = (suc k, λ n. ap (λ m. coerced m s x e) (one n) ∙ level (k + n) s x e ∙ h n) where
    one : (n : ℕ) → suc k + n ≡ suc (k + n)
    one n = omega arith

  list_here : {e i : Option Written} (ys : List Input) (o : Outcome (List Data)) → AreItemsOf s e i → Ev (λ n. all (items_from (item_at (coerced n s) i) 0 ys)) o
      → Ev (λ n. some (list_by (coerced n s) ys (items_expected s e))) (as_array o)
  list_here {e} ys o (cases.items_of_any is) h =
      instead (λ n. some (list_by (coerced n s) ys anything)) (λ n. some (list_by (coerced n s) ys (items_expected s e))) (as_array o) (λ n. ap (λ i. some (list_by (coerced n s) ys i)) is)
      (mapped (λ a. some (after a (λ ds. value (json.array (items_of ds))))) (λ n. all (items_from (item_at (coerced n s) None) 0 ys)) o (as_array o) (array_is o) h)
  list_here {e} ys o (cases.items_of_type {t = t} is) h =
      instead (λ n. some (list_by (coerced n s) ys (this t))) (λ n. some (list_by (coerced n s) ys (items_expected s e))) (as_array o) (λ n. ap (λ i. some (list_by (coerced n s) ys i)) is)
      (mapped (λ a. some (after a (λ ds. value (json.array (items_of ds))))) (λ n. all (items_from (item_at (coerced n s) (Some t)) 0 ys)) o (as_array o) (array_is o) h)

  object_here : (e : Option Written) (es : Entries) (ms : List Entry) (o : Outcome (List (Option (List ℕ × Data)))) → es ≡ are ms → Ev (λ n. all (map (member_at (coerced n s)) ms)) o
      → Ev (λ n. once e (some (object_at (coerced n s) es))) (as_object e o)
  object_here e es ms o is h =
      instead (λ n. once e (some (object_at (coerced n s) (are ms)))) (λ n. once e (some (object_at (coerced n s) es))) (as_object e o) (λ n. ap (λ i. once e (some (object_at (coerced n s) i))) is)
      (mapped (λ a. once e (some (after a (λ more. value (json.object (put_all more json.no_members)))))) (λ n. all (map (member_at (coerced n s)) ms)) o (as_object e o) (object_is e o) h)

  unless : (i : Option Written) (x : Input) (o : Outcome Data) → (is_list_expected i && not (may_be_list x)) ≡ false → Ev (λ n. after (coerced n s x i) (or_null i)) o → Ev (λ n. item_at (coerced n s) i x) o
  unless i x o is h = instead (λ n. after (coerced n s x i) (or_null i)) (λ n. item_at (coerced n s) i x) o (λ n. pick_false (is_list_expected i && not (may_be_list x)) wrong_kind (after (coerced n s x i) (or_null i)) is) h

  mutual
    pub input : {e : Option Written} {x : Input} {o : Outcome (Option Data)} → Becomes s e x o → Ev (λ n. coerced n s x e) o
    input {e} cases.no_variable = up absent e (comes.value None) (always (λ n. value None) (comes.value None) (λ n. refl))
    input {e} (cases.null_variable {d = d} {o = o} is h) = up (given d) e (there o) (always (λ n. some (given_at e d)) (there o) (λ n. some_there o (given_at e d) (pick_true (is_some (as_null d)) (null_at e) (value d) is ∙ null_is h)))
    input {e} (cases.variable {d = d} is) = up (given d) e (comes.value (Some d)) (always (λ n. some (given_at e d)) (comes.value (Some d)) (λ n. ap some (pick_false (is_some (as_null d)) (null_at e) (value d) is)))
    input {e} (cases.null_literal {o = o} h) = up null e (there o) (always (λ n. some (null_at e)) (there o) (λ n. some_there o (null_at e) (null_is h)))
    input {e} (cases.single_taken {x = x} {d = d} is) = up (single x) e (comes.value (Some (listed_once e d))) (always (λ n. once e (some (single_at s e x))) (comes.value (Some (listed_once e d))) (λ n. ap (λ a. once e (some a)) is ∙ once_value e d))
    input {e} (cases.single_refused {x = x} {r = r} {path = path} is) = up (single x) e (comes.refused r path) (always (λ n. once e (some (single_at s e x))) (comes.refused r path) (λ n. ap (λ a. once e (some a)) is ∙ once_refused e r path))
    input {e} (cases.no_list {xs = xs} is) = up (list xs) e (comes.refused reason.WrongKind []) (always (λ n. some (list_by (coerced n s) (all_inputs xs) (items_expected s e))) (comes.refused reason.WrongKind []) (λ n. ap (λ i. some (list_by (coerced n s) (all_inputs xs) i)) is))
    input {e} (cases.a_list {xs = xs} {o = o} are_items h) = up (list xs) e (as_array o) (list_here (all_inputs xs) o are_items (items h))
    input {e} (cases.no_object_here {fs = fs} is) = up (object fs) e (comes.refused reason.WrongKind []) (always (λ n. once e (some (object_at (coerced n s) (entries_for s (all_fields fs) e)))) (comes.refused reason.WrongKind [])
        (λ n. ap (λ i. once e (some (object_at (coerced n s) i))) is ∙ once_refused e reason.WrongKind []))
    input {e} (cases.unknown_field {fs = fs} {n = name} is) = up (object fs) e (comes.refused reason.UnknownField (Key name ∷ [])) (always (λ n. once e (some (object_at (coerced n s) (entries_for s (all_fields fs) e)))) (comes.refused reason.UnknownField (Key name ∷ []))
        (λ n. ap (λ i. once e (some (object_at (coerced n s) i))) is ∙ once_refused e reason.UnknownField (Key name ∷ [])))
    input {e} (cases.an_object {fs = fs} {ms = ms} {o = o} is h) = up (object fs) e (as_object e o) (object_here e (entries_for s (all_fields fs) e) ms o is (members h))

    items : {i : Option Written} {n : ℕ} {xs : List Input} {o : Outcome (List Data)} → ItemsBecome s i n xs o → Ev (λ k. all (items_from (item_at (coerced k s) i) n xs)) o
    items cases.no_items = always (λ k. value []) (comes.value []) (λ k. refl)
    items {i} (cases.all_items {n = n} {x = x} {xs = xs} {d = d} {ds = ds} h hs) =
        then_value (λ k. within (Index n) (item_at (coerced k s) i x)) (λ k y. after (all (items_from (item_at (coerced k s) i) (suc n) xs)) (λ ys. value (y ∷ ys))) d (comes.value (d ∷ ds))
        (mapped (within (Index n)) (λ k. item_at (coerced k s) i x) (comes.value d) (comes.value d) refl (item h))
        (then_value (λ k. all (items_from (item_at (coerced k s) i) (suc n) xs)) (λ k ys. value (d ∷ ys)) ds (comes.value (d ∷ ds)) (items hs) (always (λ k. value (d ∷ ds)) (comes.value (d ∷ ds)) (λ k. refl)))
    items {i} (cases.item_refused {n = n} {x = x} {xs = xs} {r = r} {path = path} h) =
        then_refused (λ k. within (Index n) (item_at (coerced k s) i x)) (λ k y. after (all (items_from (item_at (coerced k s) i) (suc n) xs)) (λ ys. value (y ∷ ys))) r (Index n ∷ path)
        (mapped (within (Index n)) (λ k. item_at (coerced k s) i x) (comes.refused r path) (comes.refused r (Index n ∷ path)) refl (item h))
    items {i} (cases.later_item_refused {n = n} {x = x} {xs = xs} {d = d} {r = r} {path = path} h hs) =
        then_value (λ k. within (Index n) (item_at (coerced k s) i x)) (λ k y. after (all (items_from (item_at (coerced k s) i) (suc n) xs)) (λ ys. value (y ∷ ys))) d (comes.refused r path)
        (mapped (within (Index n)) (λ k. item_at (coerced k s) i x) (comes.value d) (comes.value d) refl (item h))
        (then_refused (λ k. all (items_from (item_at (coerced k s) i) (suc n) xs)) (λ k ys. value (d ∷ ys)) r path (items hs))

    item : {i : Option Written} {x : Input} {o : Outcome Data} → ItemBecomes s i x o → Ev (λ k. item_at (coerced k s) i x) o
    item {i} (cases.not_listed {x = x} is) = always (λ k. item_at (coerced k s) i x) (comes.refused reason.WrongKind []) (λ k. pick_true (is_list_expected i && not (may_be_list x)) wrong_kind (after (coerced k s x i) (or_null i)) is)
    item {i} (cases.item_taken {x = x} {d = d} is h) = unless i x (comes.value d) is (then_value (λ k. coerced k s x i) (λ k. or_null i) (Some d) (comes.value d) (input h) (always (λ k. value d) (comes.value d) (λ k. refl)))
    item {i} (cases.item_without_value {x = x} {o = o} is h none) = unless i x o is (then_value (λ k. coerced k s x i) (λ k. or_null i) None o (input h) (always (λ k. null_at i) o (λ k. null_is none)))
    item {i} (cases.refused_item {x = x} {r = r} {path = path} is h) = unless i x (comes.refused r path) is (then_refused (λ k. coerced k s x i) (λ k. or_null i) r path (input h))

    members : {ms : List Entry} {o : Outcome (List (Option (List ℕ × Data)))} → MembersBecome s ms o → Ev (λ k. all (map (member_at (coerced k s)) ms)) o
    members cases.no_members_left = always (λ k. value []) (comes.value []) (λ k. refl)
    members (cases.all_members {m = m} {ms = ms} {v = v} {vs = vs} h hs) =
        then_value (λ k. member_at (coerced k s) m) (λ k y. after (all (map (member_at (coerced k s)) ms)) (λ ys. value (y ∷ ys))) (under m.name v) (comes.value (under m.name v ∷ vs))
        (then_value (λ k. entry_at (coerced k s) m) (λ k y. value (under m.name y)) v (comes.value (under m.name v)) (member h) (always (λ k. value (under m.name v)) (comes.value (under m.name v)) (λ k. refl)))
        (then_value (λ k. all (map (member_at (coerced k s)) ms)) (λ k ys. value (under m.name v ∷ ys)) vs (comes.value (under m.name v ∷ vs)) (members hs) (always (λ k. value (under m.name v ∷ vs)) (comes.value (under m.name v ∷ vs)) (λ k. refl)))
    members (cases.member_refused {m = m} {ms = ms} {r = r} {path = path} h) =
        then_refused (λ k. member_at (coerced k s) m) (λ k y. after (all (map (member_at (coerced k s)) ms)) (λ ys. value (y ∷ ys))) r path
        (then_refused (λ k. entry_at (coerced k s) m) (λ k y. value (under m.name y)) r path (member h))
    members (cases.later_member_refused {m = m} {ms = ms} {v = v} {r = r} {path = path} h hs) =
        then_value (λ k. member_at (coerced k s) m) (λ k y. after (all (map (member_at (coerced k s)) ms)) (λ ys. value (y ∷ ys))) (under m.name v) (comes.refused r path)
        (then_value (λ k. entry_at (coerced k s) m) (λ k y. value (under m.name y)) v (comes.value (under m.name v)) (member h) (always (λ k. value (under m.name v)) (comes.value (under m.name v)) (λ k. refl)))
        (then_refused (λ k. all (map (member_at (coerced k s)) ms)) (λ k ys. value (under m.name v ∷ ys)) r path (members hs))

    member : {m : Entry} {o : Outcome (Option Data)} → MemberBecomes s m o → Ev (λ k. entry_at (coerced k s) m) o
    member (cases.member_given {m = m} {x = x} {d = d} is h) =
        then_value (λ k. if_given (coerced k s) m.name m.definition m.given) (λ k. or_default (coerced k s) m.name m.definition) (Some d) (comes.value (Some d))
        (instead (λ k. within (Key m.name) (coerced k s x (type_of_member m))) (λ k. if_given (coerced k s) m.name m.definition m.given) (comes.value (Some d)) (λ k. ap (if_given (coerced k s) m.name m.definition) is)
        (mapped (within (Key m.name)) (λ k. coerced k s x (type_of_member m)) (comes.value (Some d)) (comes.value (Some d)) refl (input h)))
        (always (λ k. or_default (coerced k s) m.name m.definition (Some d)) (comes.value (Some d)) (λ k. default_kept (coerced k s) m.name m.definition d))
    member (cases.given_refused {m = m} {x = x} {r = r} {path = path} is h) =
        then_refused (λ k. if_given (coerced k s) m.name m.definition m.given) (λ k. or_default (coerced k s) m.name m.definition) r (Key m.name ∷ path)
        (instead (λ k. within (Key m.name) (coerced k s x (type_of_member m))) (λ k. if_given (coerced k s) m.name m.definition m.given) (comes.refused r (Key m.name ∷ path)) (λ k. ap (if_given (coerced k s) m.name m.definition) is)
        (mapped (within (Key m.name)) (λ k. coerced k s x (type_of_member m)) (comes.refused r path) (comes.refused r (Key m.name ∷ path)) refl (input h)))
    member (cases.no_definition {m = m} ng is) =
        then_value (λ k. if_given (coerced k s) m.name m.definition m.given) (λ k. or_default (coerced k s) m.name m.definition) None (comes.value None) (not_given ng)
        (always (λ k. or_default (coerced k s) m.name m.definition None) (comes.value None) (λ k. ap (λ f. or_default (coerced k s) m.name f None) is))
    member (cases.by_default {m = m} {f = f} {x = x} {o = o} ng is def h) =
        then_value (λ k. if_given (coerced k s) m.name m.definition m.given) (λ k. or_default (coerced k s) m.name m.definition) None (below (Key m.name) o) (not_given ng)
        (instead (λ k. within (Key m.name) (coerced k s (literal json.null x) (Some (written f.of_type)))) (λ k. or_default (coerced k s) m.name m.definition None) (below (Key m.name) o)
        (λ k. ap (λ g. or_default (coerced k s) m.name g None) is ∙ ap (default_of (coerced k s) m.name (written f.of_type)) def)
        (mapped (within (Key m.name)) (λ k. coerced k s (literal json.null x) (Some (written f.of_type))) o (below (Key m.name) o) (within_is (Key m.name) o) (input h)))
    member (cases.missing {m = m} {f = f} ng is def required) =
        then_value (λ k. if_given (coerced k s) m.name m.definition m.given) (λ k. or_default (coerced k s) m.name m.definition) None (comes.refused reason.MissingField (Key m.name ∷ [])) (not_given ng)
        (always (λ k. or_default (coerced k s) m.name m.definition None) (comes.refused reason.MissingField (Key m.name ∷ []))
        (λ k. ap (λ g. or_default (coerced k s) m.name g None) is ∙ ap (default_of (coerced k s) m.name (written f.of_type)) def ∙ pick_true (is_non_null (written f.of_type)) (refused reason.MissingField (Key m.name ∷ [])) (value None) required))
    member (cases.left_out {m = m} {f = f} ng is def optional) =
        then_value (λ k. if_given (coerced k s) m.name m.definition m.given) (λ k. or_default (coerced k s) m.name m.definition) None (comes.value None) (not_given ng)
        (always (λ k. or_default (coerced k s) m.name m.definition None) (comes.value None)
        (λ k. ap (λ g. or_default (coerced k s) m.name g None) is ∙ ap (default_of (coerced k s) m.name (written f.of_type)) def ∙ pick_false (is_non_null (written f.of_type)) (refused reason.MissingField (Key m.name ∷ [])) (value None) optional))

    not_given : {m : Entry} → IsNotGiven s m → Ev (λ k. if_given (coerced k s) m.name m.definition m.given) (comes.value None)
    not_given (cases.nothing_given {m = m} is) = always (λ k. if_given (coerced k s) m.name m.definition m.given) (comes.value None) (λ k. ap (if_given (coerced k s) m.name m.definition) is)
    not_given (cases.no_value_given {m = m} {x = x} is h) =
        instead (λ k. within (Key m.name) (coerced k s x (type_of_member m))) (λ k. if_given (coerced k s) m.name m.definition m.given) (comes.value None) (λ k. ap (if_given (coerced k s) m.name m.definition) is)
        (mapped (within (Key m.name)) (λ k. coerced k s x (type_of_member m)) (comes.value None) (comes.value None) refl (input h))

-- ---- from what is reached to the cases

not_too_deep : {A : Type 0} (o : Outcome A) → is_too_deep (reached o) ≡ false
not_too_deep (comes.value x) = refl
not_too_deep (comes.refused r path) = refl

pub never : {A B : Type 0} (o : Outcome A) → too_deep ≡ reached o → B
never o is = absurd (true≢false (ap is_too_deep is ∙ not_too_deep o))

pub value_is : {A : Type 0} (x : A) (o : Outcome A) → value x ≡ reached o → comes.value x ≡ o
value_is x o is = one_reached (comes.value x) o is

pub refused_is : {A : Type 0} (r : Reason) (path : List Segment) (o : Outcome A) → refused r path ≡ reached o → comes.refused r path ≡ o
refused_is r path o is = one_reached (comes.refused r path) o is

null_from : (e : Option Written) (o : Outcome Data) → null_at e ≡ reached o → NullComes e o
null_from None o is = subst (NullComes None) (value_is json.null o is) cases.within_a_scalar
null_from (Some t) o is = by (is_non_null t) refl where
  by : (b : Bool) → is_non_null t ≡ b → NullComes (Some t) o
  by true non_null = subst (NullComes (Some t)) (refused_is reason.NullForNonNull [] o (sym (pick_true (is_non_null t) (refused reason.NullForNonNull []) (value json.null) non_null) ∙ is)) (cases.non_null non_null)
  by false nullable = subst (NullComes (Some t)) (value_is json.null o (sym (pick_false (is_non_null t) (refused reason.NullForNonNull []) (value json.null) nullable) ∙ is)) (cases.nullable nullable)

-- an outcome of which another is made
from_some : (a : Reached Data) (o : Outcome (Option Data)) → some a ≡ reached o → (p : Outcome Data) × (a ≡ reached p) × (there p ≡ o)
from_some (value d) o is = (comes.value d, refl, value_is (Some d) o is)
from_some (refused r path) o is = (comes.refused r path, refl, refused_is r path o is)
from_some too_deep o is = never o is

from_array : (a : Reached (List Data)) (o : Outcome (Option Data)) → some (after a (λ ds. value (json.array (items_of ds)))) ≡ reached o → (p : Outcome (List Data)) × (a ≡ reached p) × (as_array p ≡ o)
from_array (value ds) o is = (comes.value ds, refl, value_is (Some (json.array (items_of ds))) o is)
from_array (refused r path) o is = (comes.refused r path, refl, refused_is r path o is)
from_array too_deep o is = never o is

from_object : (e : Option Written) (a : Reached (List (Option (List ℕ × Data)))) (o : Outcome (Option Data)) → once e (some (after a (λ ms. value (json.object (put_all ms json.no_members))))) ≡ reached o
    → (p : Outcome (List (Option (List ℕ × Data)))) × (a ≡ reached p) × (as_object e p ≡ o)
from_object e (value ms) o is = (comes.value ms, refl, value_is (Some (listed_once e (json.object (put_all ms json.no_members)))) o (sym (once_value e (json.object (put_all ms json.no_members))) ∙ is))
from_object e (refused r path) o is = (comes.refused r path, refl, refused_is r path o (sym (once_refused e r path) ∙ is))
from_object None too_deep o is = never o is
from_object (Some t) too_deep o is = never o is

-- what is given for a member, before its default
if_given_is : (f : Inner) (m : Entry) (g : Option Input) → m.given ≡ g → if_given f m.name m.definition m.given ≡ if_given f m.name m.definition g
if_given_is f m g is = ap (if_given f m.name m.definition) is

module _ (s : Schema) (f : Inner) (each : (x : Input) (e : Option Written) (o : Outcome (Option Data)) → f x e ≡ reached o → Becomes s e x o) where
  item_back : (i : Option Written) (x : Input) (o : Outcome Data) → item_at f i x ≡ reached o → ItemBecomes s i x o
  item_back i x o is = by (is_list_expected i && not (may_be_list x)) refl where
    by_value : (is_list_expected i && not (may_be_list x)) ≡ false → (a : Reached (Option Data)) → f x i ≡ a → after a (or_null i) ≡ reached o → ItemBecomes s i x o
    by_value free (value (Some d)) here so = subst (ItemBecomes s i x) (value_is d o so) (cases.item_taken free (each x i (comes.value (Some d)) here))
    by_value free (value None) here so = cases.item_without_value free (each x i (comes.value None) here) (null_from i o so)
    by_value free (refused r path) here so = subst (ItemBecomes s i x) (refused_is r path o so) (cases.refused_item free (each x i (comes.refused r path) here))
    by_value free too_deep here so = never o so

    by : (b : Bool) → (is_list_expected i && not (may_be_list x)) ≡ b → ItemBecomes s i x o
    by true listed = subst (ItemBecomes s i x) (refused_is reason.WrongKind [] o (sym (pick_true (is_list_expected i && not (may_be_list x)) wrong_kind (after (f x i) (or_null i)) listed) ∙ is)) (cases.not_listed listed)
    by false free = by_value free (f x i) refl (sym (pick_false (is_list_expected i && not (may_be_list x)) wrong_kind (after (f x i) (or_null i)) free) ∙ is)

  items_back : (i : Option Written) (n : ℕ) (xs : List Input) (o : Outcome (List Data)) → all (items_from (item_at f i) n xs) ≡ reached o → ItemsBecome s i n xs o
  items_back i n [] o is = subst (ItemsBecome s i n []) (value_is [] o is) cases.no_items
  items_back i n (x ∷ xs) o is = by (λ p so. items_back i (suc n) xs p so) (item_at f i x) refl is where
    by_rest : ((p : Outcome (List Data)) → all (items_from (item_at f i) (suc n) xs) ≡ reached p → ItemsBecome s i (suc n) xs p) → (d : Data) → item_at f i x ≡ value d → (a : Reached (List Data))
        → all (items_from (item_at f i) (suc n) xs) ≡ a → after a (λ ds. value (d ∷ ds)) ≡ reached o → ItemsBecome s i n (x ∷ xs) o
    by_rest later d first (value ds) rest so = subst (ItemsBecome s i n (x ∷ xs)) (value_is (d ∷ ds) o so) (cases.all_items (item_back i x (comes.value d) first) (later (comes.value ds) rest))
    by_rest later d first (refused r path) rest so = subst (ItemsBecome s i n (x ∷ xs)) (refused_is r path o so) (cases.later_item_refused (item_back i x (comes.value d) first) (later (comes.refused r path) rest))
    by_rest later d first too_deep rest so = never o so

    by : ((p : Outcome (List Data)) → all (items_from (item_at f i) (suc n) xs) ≡ reached p → ItemsBecome s i (suc n) xs p) → (a : Reached Data) → item_at f i x ≡ a
        → after (within (Index n) a) (λ d. after (all (items_from (item_at f i) (suc n) xs)) (λ ds. value (d ∷ ds))) ≡ reached o → ItemsBecome s i n (x ∷ xs) o
    by later (value d) first so = by_rest later d first (all (items_from (item_at f i) (suc n) xs)) refl so
    by later (refused r path) first so = subst (ItemsBecome s i n (x ∷ xs)) (refused_is r (Index n ∷ path) o so) (cases.item_refused (item_back i x (comes.refused r path) first))
    by later too_deep first so = never o so

  default_back : (m : Entry) (o : Outcome (Option Data)) → IsNotGiven s m → or_default f m.name m.definition None ≡ reached o → MemberBecomes s m o
  default_back m o ng is = by (m.definition) refl is where
    by_outcome : (d : InputValueDefinition) (x : Literal) → m.definition ≡ Some d → d.default ≡ Some x → (a : Reached (Option Data)) → f (literal json.null x) (Some (written d.of_type)) ≡ a
        → within (Key m.name) a ≡ reached o → MemberBecomes s m o
    by_outcome d x defined def (value v) here so = subst (MemberBecomes s m) (value_is v o so) (cases.by_default ng defined def (each (literal json.null x) (Some (written d.of_type)) (comes.value v) here))
    by_outcome d x defined def (refused r path) here so = subst (MemberBecomes s m) (refused_is r (Key m.name ∷ path) o so) (cases.by_default ng defined def (each (literal json.null x) (Some (written d.of_type)) (comes.refused r path) here))
    by_outcome d x defined def too_deep here so = never o so

    by_type : (d : InputValueDefinition) → m.definition ≡ Some d → d.default ≡ None → (b : Bool) → is_non_null (written d.of_type) ≡ b
        → (if b then refused reason.MissingField (Key m.name ∷ []) else value None) ≡ reached o → MemberBecomes s m o
    by_type d defined def true required so = subst (MemberBecomes s m) (refused_is reason.MissingField (Key m.name ∷ []) o so) (cases.missing ng defined def required)
    by_type d defined def false optional so = subst (MemberBecomes s m) (value_is None o so) (cases.left_out ng defined def optional)

    by_literal : (d : InputValueDefinition) → m.definition ≡ Some d → (x : Option Literal) → d.default ≡ x → default_of f m.name (written d.of_type) x ≡ reached o → MemberBecomes s m o
    by_literal d defined (Some x) def so = by_outcome d x defined def (f (literal json.null x) (Some (written d.of_type))) refl so
    by_literal d defined None def so = by_type d defined def (is_non_null (written d.of_type)) refl so

    by : (g : Option InputValueDefinition) → m.definition ≡ g → or_default f m.name g None ≡ reached o → MemberBecomes s m o
    by None none so = subst (MemberBecomes s m) (value_is None o so) (cases.no_definition ng none)
    by (Some d) defined so = by_literal d defined d.default refl so

  entry_back : (m : Entry) (o : Outcome (Option Data)) → entry_at f m ≡ reached o → MemberBecomes s m o
  entry_back m o is = by (m.given) refl is where
    by_outcome : (x : Input) → m.given ≡ Some x → (a : Reached (Option Data)) → f x (type_of_member m) ≡ a → after (within (Key m.name) a) (or_default f m.name m.definition) ≡ reached o → MemberBecomes s m o
    by_outcome x gives (value (Some d)) here so = subst (MemberBecomes s m) (value_is (Some d) o (sym (default_kept f m.name m.definition d) ∙ so)) (cases.member_given gives (each x (type_of_member m) (comes.value (Some d)) here))
    by_outcome x gives (value None) here so = default_back m o (cases.no_value_given gives (each x (type_of_member m) (comes.value None) here)) so
    by_outcome x gives (refused r path) here so = subst (MemberBecomes s m) (refused_is r (Key m.name ∷ path) o so) (cases.given_refused gives (each x (type_of_member m) (comes.refused r path) here))
    by_outcome x gives too_deep here so = never o so

    by : (g : Option Input) → m.given ≡ g → after (if_given f m.name m.definition g) (or_default f m.name m.definition) ≡ reached o → MemberBecomes s m o
    by None none so = default_back m o (cases.nothing_given none) so
    by (Some x) gives so = by_outcome x gives (f x (type_of_member m)) refl so

  members_back : (ms : List Entry) (o : Outcome (List (Option (List ℕ × Data)))) → all (map (member_at f) ms) ≡ reached o → MembersBecome s ms o
  members_back [] o is = subst (MembersBecome s []) (value_is [] o is) cases.no_members_left
  members_back (m ∷ ms) o is = by (λ p so. members_back ms p so) (entry_at f m) refl is where
    by_rest : ((p : Outcome (List (Option (List ℕ × Data)))) → all (map (member_at f) ms) ≡ reached p → MembersBecome s ms p) → (v : Option Data) → entry_at f m ≡ value v → (a : Reached (List (Option (List ℕ × Data))))
        → all (map (member_at f) ms) ≡ a → after a (λ vs. value (under m.name v ∷ vs)) ≡ reached o → MembersBecome s (m ∷ ms) o
    by_rest later v first (value vs) rest so = subst (MembersBecome s (m ∷ ms)) (value_is (under m.name v ∷ vs) o so) (cases.all_members (entry_back m (comes.value v) first) (later (comes.value vs) rest))
    by_rest later v first (refused r path) rest so = subst (MembersBecome s (m ∷ ms)) (refused_is r path o so) (cases.later_member_refused (entry_back m (comes.value v) first) (later (comes.refused r path) rest))
    by_rest later v first too_deep rest so = never o so

    by : ((p : Outcome (List (Option (List ℕ × Data)))) → all (map (member_at f) ms) ≡ reached p → MembersBecome s ms p) → (a : Reached (Option Data)) → entry_at f m ≡ a
        → after (after a (λ v. value (under m.name v))) (λ y. after (all (map (member_at f) ms)) (λ ys. value (y ∷ ys))) ≡ reached o → MembersBecome s (m ∷ ms) o
    by later (value v) first so = by_rest later v first (all (map (member_at f) ms)) refl so
    by later (refused r path) first so = subst (MembersBecome s (m ∷ ms)) (refused_is r path o so) (cases.member_refused (entry_back m (comes.refused r path) first))
    by later too_deep first so = never o so

  array_back : (e i : Option Written) (xs : Inputs) (o : Outcome (Option Data)) → AreItemsOf s e i → some (array_of (item_at f i) (all_inputs xs)) ≡ reached o → Becomes s e (list xs) o
  array_back e i xs o are_items is =
      let p = from_array (all (items_from (item_at f i) 0 (all_inputs xs))) o is in
      subst (Becomes s e (list xs)) p.2 (cases.a_list are_items (items_back i 0 (all_inputs xs) p.0 p.1))

  level_back : (x : Input) (e : Option Written) (o : Outcome (Option Data)) → at_level f s x e ≡ reached o → Becomes s e x o
  level_back absent e o is = subst (Becomes s e absent) (value_is None o is) cases.no_variable
  level_back (given d) e o is = by (is_some (as_null d)) refl where
    by : (b : Bool) → is_some (as_null d) ≡ b → Becomes s e (given d) o
    by true nulled =
        let p = from_some (null_at e) o (sym (ap some (pick_true (is_some (as_null d)) (null_at e) (value d) nulled)) ∙ is) in
        subst (Becomes s e (given d)) p.2 (cases.null_variable nulled (null_from e p.0 p.1))
    by false other = subst (Becomes s e (given d)) (value_is (Some d) o (sym (ap some (pick_false (is_some (as_null d)) (null_at e) (value d) other)) ∙ is)) (cases.variable other)
  level_back null e o is =
      let p = from_some (null_at e) o is in
      subst (Becomes s e null) p.2 (cases.null_literal (null_from e p.0 p.1))
  level_back (single x) e o is = by (single_at s e x) refl is where
    by : (a : Reached Data) → single_at s e x ≡ a → once e (some a) ≡ reached o → Becomes s e (single x) o
    by (value d) here so = subst (Becomes s e (single x)) (value_is (Some (listed_once e d)) o (sym (once_value e d) ∙ so)) (cases.single_taken here)
    by (refused r path) here so = subst (Becomes s e (single x)) (refused_is r path o (sym (once_refused e r path) ∙ so)) (cases.single_refused here)
    by too_deep here so = deep e so where
      deep : (e : Option Written) → once e too_deep ≡ reached o → Becomes s e (single x) o
      deep None so = never o so
      deep (Some t) so = never o so
  level_back (list xs) e o is = by (items_expected s e) refl is where
    by : (i : Expected) → items_expected s e ≡ i → some (list_by f (all_inputs xs) i) ≡ reached o → Becomes s e (list xs) o
    by nothing here so = subst (Becomes s e (list xs)) (refused_is reason.WrongKind [] o so) (cases.no_list here)
    by anything here so = array_back e None xs o (cases.items_of_any here) so
    by (this t) here so = array_back e (Some t) xs o (cases.items_of_type here) so
  level_back (object fs) e o is = by (entries_for s (all_fields fs) e) refl is where
    by : (es : Entries) → entries_for s (all_fields fs) e ≡ es → once e (some (object_at f es)) ≡ reached o → Becomes s e (object fs) o
    by (are ms) here so =
        let p = from_object e (all (map (member_at f) ms)) o so in
        subst (Becomes s e (object fs)) p.2 (cases.an_object here (members_back ms p.0 p.1))
    by (unknown n) here so = subst (Becomes s e (object fs)) (refused_is reason.UnknownField (Key n ∷ []) o (sym (once_refused e reason.UnknownField (Key n ∷ [])) ∙ so)) (cases.unknown_field here)
    by no_object here so = subst (Becomes s e (object fs)) (refused_is reason.WrongKind [] o (sym (once_refused e reason.WrongKind []) ∙ so)) (cases.no_object_here here)

pub back : (s : Schema) (n : ℕ) (x : Input) (e : Option Written) (o : Outcome (Option Data)) → coerced n s x e ≡ reached o → Becomes s e x o
back s zero x e o is = never o (sym (no_level s x e) ∙ is)
back s (suc n) x e o is = level_back s (coerced n s) (back s n) x e o (sym (level n s x e) ∙ is)

pub in_cases : InCases
in_cases s x t o = (λ h. input s h, λ h. back s (h.0 + 0) x (Some t) o (h.1 0))

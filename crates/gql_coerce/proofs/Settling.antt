-- Every input comes to something where the defaults that it takes do.
use Rattle.std.proofs.Common.{◌≡◌, ◌+◌, inl, inr, ℕ, zero, suc, List, [], ◌∷◌, Bool, true, false, true≢false, ◌&&◌, not, if◌then◌else◌, map, Option, Some, None, option_map, is_some, unwrap_or, Contains, find, bytes_eq, Float, option_and_then, refl, ap, sym, subst, ◌∙◌}
use Rattle.std.proofs.Math.Nat.{suc-add}
use Rattle.std.specs.Prelude.{⊤}
use Rattle.gql_ast.specs.declared.literal.Literal.{Literal}
use Rattle.gql_ast.specs.declared.type_system.InputValueDefinition.{InputValueDefinition}
use Rattle.gql_built_in.specs.declared.sited.Sited.{Sited}
use Rattle.gql_inputs.specs.InputTypes.{custom_scalar, is_custom_scalar, is_non_null, is_open, input_type, name_of, scalar_named}
use Rattle.gql_inputs.specs.declared.scalar.Scalar.{Scalar}
use Rattle.gql_inputs.specs.declared.scalar.Scalar.TheVariants as scalar
use Rattle.gql_types.specs.Written.{Written, written}
use Rattle.gql_types.specs.declared.kind.TypeKind.{TypeKind}
use Rattle.gql_types.specs.declared.kind.TypeKind.TheVariants as kind
use Rattle.gql_types.specs.declared.schema.Schema.{Schema}
use Rattle.gql_types.specs.declared.schema_type.SchemaType.{SchemaType}
use Rattle.serde_json.specs.Data as json
use Rattle.serde_json.specs.Data.{Data, Num}
use Rattle.serde_json.specs.Find.{as_null, of_float, of_integer}
use Rattle.serde_json.specs.View.{items_of}
use Rattle.gql_coerce.specs.Coercion.{coerced, at_level, Expected, nothing, anything, this, Entry, Entries, are, unknown, no_object, any_entry, any_entries, defined_entry, is_defined, unless_unknown, entries_at_kind, entries_by, entries_for, once, item_at, items_from, array_of, list_by, or_null, default_of, or_default, if_given, entry_at, member_at, object_at, put_all, under, null_at, given_at, single_at, as_type, items_expected, is_list_expected, one_in}
use Rattle.gql_coerce.specs.Comes.{Eventually}
use Rattle.gql_coerce.specs.Defaults.{is_absent, is_left_out, Takes, here, in_field, in_item, IsExpected, of_type, of_any}
use Rattle.gql_coerce.specs.Frames.{Inner}
use Rattle.gql_coerce.specs.Inputs.{Single, whole, out_of_range, fraction, text, json_text, truth, name, Input, Inputs, no_inputs, input, Fields, no_fields, field, Field, absent, given, null, single, list, object, all_inputs, all_fields, may_be_list, literal}
use Rattle.gql_coerce.specs.Outcomes.{Reached, value, refused, too_deep, after, within, all, some}
use Rattle.gql_coerce.specs.Scalars.{wrong_kind, past_range, is_of_32_bits, number_or_past, of_real, as_int, as_id, as_string, as_boolean, as_float, as_custom, as_open, as_scalar, is_value_of, of_enum, as_enum, as_kind}
use Rattle.gql_coerce.specs.declared.refusal.Reason.TheVariants as reason
use Rattle.gql_coerce.specs.declared.refusal.Segment.{Segment}
use Rattle.gql_coerce.specs.declared.refusal.Segment.TheVariants.{Index, Key}
use Rattle.gql_coerce.proofs.Deeper.{is_too_deep}
use Rattle.gql_coerce.proofs.InTime.{onward, both}
use Rattle.gql_coerce.proofs.Containing.{Contains-nil, Contains-here, Contains-there, Contains-cases, Contains-map_from}
use Rattle.gql_coerce.proofs.Reading.{level, no_level}

-- something is reached
abbrev pub Settled : {A : Type 0} → Reached A → Type 0
Settled a = is_too_deep a ≡ false

after_settled : {A B : Type 0} (a : Reached A) (f : A → Reached B) → Settled a → ((x : A) → a ≡ value x → Settled (f x)) → Settled (after a f)
after_settled (value x) f is each = each x refl
after_settled (refused r path) f is each = refl
after_settled too_deep f is each = is

within_settled : {A : Type 0} (g : Segment) (a : Reached A) → Settled a → Settled (within g a)
within_settled g (value x) is = refl
within_settled g (refused r path) is = refl
within_settled g too_deep is = is

some_settled : {A : Type 0} (a : Reached A) → Settled a → Settled (some a)
some_settled a is = after_settled a (λ x. value (Some x)) is (λ x e. refl)

once_settled : (e : Option Written) (a : Reached (Option Data)) → Settled a → Settled (once e a)
once_settled None a is = is
once_settled (Some t) a is = after_settled a (λ v. value (option_map (one_in t) v)) is (λ x e. refl)

unless_settled : {A : Type 0} (b : Bool) (o x : Reached A) → Settled o → Settled x → Settled (if b then o else x)
unless_settled true o x a b = a
unless_settled false o x a b = b

null_settled : (e : Option Written) → Settled (null_at e)
null_settled None = refl
null_settled (Some t) = unless_settled (is_non_null t) (refused reason.NullForNonNull []) (value json.null) refl refl

-- ---- an input that comes to none is a variable without a value

-- it comes to none
abbrev pub is_none : Reached (Option Data) → Bool
is_none (value None) = true
is_none (value (Some d)) = false
is_none (refused r path) = false
is_none too_deep = false

pub some_none : (o : Reached Data) → is_none (some o) ≡ false
some_none (value d) = refl
some_none (refused r path) = refl
some_none too_deep = refl

pub once_none : (e : Option Written) (o : Reached Data) → is_none (once e (some o)) ≡ false
once_none None o = some_none o
once_none (Some t) (value d) = refl
once_none (Some t) (refused r path) = refl
once_none (Some t) too_deep = refl

none_at : (inner : Inner) (s : Schema) (x : Input) (e : Option Written) → is_none (at_level inner s x e) ≡ true → is_absent x ≡ true
none_at inner s absent e is = refl
none_at inner s (given d) e is = absurd (true≢false (sym is ∙ some_none (given_at e d)))
none_at inner s null e is = absurd (true≢false (sym is ∙ some_none (null_at e)))
none_at inner s (single x) e is = absurd (true≢false (sym is ∙ once_none e (single_at s e x)))
none_at inner s (list xs) e is = absurd (true≢false (sym is ∙ some_none (list_by inner (all_inputs xs) (items_expected s e))))
none_at inner s (object fs) e is = absurd (true≢false (sym is ∙ once_none e (object_at inner (entries_for s (all_fields fs) e))))

-- ---- values without parts

leaf_settled : (x : Single) → Settled (as_custom x)
leaf_settled (whole z) = refl
leaf_settled (out_of_range x) = refl
leaf_settled (fraction x) = refl
leaf_settled (text t) = refl
leaf_settled (json_text t) = refl
leaf_settled (truth b) = refl
leaf_settled (name n) = refl

int_settled : (x : Single) → Settled (as_int x)
int_settled (whole z) = unless_settled (is_of_32_bits z) (value (json.number (of_integer z))) past_range refl refl
int_settled (out_of_range x) = refl
int_settled (fraction x) = refl
int_settled (text t) = refl
int_settled (json_text t) = refl
int_settled (truth b) = refl
int_settled (name n) = refl

id_settled : (x : Single) → Settled (as_id x)
id_settled (whole z) = refl
id_settled (out_of_range x) = refl
id_settled (fraction x) = refl
id_settled (text t) = refl
id_settled (json_text t) = refl
id_settled (truth b) = refl
id_settled (name n) = refl

string_settled : (x : Single) → Settled (as_string x)
string_settled (whole z) = refl
string_settled (out_of_range x) = refl
string_settled (fraction x) = refl
string_settled (text t) = refl
string_settled (json_text t) = refl
string_settled (truth b) = refl
string_settled (name n) = refl

boolean_settled : (x : Single) → Settled (as_boolean x)
boolean_settled (whole z) = refl
boolean_settled (out_of_range x) = refl
boolean_settled (fraction x) = refl
boolean_settled (text t) = refl
boolean_settled (json_text t) = refl
boolean_settled (truth b) = refl
boolean_settled (name n) = refl

past_settled : (n : Option Num) → Settled (number_or_past n)
past_settled None = refl
past_settled (Some n) = refl

real_settled : (x : Option Float) → Settled (of_real x)
real_settled x = past_settled (option_and_then of_float x)

float_settled : (x : Single) → Settled (as_float x)
float_settled (whole z) = refl
float_settled (out_of_range x) = real_settled x
float_settled (fraction x) = real_settled x
float_settled (text t) = refl
float_settled (json_text t) = refl
float_settled (truth b) = refl
float_settled (name n) = refl

open_settled : (x : Single) → Settled (as_open x)
open_settled (whole z) = refl
open_settled (out_of_range x) = real_settled x
open_settled (fraction x) = real_settled x
open_settled (text t) = refl
open_settled (json_text t) = refl
open_settled (truth b) = refl
open_settled (name n) = refl

scalar_settled : (k : Scalar) (x : Single) → Settled (as_scalar k x)
scalar_settled scalar.Int x = int_settled x
scalar_settled scalar.Id x = id_settled x
scalar_settled scalar.String x = string_settled x
scalar_settled scalar.Boolean x = boolean_settled x
scalar_settled scalar.Custom x = leaf_settled x
scalar_settled scalar.Float x = float_settled x
scalar_settled scalar.Open x = open_settled x

name_settled : (t : SchemaType) (n : List ℕ) → Settled (of_enum t n)
name_settled t n = unless_settled (is_value_of t n) (value (json.string n)) (refused reason.NotInEnum []) refl refl

enum_settled : (t : SchemaType) (x : Single) → Settled (as_enum t x)
enum_settled t (whole z) = refl
enum_settled t (out_of_range x) = refl
enum_settled t (fraction x) = refl
enum_settled t (text n) = refl
enum_settled t (json_text n) = name_settled t n
enum_settled t (truth b) = refl
enum_settled t (name n) = name_settled t n

kind_settled : (floats : Bool) (t : SchemaType) (k : TypeKind) (x : Single) → Settled (as_kind floats t k x)
kind_settled floats t kind.Scalar x = scalar_settled (scalar_named floats (name_of t)) x
kind_settled floats t kind.Enum x = enum_settled t x
kind_settled floats t kind.InputObject x = refl
kind_settled floats t kind.Object x = refl
kind_settled floats t kind.Interface x = refl
kind_settled floats t kind.Union x = refl

type_settled : (floats : Bool) (t : Option SchemaType) (x : Single) → Settled (as_type floats t x)
type_settled floats None x = refl
type_settled floats (Some t) x = kind_settled floats t t.kind x

single_settled : (s : Schema) (e : Option Written) (x : Single) → Settled (single_at s e x)
single_settled s None x = scalar_settled (custom_scalar (is_open s)) x
single_settled s (Some t) x = type_settled (is_open s) (input_type s t) x

-- ---- what an object is made of comes from what it gives

-- what is given for a member is the value of a field
abbrev From : List Field → Entries → Type 0
From fs (are es) = (m : Entry) → Contains es m → (x : Input) → m.given ≡ Some x → (f : Field) × Contains fs f × (f.value ≡ x)
From fs (unknown n) = ⊤
From fs no_object = ⊤

none_some : {A : Type 0} (x : A) → None ≡ Some x → ⊥
none_some x is = true≢false (sym (ap is_some is))

some_one : {A : Type 0} (x y : A) → Some x ≡ Some y → x ≡ y
some_one x y is = ap (λ o. unwrap_or o x) is

found_by : (f : Field) (fs : List Field) (more : Option Field) (x : Input) (b : Bool) → (option_map (λ (f : Field). f.value) more ≡ Some x → (g : Field) × Contains fs g × (g.value ≡ x))
    → option_map (λ (f : Field). f.value) (if b then Some f else more) ≡ Some x → (g : Field) × Contains (f ∷ fs) g × (g.value ≡ x)
found_by f fs more x true later is = (f, Contains-here f fs, some_one f.value x is)
found_by f fs more x false later is = let r = later is in (r.0, Contains-there r.0 f fs r.1, r.2)

found_field : (test : Field → Bool) (fs : List Field) (x : Input) → option_map (λ (f : Field). f.value) (find test fs) ≡ Some x → (f : Field) × Contains fs f × (f.value ≡ x)
found_field test [] x is = absurd (none_some x is)
found_field test (f ∷ fs) x is = found_by f fs (find test fs) x (test f) (found_field test fs x) is

from_any : (fs : List Field) → From fs (any_entries fs)
from_any fs m has x is = let r = Contains-map_from any_entry fs m has in (r.0, r.1, some_one r.0.value x (ap (λ (e : Entry). e.given) r.2 ∙ is))

from_defined : (fs : List Field) (ds : List (Sited InputValueDefinition)) → From fs (are (map (defined_entry fs) ds))
from_defined fs ds m has x is = let r = Contains-map_from (defined_entry fs) ds m has in
    found_field (λ (f : Field). bytes_eq r.0.node.name.text f.name) fs x (ap (λ (e : Entry). e.given) r.2 ∙ is)

from_unless : (fs : List Field) (o : Option Field) (es : Entries) → From fs es → From fs (unless_unknown o es)
from_unless fs (Some f) es is = tt
from_unless fs None es is = is

from_if : (fs : List Field) (b : Bool) (es os : Entries) → From fs es → From fs os → From fs (if b then es else os)
from_if fs true es os a b = a
from_if fs false es os a b = b

from_kind : (fs : List Field) (t : SchemaType) (k : TypeKind) → From fs (entries_at_kind fs t k)
from_kind fs t kind.InputObject = from_unless fs (find (λ (f : Field). not (is_defined t.input_fields f)) fs) (are (map (defined_entry fs) t.input_fields)) (from_defined fs t.input_fields)
from_kind fs t kind.Scalar = from_if fs (is_custom_scalar t) (any_entries fs) no_object (from_any fs) tt
from_kind fs t kind.Enum = tt
from_kind fs t kind.Object = tt
from_kind fs t kind.Interface = tt
from_kind fs t kind.Union = tt

from_type : (fs : List Field) (u : Option SchemaType) → From fs (entries_by fs u)
from_type fs None = tt
from_type fs (Some t) = from_kind fs t t.kind

from : (s : Schema) (fs : List Field) (e : Option Written) → From fs (entries_for s fs e)
from s fs None = from_any fs
from s fs (Some t) = from_type fs (input_type s t)

-- ---- lists and objects come to something where their parts do

module _ (s : Schema) where
  abbrev pub Settles : Input → Option Written → Type 0
  Settles x e = Eventually (λ n. Settled (coerced n s x e))

  abbrev pub DefaultSettles : InputValueDefinition → Type 0
  DefaultSettles d = (y : Literal) → d.default ≡ Some y → Settles (literal json.null y) (Some (written d.of_type))

  up : (x : Input) (e : Option Written) → Eventually (λ n. Settled (at_level (coerced n s) s x e)) → Settles x e
  up x e is = (suc is.0, λ n. ap is_too_deep (ap (λ m. coerced m s x e) (suc-add is.0 n) ∙ level (is.0 + n) s x e) ∙ is.1 n)

  or_null_settled : (e : Option Written) (v : Option Data) → Settled (or_null e v)
  or_null_settled e None = null_settled e
  or_null_settled e (Some d) = refl

  item_settled : (n : ℕ) (e : Option Written) (x : Input) → Settled (coerced n s x e) → Settled (item_at (coerced n s) e x)
  item_settled n e x is = unless_settled (is_list_expected e && not (may_be_list x)) wrong_kind (after (coerced n s x e) (or_null e)) refl
      (after_settled (coerced n s x e) (or_null e) is (λ v i. or_null_settled e v))

  item_refused : (n : ℕ) (e : Option Written) (x : Input) → (is_list_expected e && not (may_be_list x)) ≡ true → Settled (item_at (coerced n s) e x)
  item_refused n e x is = ap (λ c. is_too_deep (if c then wrong_kind else after (coerced n s x e) (or_null e))) is

  -- an item is refused, or comes to something
  item_settles : (e : Option Written) (x : Input) (b : Bool) → (is_list_expected e && not (may_be_list x)) ≡ b → (b ≡ false → Settles x e) → Eventually (λ n. Settled (item_at (coerced n s) e x))
  item_settles e x true is settles = (0, λ n. item_refused (0 + n) e x is)
  item_settles e x false is settles = onward (λ n. Settled (coerced n s x e)) (λ n. Settled (item_at (coerced n s) e x)) (λ n a. item_settled n e x a) (settles refl)

  abbrev ItemsSettle : Option Written → List Input → Type 0
  ItemsSettle e xs = (x : Input) → Contains xs x → (is_list_expected e && not (may_be_list x)) ≡ false → Settles x e

  items_settle : (e : Option Written) (xs : List Input) → ItemsSettle e xs → (m : ℕ) → Eventually (λ n. Settled (all (items_from (item_at (coerced n s) e) m xs)))
  items_settle e [] each m = (0, λ n. refl)
  items_settle e (x ∷ xs) each m = both (λ n. Settled (item_at (coerced n s) e x)) (λ n. Settled (all (items_from (item_at (coerced n s) e) (suc m) xs))) (λ n. Settled (all (items_from (item_at (coerced n s) e) m (x ∷ xs))))
      (λ n a b. after_settled (within (Index m) (item_at (coerced n s) e x)) (λ d. after (all (items_from (item_at (coerced n s) e) (suc m) xs)) (λ ds. value (d ∷ ds)))
      (within_settled (Index m) (item_at (coerced n s) e x) a)
      (λ d i. after_settled (all (items_from (item_at (coerced n s) e) (suc m) xs)) (λ ds. value (d ∷ ds)) b (λ ds j. refl)))
      (item_settles e x (is_list_expected e && not (may_be_list x)) refl (each x (Contains-here x xs))) (items_settle e xs (λ y h. each y (Contains-there y x xs h)) (suc m))

  array_settles : (e : Option Written) (xs : List Input) → ItemsSettle e xs → Eventually (λ n. Settled (array_of (item_at (coerced n s) e) xs))
  array_settles e xs each = onward (λ n. Settled (all (items_from (item_at (coerced n s) e) 0 xs))) (λ n. Settled (array_of (item_at (coerced n s) e) xs))
      (λ n a. after_settled (all (items_from (item_at (coerced n s) e) 0 xs)) (λ ds. value (json.array (items_of ds))) a (λ ds i. refl)) (items_settle e xs each 0)

  list_settles : (xs : List Input) (ex : Expected) → ((x : Input) → Contains xs x → (item : Option Written) → IsExpected ex item → (is_list_expected item && not (may_be_list x)) ≡ false → Settles x item)
      → Eventually (λ n. Settled (list_by (coerced n s) xs ex))
  list_settles xs nothing each = (0, λ n. refl)
  list_settles xs anything each = array_settles None xs (λ x h. each x h None of_any)
  list_settles xs (this t) each = array_settles (Some t) xs (λ x h. each x h (Some t) (of_type t))

  default_of_settles : (n : List ℕ) (t : Written) (o : Option Literal) → ((y : Literal) → o ≡ Some y → Settles (literal json.null y) (Some t)) → Eventually (λ k. Settled (default_of (coerced k s) n t o))
  default_of_settles n t None each = (0, λ k. unless_settled (is_non_null t) (refused reason.MissingField (Key n ∷ [])) (value None) refl refl)
  default_of_settles n t (Some y) each = onward (λ k. Settled (coerced k s (literal json.null y) (Some t))) (λ k. Settled (within (Key n) (coerced k s (literal json.null y) (Some t))))
      (λ k a. within_settled (Key n) (coerced k s (literal json.null y) (Some t)) a) (each y refl)

  or_default_settles : (n : List ℕ) (def : Option InputValueDefinition) → ((d : InputValueDefinition) → def ≡ Some d → DefaultSettles d) → Eventually (λ k. Settled (or_default (coerced k s) n def None))
  or_default_settles n None each = (0, λ k. refl)
  or_default_settles n (Some d) each = default_of_settles n (written d.of_type) d.default (each d refl)

  kept : (k : ℕ) (n : List ℕ) (def : Option InputValueDefinition) (v : Option Data) → Settled (or_default (coerced k s) n def None) → Settled (or_default (coerced k s) n def v)
  kept k n def None is = is
  kept k n None (Some d) is = refl
  kept k n (Some e) (Some d) is = refl

  kept_some : (k : ℕ) (n : List ℕ) (def : Option InputValueDefinition) (v : Option Data) → (v ≡ None → ⊥) → Settled (or_default (coerced k s) n def v)
  kept_some k n def None not_none = absurd (not_none refl)
  kept_some k n None (Some d) not_none = refl
  kept_some k n (Some e) (Some d) not_none = refl

  within_none : (g : Segment) (o : Reached (Option Data)) → within g o ≡ value None → is_none o ≡ true
  within_none g (value v) is = ap is_none is
  within_none g (refused r path) is = absurd (true≢false (sym (ap is_none is)))
  within_none g too_deep is = absurd (true≢false (sym (ap is_none is)))

  none_of : (k : ℕ) (x : Input) (e : Option Written) → is_none (coerced k s x e) ≡ true → is_absent x ≡ true
  none_of zero x e is = absurd (true≢false (sym is ∙ ap is_none (no_level s x e)))
  none_of (suc k) x e is = none_at (coerced k s) s x e (sym (ap is_none (level k s x e)) ∙ is)

  given_settles : (n : List ℕ) (def : Option InputValueDefinition) (x : Input) (b : Bool) → is_absent x ≡ b
      → Settles x (option_map (λ (v : InputValueDefinition). written v.of_type) def)
      → ((d : InputValueDefinition) → def ≡ Some d → b ≡ true → DefaultSettles d)
      → Eventually (λ k. Settled (after (if_given (coerced k s) n def (Some x)) (or_default (coerced k s) n def)))
  given_settles n def x true is settles each = both (λ k. Settled (coerced k s x (option_map (λ (v : InputValueDefinition). written v.of_type) def))) (λ k. Settled (or_default (coerced k s) n def None))
      (λ k. Settled (after (if_given (coerced k s) n def (Some x)) (or_default (coerced k s) n def)))
      (λ k a b. after_settled (if_given (coerced k s) n def (Some x)) (or_default (coerced k s) n def)
      (within_settled (Key n) (coerced k s x (option_map (λ (v : InputValueDefinition). written v.of_type) def)) a) (λ v i. kept k n def v b))
      settles (or_default_settles n def (λ d e. each d e refl))
  given_settles n def x false is settles each = onward (λ k. Settled (coerced k s x (option_map (λ (v : InputValueDefinition). written v.of_type) def)))
      (λ k. Settled (after (if_given (coerced k s) n def (Some x)) (or_default (coerced k s) n def)))
      (λ k a. after_settled (if_given (coerced k s) n def (Some x)) (or_default (coerced k s) n def)
      (within_settled (Key n) (coerced k s x (option_map (λ (v : InputValueDefinition). written v.of_type) def)) a)
      (λ v i. kept_some k n def v (λ none. true≢false (sym (none_of k x (option_map (λ (v : InputValueDefinition). written v.of_type) def)
      (within_none (Key n) (coerced k s x (option_map (λ (v : InputValueDefinition). written v.of_type) def)) (i ∙ ap value none))) ∙ is))))
      settles

  entry_settles : (n : List ℕ) (def : Option InputValueDefinition) (g : Option Input) → ((x : Input) → g ≡ Some x → Settles x (option_map (λ (v : InputValueDefinition). written v.of_type) def))
      → ((d : InputValueDefinition) → def ≡ Some d → is_left_out g ≡ true → DefaultSettles d)
      → Eventually (λ k. Settled (after (if_given (coerced k s) n def g) (or_default (coerced k s) n def)))
  entry_settles n def None parts each = or_default_settles n def (λ d e. each d e refl)
  entry_settles n def (Some x) parts each = given_settles n def x (is_absent x) refl (parts x refl) each

  member_settles : (m : Entry) → ((x : Input) → m.given ≡ Some x → Settles x (option_map (λ (v : InputValueDefinition). written v.of_type) m.definition))
      → ((d : InputValueDefinition) → m.definition ≡ Some d → is_left_out m.given ≡ true → DefaultSettles d)
      → Eventually (λ k. Settled (member_at (coerced k s) m))
  member_settles m parts each = onward (λ k. Settled (entry_at (coerced k s) m)) (λ k. Settled (member_at (coerced k s) m))
      (λ k a. after_settled (entry_at (coerced k s) m) (λ v. value (under m.name v)) a (λ v i. refl)) (entry_settles m.name m.definition m.given parts each)

  members_settle : (es : List Entry) → ((m : Entry) → Contains es m → Eventually (λ k. Settled (member_at (coerced k s) m))) → Eventually (λ k. Settled (all (map (member_at (coerced k s)) es)))
  members_settle [] each = (0, λ k. refl)
  members_settle (m ∷ es) each = both (λ k. Settled (member_at (coerced k s) m)) (λ k. Settled (all (map (member_at (coerced k s)) es))) (λ k. Settled (all (map (member_at (coerced k s)) (m ∷ es))))
      (λ k a b. after_settled (member_at (coerced k s) m) (λ v. after (all (map (member_at (coerced k s)) es)) (λ vs. value (v ∷ vs))) a
      (λ v i. after_settled (all (map (member_at (coerced k s)) es)) (λ vs. value (v ∷ vs)) b (λ vs j. refl)))
      (each m (Contains-here m es)) (members_settle es (λ l h. each l (Contains-there l m es h)))

  object_settles : (es : Entries) → ((l : List Entry) → es ≡ are l → (m : Entry) → Contains l m → Eventually (λ k. Settled (member_at (coerced k s) m))) → Eventually (λ k. Settled (object_at (coerced k s) es))
  object_settles (are es) each = onward (λ k. Settled (all (map (member_at (coerced k s)) es))) (λ k. Settled (object_at (coerced k s) (are es)))
      (λ k a. after_settled (all (map (member_at (coerced k s)) es)) (λ more. value (json.object (put_all more json.no_members))) a (λ more i. refl)) (members_settle es (each es refl))
  object_settles (unknown n) each = (0, λ k. refl)
  object_settles no_object each = (0, λ k. refl)

  -- an input comes to something where the defaults that it takes do
  abbrev pub IfDefaults : Input → Option Written → Type 0
  IfDefaults x e = ((d : InputValueDefinition) → Takes s x e d → DefaultSettles d) → Settles x e

  from_is : (fs : List Field) (e : Option Written) (l : List Entry) → entries_for s fs e ≡ are l → From fs (are l)
  from_is fs e l is = subst (From fs) is (from s fs e)

  mutual
    pub settles : (x : Input) (e : Option Written) → IfDefaults x e
    settles absent e defaults = up absent e (0, λ n. refl)
    settles (given d) e defaults = up (given d) e (0, λ n. some_settled (given_at e d) (unless_settled (is_some (as_null d)) (null_at e) (value d) (null_settled e) refl))
    settles null e defaults = up null e (0, λ n. some_settled (null_at e) (null_settled e))
    settles (single x) e defaults = up (single x) e (0, λ n. once_settled e (some (single_at s e x)) (some_settled (single_at s e x) (single_settled s e x)))
    settles (list xs) e defaults = up (list xs) e (onward (λ n. Settled (list_by (coerced n s) (all_inputs xs) (items_expected s e))) (λ n. Settled (at_level (coerced n s) s (list xs) e))
        (λ n a. some_settled (list_by (coerced n s) (all_inputs xs) (items_expected s e)) a)
        (list_settles (all_inputs xs) (items_expected s e) (λ x has item is fits. items_settled xs x has item (λ d takes. defaults d (in_item item x is has fits takes)))))
    settles (object fs) e defaults = up (object fs) e (onward (λ n. Settled (object_at (coerced n s) (entries_for s (all_fields fs) e))) (λ n. Settled (at_level (coerced n s) s (object fs) e))
        (λ n a. once_settled e (some (object_at (coerced n s) (entries_for s (all_fields fs) e))) (some_settled (object_at (coerced n s) (entries_for s (all_fields fs) e)) a))
        (object_settles (entries_for s (all_fields fs) e) (λ l is m has. member_settles m
        (λ x gives. let r = from_is (all_fields fs) e l is m has x gives in
        subst (λ y. IfDefaults y (option_map (λ (v : InputValueDefinition). written v.of_type) m.definition)) r.2 (fields_settled fs r.0 r.1 (option_map (λ (v : InputValueDefinition). written v.of_type) m.definition))
        (λ d takes. defaults d (in_field l m x is has gives takes)))
        (λ d defined left_out. defaults d (here l m is has defined left_out)))))

    items_settled : (xs : Inputs) (x : Input) → Contains (all_inputs xs) x → (e : Option Written) → IfDefaults x e
    items_settled no_inputs x has e = absurd (Contains-nil x has)
    items_settled (input y ys) x has e = elim (Contains-cases x y (all_inputs ys) has) [
      | inl is ↦ subst (λ z. IfDefaults z e) (sym is) (settles y e)
      | inr later ↦ items_settled ys x later e
    ]

    fields_settled : (fs : Fields) (f : Field) → Contains (all_fields fs) f → (e : Option Written) → IfDefaults f.value e
    fields_settled no_fields f has e = absurd (Contains-nil f has)
    fields_settled (field n y fs) f has e = elim (Contains-cases f record { name = n; value = y } (all_fields fs) has) [
      | inl is ↦ subst (λ (g : Field). IfDefaults g.value e) (sym is) (settles y e)
      | inr later ↦ fields_settled fs f later e
    ]

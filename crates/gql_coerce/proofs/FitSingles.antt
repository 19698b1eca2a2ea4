-- A value without parts fits a type exactly where coercion takes it, and is refused by itself.
use Rattle.std.proofs.Common.{◌≡◌, ◌&&◌, ◌||◌, ℕ, zero, suc, pos, neg_ℤ, List, [], ◌∷◌, Bool, true, false, true≢false, cond, if◌then◌else◌, bytes_eq, length, nat_lt, nat_le, Float, Option, Some, None, is_some, option_and_then, refl, ap, sym, subst, ◌∙◌, arith}
use Rattle.std.proofs.lemmas.Bool.Decides.{nat_tests}
use Rattle.std.specs.Float.{binary64, float_is_finite}
use Rattle.std.specs.Float.Parse.{parse_float}
use Rattle.std.specs.List.{list_any}
use Rattle.std.specs.Str.{all_ascii_digits}
use Rattle.std.specs.Str.Parse.{digits_value, signed_digits_value, starts_with_minus, without_leading_sign}
use Rattle.gql_text.specs.declared.place.Place.{Place}
use Rattle.gql_ast.specs.declared.type_system.EnumValueDefinition.{EnumValueDefinition}
use Rattle.gql_built_in.specs.declared.sited.Sited.{Sited}
use Rattle.gql_inputs.proofs.Finding.{is_some_find, any_made}
use Rattle.gql_inputs.specs.BadValues.{takes, scalar_takes_int, scalar_takes_float, scalar_takes_string, scalar_takes_boolean}
use Rattle.gql_inputs.specs.InputTypes.{custom_scalar, if_input, is_custom, is_input, name_of, scalar_named}
use Rattle.gql_inputs.specs.Lookups.{InputForm, form_at, form_of, value_names}
use Rattle.gql_inputs.specs.Numbers.{if_finite, is_whole, is_within, real_of}
use Rattle.gql_inputs.specs.Values.{Value, int, float, string, boolean, enum}
use Rattle.gql_inputs.specs.declared.scalar.Scalar.{Scalar}
use Rattle.gql_inputs.specs.declared.scalar.Scalar.TheVariants as scalars
use Rattle.gql_types.specs.declared.kind.TypeKind.{TypeKind}
use Rattle.gql_types.specs.declared.kind.TypeKind.TheVariants as kind
use Rattle.gql_types.specs.declared.schema_type.SchemaType.{SchemaType}
use Rattle.serde_json.specs.Data as json
use Rattle.serde_json.specs.Data.{Data, Num}
use Rattle.serde_json.specs.Find.{of_float, of_integer}
use Rattle.gql_coerce.specs.Coercion.{as_type}
use Rattle.gql_coerce.specs.Fitting.{is_of_value}
use Rattle.gql_coerce.specs.Inputs.{Single, whole, out_of_range, fraction, text, json_text, truth, name, of_int, of_whole}
use Rattle.gql_coerce.specs.Outcomes.{Reached, value, refused, too_deep}
use Rattle.gql_coerce.specs.Scalars.{is_of_32_bits, past_range, number_or_past, of_real, as_float, as_custom, as_open, as_any, as_scalar, is_value_of, of_enum, as_enum, as_kind}
use Rattle.gql_coerce.specs.declared.refusal.Reason.{Reason}
use Rattle.gql_coerce.specs.declared.refusal.Reason.TheVariants as reason
use Rattle.gql_coerce.specs.declared.refusal.Segment.{Segment}

-- a value is reached
abbrev pub has_value : {A : Type 0} → Reached A → Bool
has_value (value x) = true
has_value (refused r path) = false
has_value too_deep = false

-- what is refused is refused by itself
abbrev pub is_own : {A : Type 0} → Reached A → Bool
is_own (value x) = true
is_own (refused r []) = is_of_value r
is_own (refused r (g ∷ path)) = false
is_own too_deep = true

own_by : (A : Type 0) (r : Reason) (path : List Segment) → is_own {A = A} (refused r path) ≡ true → (path ≡ []) × (is_of_value r ≡ true)
own_by A r [] is = (refl, is)
own_by A r (g ∷ path) is = absurd (true≢false (sym is))

pub own : {A : Type 0} (o : Reached A) → is_own o ≡ true → (r : Reason) (path : List Segment) → o ≡ refused r path → (path ≡ []) × (is_of_value r ≡ true)
own {A} o is r path e = own_by A r path (subst (λ p. is_own p ≡ true) e is)

-- ---- integers

le_step : (n : ℕ) → nat_le n 2147483647 && true ≡ nat_le (suc n) 2147483648
le_step n = grind (arith, nat_tests)

in_range : (b : Bool) (n : ℕ) → is_of_32_bits (cond b (neg_ℤ (pos n)) (pos n)) ≡ is_within 31 b n
in_range false n = refl
in_range true zero = refl
in_range true (suc n) = le_step n

wider : (b : Bool) (n : ℕ) → is_within 31 b n ≡ true → is_within 63 b n ≡ true
wider true n is = grind (arith, nat_tests)
wider false n is = grind (arith, nat_tests)

pub and_left : (a b : Bool) → a && b ≡ true → a ≡ true
and_left true b is = refl
and_left false b is = is

pub and_right : (a b : Bool) → a && b ≡ true → b ≡ true
and_right true b is = is
and_right false b is = absurd (true≢false (sym is))

pub both : (a b : Bool) → a ≡ true → b ≡ true → a && b ≡ true
both true b p q = q
both false b p q = p

same_when : (a b : Bool) → (a ≡ true → b ≡ true) → b ≡ false → a ≡ false
same_when true b to is = absurd (true≢false (sym (to refl) ∙ is))
same_when false b to is = refl

-- ---- doubles

of_finite : (x : Float) (b : Bool) → float_is_finite x ≡ b → is_some (if b then Some x else None) ≡ has_value (of_real (if b then Some x else None))
of_finite x true is = ap (λ b. has_value (number_or_past (if b then Some (json.float x) else None))) (sym is)
of_finite x false is = refl

of_parsed : (o : Option Float) → is_some (option_and_then if_finite o) ≡ has_value (of_real (option_and_then if_finite o))
of_parsed None = refl
of_parsed (Some x) = of_finite x (float_is_finite x) refl

-- a number that has a finite nearest double is taken
real_taken : (t : List ℕ) → is_some (real_of t) ≡ has_value (of_real (real_of t))
real_taken t = of_parsed (parse_float binary64 t)

module _ (t : List ℕ) where
  abbrev digits : List ℕ
  digits = without_leading_sign t

  whole_wider : is_whole 31 t ≡ true → is_whole 63 t ≡ true
  whole_wider is = let rest = and_right (nat_lt 0 (length digits)) _ is in
      both (nat_lt 0 (length digits)) _ (and_left (nat_lt 0 (length digits)) _ is)
      (both (all_ascii_digits digits) _ (and_left (all_ascii_digits digits) _ rest)
      (wider (starts_with_minus t) (digits_value 10 digits) (and_right (all_ascii_digits digits) _ rest)))

  -- of a whole number of 64 bits, which have 32
  narrow : is_whole 63 t ≡ true → is_whole 31 t ≡ is_within 31 (starts_with_minus t) (digits_value 10 digits)
  narrow is = let rest = and_right (nat_lt 0 (length digits)) _ is in
      ap (λ b. b && (all_ascii_digits digits && is_within 31 (starts_with_minus t) (digits_value 10 digits))) (and_left (nat_lt 0 (length digits)) _ is)
      ∙ ap (λ b. b && is_within 31 (starts_with_minus t) (digits_value 10 digits)) (and_left (all_ascii_digits digits) _ rest)

  by_range : (b : Bool) (d : Data) → has_value (if b then value d else past_range) ≡ b
  by_range true d = refl
  by_range false d = refl

  scalar_int : (b : Bool) → is_whole 63 t ≡ b → (k : Scalar)
      → scalar_takes_int t k ≡ has_value (as_scalar k (of_whole (if b then Some (signed_digits_value 10 t) else None) (real_of t)))
  scalar_int true is scalars.Int = narrow is ∙ sym (in_range (starts_with_minus t) (digits_value 10 digits))
      ∙ sym (by_range (is_of_32_bits (signed_digits_value 10 t)) (json.number (of_integer (signed_digits_value 10 t))))
  scalar_int true is scalars.Id = is
  scalar_int true is scalars.Custom = is
  scalar_int true is scalars.Float = ap (λ b. b || is_some (real_of t)) is
  scalar_int true is scalars.Open = ap (λ b. b || is_some (real_of t)) is
  scalar_int true is scalars.String = refl
  scalar_int true is scalars.Boolean = refl
  scalar_int false is scalars.Int = same_when (is_whole 31 t) (is_whole 63 t) whole_wider is
  scalar_int false is scalars.Id = is
  scalar_int false is scalars.Custom = is
  scalar_int false is scalars.Float = ap (λ b. b || is_some (real_of t)) is ∙ real_taken t
  scalar_int false is scalars.Open = ap (λ b. b || is_some (real_of t)) is ∙ real_taken t
  scalar_int false is scalars.String = refl
  scalar_int false is scalars.Boolean = refl

scalar_string : (t : List ℕ) (k : Scalar) → scalar_takes_string k ≡ has_value (as_scalar k (text t))
scalar_string t scalars.Int = refl
scalar_string t scalars.Id = refl
scalar_string t scalars.Custom = refl
scalar_string t scalars.Float = refl
scalar_string t scalars.Open = refl
scalar_string t scalars.String = refl
scalar_string t scalars.Boolean = refl

scalar_boolean : (b : Bool) (k : Scalar) → scalar_takes_boolean k ≡ has_value (as_scalar k (truth b))
scalar_boolean b scalars.Int = refl
scalar_boolean b scalars.Id = refl
scalar_boolean b scalars.Custom = refl
scalar_boolean b scalars.Float = refl
scalar_boolean b scalars.Open = refl
scalar_boolean b scalars.String = refl
scalar_boolean b scalars.Boolean = refl

pub scalar_fraction : (t : List ℕ) (k : Scalar) → scalar_takes_float t k ≡ has_value (as_scalar k (fraction (real_of t)))
scalar_fraction t scalars.Int = refl
scalar_fraction t scalars.Id = refl
scalar_fraction t scalars.Custom = refl
scalar_fraction t scalars.Float = real_taken t
scalar_fraction t scalars.Open = real_taken t
scalar_fraction t scalars.String = refl
scalar_fraction t scalars.Boolean = refl

scalar_name : (n : List ℕ) (k : Scalar) → is_custom k ≡ has_value (as_scalar k (name n))
scalar_name n scalars.Int = refl
scalar_name n scalars.Id = refl
scalar_name n scalars.Custom = refl
scalar_name n scalars.Float = refl
scalar_name n scalars.Open = refl
scalar_name n scalars.String = refl
scalar_name n scalars.Boolean = refl

by_enum : (b : Bool) (d : Data) → b ≡ has_value (if b then value d else refused reason.NotInEnum [])
by_enum true d = refl
by_enum false d = refl

-- what a scalar takes of an integer, by its coercion
pub int_taken : (t : List ℕ) (k : Scalar) → scalar_takes_int t k ≡ has_value (as_scalar k (of_int t))
int_taken t k = scalar_int t (is_whole 63 t) refl k

-- scalars of schema files take strings, truth values and names
pub any_text : (floats : Bool) (t : List ℕ) → as_any floats (text t) ≡ value (json.string t)
any_text true t = refl
any_text false t = refl

pub any_truth : (floats : Bool) (b : Bool) → as_any floats (truth b) ≡ value (json.boolean b)
any_truth true b = refl
any_truth false b = refl

pub any_name : (floats : Bool) (n : List ℕ) → as_any floats (name n) ≡ value (json.string n)
any_name true n = refl
any_name false n = refl

enum_name : (st : SchemaType) (n : List ℕ) → list_any (bytes_eq n) (value_names st.values) ≡ has_value (of_enum st n)
enum_name st n = any_made (λ (v : Sited EnumValueDefinition). v.node.name.text) (bytes_eq n) st.values
    ∙ sym (is_some_find (λ (v : Sited EnumValueDefinition). bytes_eq n v.node.name.text) st.values)
    ∙ by_enum (is_value_of st n) (json.string n)

-- ---- at a type

-- an input type takes a value, if it is known
abbrev pub takes_if : Value → Option InputForm → Bool
takes_if x None = false
takes_if x (Some i) = takes x i

-- both judge alike at each type
abbrev pub Alike : Value → Single → Type 0
Alike x y = (floats : Bool) (st : SchemaType) (k : TypeKind) → takes_if x (form_at floats st k) ≡ has_value (as_kind floats st k y)

pub int_alike : (p : Place) (t : List ℕ) → Alike (int p t) (of_int t)
int_alike p t floats st kind.Scalar = int_taken t (scalar_named floats (name_of st))
int_alike p t floats st kind.Enum = by_whole (is_whole 63 t) where
  by_whole : (b : Bool) → false ≡ has_value (as_enum st (of_whole (if b then Some (signed_digits_value 10 t) else None) (real_of t)))
  by_whole true = refl
  by_whole false = refl
int_alike p t floats st kind.InputObject = refl
int_alike p t floats st kind.Object = refl
int_alike p t floats st kind.Interface = refl
int_alike p t floats st kind.Union = refl

pub float_alike : (p : Place) (t : List ℕ) → Alike (float p t) (fraction (real_of t))
float_alike p t floats st kind.Scalar = scalar_fraction t (scalar_named floats (name_of st))
float_alike p t floats st kind.Enum = refl
float_alike p t floats st kind.InputObject = refl
float_alike p t floats st kind.Object = refl
float_alike p t floats st kind.Interface = refl
float_alike p t floats st kind.Union = refl

pub string_alike : (p : Place) (t : List ℕ) → Alike (string p) (text t)
string_alike p t floats st kind.Scalar = scalar_string t (scalar_named floats (name_of st))
string_alike p t floats st kind.Enum = refl
string_alike p t floats st kind.InputObject = refl
string_alike p t floats st kind.Object = refl
string_alike p t floats st kind.Interface = refl
string_alike p t floats st kind.Union = refl

pub boolean_alike : (p : Place) (b : Bool) → Alike (boolean p) (truth b)
boolean_alike p b floats st kind.Scalar = scalar_boolean b (scalar_named floats (name_of st))
boolean_alike p b floats st kind.Enum = refl
boolean_alike p b floats st kind.InputObject = refl
boolean_alike p b floats st kind.Object = refl
boolean_alike p b floats st kind.Interface = refl
boolean_alike p b floats st kind.Union = refl

pub enum_alike : (p : Place) (n : List ℕ) → Alike (enum p n) (name n)
enum_alike p n floats st kind.Scalar = scalar_name n (scalar_named floats (name_of st))
enum_alike p n floats st kind.Enum = enum_name st n
enum_alike p n floats st kind.InputObject = refl
enum_alike p n floats st kind.Object = refl
enum_alike p n floats st kind.Interface = refl
enum_alike p n floats st kind.Union = refl

module _ (x : Value) (y : Single) (alike : Alike x y) (floats : Bool) where
  by_kind : (st : SchemaType) (k : TypeKind) → st.kind ≡ k → takes_if x (form_at floats st k) ≡ has_value (as_type floats (if is_input k then Some st else None) y)
  by_kind st kind.Scalar is = alike floats st kind.Scalar ∙ ap (λ k. has_value (as_kind floats st k y)) (sym is)
  by_kind st kind.Enum is = alike floats st kind.Enum ∙ ap (λ k. has_value (as_kind floats st k y)) (sym is)
  by_kind st kind.InputObject is = alike floats st kind.InputObject ∙ ap (λ k. has_value (as_kind floats st k y)) (sym is)
  by_kind st kind.Object is = refl
  by_kind st kind.Interface is = refl
  by_kind st kind.Union is = refl

  -- at a type that is known or is not
  pub at_type : (u : Option SchemaType) → takes_if x (option_and_then (form_of floats) u) ≡ has_value (as_type floats (option_and_then if_input u) y)
  at_type None = refl
  at_type (Some st) = by_kind st st.kind refl

-- ---- what is refused is refused by itself

range_own : (b : Bool) (d : Data) → is_own (if b then value d else past_range) ≡ true
range_own true d = refl
range_own false d = refl

enum_own : (b : Bool) (d : Data) → is_own (if b then value d else refused reason.NotInEnum []) ≡ true
enum_own true d = refl
enum_own false d = refl

past_own : (n : Option Num) → is_own (number_or_past n) ≡ true
past_own None = refl
past_own (Some n) = refl

real_own : (x : Option Float) → is_own (of_real x) ≡ true
real_own x = past_own (option_and_then of_float x)

custom_own : (x : Single) → is_own (as_custom x) ≡ true
custom_own (whole z) = refl
custom_own (out_of_range x) = refl
custom_own (fraction x) = refl
custom_own (text t) = refl
custom_own (json_text t) = refl
custom_own (truth b) = refl
custom_own (name n) = refl

float_own : (x : Single) → is_own (as_float x) ≡ true
float_own (whole z) = refl
float_own (out_of_range x) = real_own x
float_own (fraction x) = real_own x
float_own (text t) = refl
float_own (json_text t) = refl
float_own (truth b) = refl
float_own (name n) = refl

open_own : (x : Single) → is_own (as_open x) ≡ true
open_own (whole z) = refl
open_own (out_of_range x) = real_own x
open_own (fraction x) = real_own x
open_own (text t) = refl
open_own (json_text t) = refl
open_own (truth b) = refl
open_own (name n) = refl

scalar_own : (k : Scalar) (x : Single) → is_own (as_scalar k x) ≡ true
scalar_own scalars.Int (whole z) = range_own (is_of_32_bits z) (json.number (of_integer z))
scalar_own scalars.Int (out_of_range x) = refl
scalar_own scalars.Int (fraction x) = refl
scalar_own scalars.Int (text t) = refl
scalar_own scalars.Int (json_text t) = refl
scalar_own scalars.Int (truth b) = refl
scalar_own scalars.Int (name n) = refl
scalar_own scalars.Id (whole z) = refl
scalar_own scalars.Id (out_of_range x) = refl
scalar_own scalars.Id (fraction x) = refl
scalar_own scalars.Id (text t) = refl
scalar_own scalars.Id (json_text t) = refl
scalar_own scalars.Id (truth b) = refl
scalar_own scalars.Id (name n) = refl
scalar_own scalars.String (whole z) = refl
scalar_own scalars.String (out_of_range x) = refl
scalar_own scalars.String (fraction x) = refl
scalar_own scalars.String (text t) = refl
scalar_own scalars.String (json_text t) = refl
scalar_own scalars.String (truth b) = refl
scalar_own scalars.String (name n) = refl
scalar_own scalars.Boolean (whole z) = refl
scalar_own scalars.Boolean (out_of_range x) = refl
scalar_own scalars.Boolean (fraction x) = refl
scalar_own scalars.Boolean (text t) = refl
scalar_own scalars.Boolean (json_text t) = refl
scalar_own scalars.Boolean (truth b) = refl
scalar_own scalars.Boolean (name n) = refl
scalar_own scalars.Custom x = custom_own x
scalar_own scalars.Float x = float_own x
scalar_own scalars.Open x = open_own x

-- within a scalar of a schema file
pub any_own : (floats : Bool) (x : Single) → is_own (as_any floats x) ≡ true
any_own floats x = scalar_own (custom_scalar floats) x

enum_all : (st : SchemaType) (x : Single) → is_own (as_enum st x) ≡ true
enum_all st (whole z) = refl
enum_all st (out_of_range x) = refl
enum_all st (fraction x) = refl
enum_all st (text n) = refl
enum_all st (json_text n) = enum_own (is_value_of st n) (json.string n)
enum_all st (truth b) = refl
enum_all st (name n) = enum_own (is_value_of st n) (json.string n)

kind_own : (floats : Bool) (st : SchemaType) (k : TypeKind) (x : Single) → is_own (as_kind floats st k x) ≡ true
kind_own floats st kind.Scalar x = scalar_own (scalar_named floats (name_of st)) x
kind_own floats st kind.Enum x = enum_all st x
kind_own floats st kind.InputObject x = refl
kind_own floats st kind.Object x = refl
kind_own floats st kind.Interface x = refl
kind_own floats st kind.Union x = refl

pub type_own : (floats : Bool) (u : Option SchemaType) (x : Single) → is_own (as_type floats u x) ≡ true
type_own floats None x = refl
type_own floats (Some st) x = kind_own floats st st.kind x

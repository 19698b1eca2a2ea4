-- What completing is at each form of a type and of a value, and what is written for it.
use Rattle.std.proofs.Common.{◌≡◌, ℕ, ◌+◌, inl, inr, true, false, List, [], ◌∷◌, ◌++◌, map, codes, is_some, Option, Some, None, refl, ap, ◌∙◌, if◌then◌else◌}
use Rattle.gql_inputs.specs.InputTypes.{is_list, is_non_null, item_of, name_in, scalar_named}
use Rattle.gql_inputs.specs.declared.scalar.Scalar.{Scalar}
use Rattle.gql_intro.specs.Nodes as intro
use Rattle.gql_intro.specs.Nodes.{Node}
use Rattle.gql_types.specs.Written.{Written, named, listed, required}
use Rattle.gql_types.specs.declared.kind.TypeKind.{TypeKind}
use Rattle.gql_types.specs.declared.kind.TypeKind.TheVariants as kind
use Rattle.serde_json.specs.Data as json
use Rattle.serde_json.specs.Data.{Data, Items}
use Rattle.serde_json.specs.Find.{as_array, as_object, get}
use Rattle.serde_json.specs.View.{items_of}
use Rattle.gql_steps.specs.JsonText.{json_text}
use Rattle.gql_steps.specs.Execution.{Object, Site, Types, stored, Plan, plan, Fields, no_fields, field, PlannedField, complete, each, execute, fault, is_null, leaf, list_reply, members_of, name_item, of_kind, on_abstract, on_answer, among, on_list, on_node, on_object}
use Rattle.gql_steps.specs.Kinds.{kind_from}
use Rattle.gql_steps.specs.Leaves.{as_boolean, as_enum, as_id, as_int, as_scalar, as_string, scalar_value}
use Rattle.gql_steps.specs.LeafParts.{leaf_at}
use Rattle.gql_steps.specs.Parts.{Part, caught, plain, raise, within, all, numbered, after_comma, counted}
use Rattle.gql_steps.specs.Replies.{Path, index, Reply}
use Rattle.gql_steps.specs.Replies as reply
use Rattle.gql_steps.specs.Tables.{pairs_of}
use Rattle.gql_steps.specs.Texts.{value_part, texted, member_text}
use Rattle.gql_steps.specs.ValueParts.{IsAbstract, content_of_item, name_list_part, name_part, node_list_part, field_part, object_part, item_at, item_part, list_part, placed_part}
use Rattle.gql_steps.specs.declared.kinds.ValueKind.TheVariants as value
use Rattle.gql_steps.proofs.Resolving.{listed as listed_items}
use Rattle.gql_steps.proofs.Texting as texting
use Rattle.gql_steps.proofs.Texting.{placed_is, uncounted}

-- ---- types

module _ (s : Site) (p : Path) where
  pub within_marks : (t : Written) (d : Data) → is_null d ≡ false → complete s (required t) p d ≡ complete s t p d
  within_marks t d e = ap (λ b. if b then fault s p (codes "null for a Non-Null type") else complete s t p d) e

  pub present_named : (n : List ℕ) (d : Data) → is_null d ≡ false → complete s (named n) p d ≡ of_kind s n p d (s.types.kind n)
  present_named n d e = ap (λ b. if b then reply.returns json.null else of_kind s n p d (s.types.kind n)) e

  pub present_list : (t : Written) (d : Data) → is_null d ≡ false → complete s (listed t) p d ≡ on_list s (item_at s t) p d
  present_list t d e = ap (λ b. if b then reply.returns json.null else on_list s (item_at s t) p d) e

  pub null_bubbles : (t : Written) → is_non_null t ≡ true
      → value_part (complete s t p json.null) ≡ raise (record { message = codes "null for a Non-Null type"; place = s.place; path = p })
  null_bubbles (named n) e = cc
  null_bubbles (listed t) e = cc
  null_bubbles (required t) e = refl

  pub null_is_null : (t : Written) → is_non_null t ≡ false → value_part (complete s t p json.null) ≡ plain (codes "null")
  null_is_null (named n) e = refl
  null_is_null (listed t) e = refl
  null_is_null (required t) e = cc

  same_type : (t u : Written) → Some t ≡ Some u → t ≡ u
  same_type t u e = cc

  pub items_at : (t u : Written) (ds : Items) → item_of t ≡ Some u → complete s t p (json.array ds) ≡ on_list s (item_at s u) p (json.array ds)
  items_at (named n) u ds e = cc
  items_at (listed t) u ds e = ap (λ v. on_list s (item_at s v) p (json.array ds)) (same_type t u e)
  items_at (required t) u ds e = items_at t u ds e

-- a list has a type of items
pub has_items : (t : Written) → is_list t ≡ true → item_of t ≡ None → ⊥
has_items (named n) h e = absurd (cc h)
has_items (listed t) h e = absurd (cc e)
has_items (required t) h e = has_items t h e

-- ---- values

module _ (s : Site) (n : List ℕ) (p : Path) where
  pub an_object : (d : Data) → is_some (as_object d) ≡ true → on_object s n p d ≡ s.below n p (stored d)
  an_object json.null e = cc
  an_object (json.boolean b) e = cc
  an_object (json.number x) e = cc
  an_object (json.string x) e = cc
  an_object (json.array ds) e = cc
  an_object (json.object ms) e = refl

  pub no_object : (d : Data) → is_some (as_object d) ≡ false → on_object s n p d ≡ fault s p (codes "value is not an object")
  no_object json.null e = refl
  no_object (json.boolean b) e = refl
  no_object (json.number x) e = refl
  no_object (json.string x) e = refl
  no_object (json.array ds) e = refl
  no_object (json.object ms) e = cc

  pub leaf_is : (o : Option Data) → value_part (leaf s n p o) ≡ leaf_at n s.place p o
  leaf_is (Some d) = refl
  leaf_is None = refl

-- by what the values of the type are
module _ (s : Site) (n : List ℕ) (p : Path) (d : Data) where
  same_scalar : (a b : Scalar) → value.Scalar a ≡ value.Scalar b → a ≡ b
  same_scalar a b e = cc

  pub kind_scalar : (k : Option TypeKind) (c : Scalar) → kind_from n k ≡ value.Scalar c → value_part (of_kind s n p d k) ≡ leaf_at n s.place p (as_scalar c d)
  kind_scalar (Some kind.Scalar) c e = leaf_is s n p (scalar_value n d) ∙ ap (λ x. leaf_at n s.place p (as_scalar x d)) (same_scalar (scalar_named false n) c e)
  kind_scalar (Some kind.Enum) c e = cc
  kind_scalar (Some kind.Object) c e = cc
  kind_scalar (Some kind.Interface) c e = cc
  kind_scalar (Some kind.Union) c e = cc
  kind_scalar (Some kind.InputObject) c e = cc
  kind_scalar None c e = cc

  pub kind_enum : (k : Option TypeKind) → kind_from n k ≡ value.Enum → value_part (of_kind s n p d k) ≡ leaf_at n s.place p (as_enum (s.types.values n) d)
  kind_enum (Some kind.Scalar) e = cc
  kind_enum (Some kind.Enum) e = leaf_is s n p (as_enum (s.types.values n) d)
  kind_enum (Some kind.Object) e = cc
  kind_enum (Some kind.Interface) e = cc
  kind_enum (Some kind.Union) e = cc
  kind_enum (Some kind.InputObject) e = cc
  kind_enum None e = cc

  pub kind_object : (k : Option TypeKind) → kind_from n k ≡ value.Object → value_part (of_kind s n p d k) ≡ value_part (on_object s n p d)
  kind_object (Some kind.Scalar) e = cc
  kind_object (Some kind.Enum) e = cc
  kind_object (Some kind.Object) e = refl
  kind_object (Some kind.Interface) e = cc
  kind_object (Some kind.Union) e = cc
  kind_object (Some kind.InputObject) e = cc
  kind_object None e = cc

  pub kind_abstract : (k : Option TypeKind) → kind_from n k ≡ value.Abstract
      → value_part (of_kind s n p d k) ≡ value_part (on_abstract s n p d (among (s.types.possible n) (get (codes "__typename") d)))
  kind_abstract (Some kind.Scalar) e = cc
  kind_abstract (Some kind.Enum) e = cc
  kind_abstract (Some kind.Object) e = cc
  kind_abstract (Some kind.Interface) e = refl
  kind_abstract (Some kind.Union) e = refl
  kind_abstract (Some kind.InputObject) e = cc
  kind_abstract None e = cc

  pub kind_other : (k : Option TypeKind) → kind_from n k ≡ value.NoOutput
      → value_part (of_kind s n p d k) ≡ raise (record { message = codes "value is not of type " ++ n; place = s.place; path = p })
  kind_other (Some kind.Scalar) e = cc
  kind_other (Some kind.Enum) e = cc
  kind_other (Some kind.Object) e = cc
  kind_other (Some kind.Interface) e = cc
  kind_other (Some kind.Union) e = cc
  kind_other (Some kind.InputObject) e = refl
  kind_other None e = refl

pub abstract_kind : (n : List ℕ) (k : Option TypeKind) → kind_from n k ≡ value.Abstract → IsAbstract k
abstract_kind n (Some kind.Scalar) e = cc
abstract_kind n (Some kind.Enum) e = cc
abstract_kind n (Some kind.Object) e = cc
abstract_kind n (Some kind.Interface) e = inl refl
abstract_kind n (Some kind.Union) e = inr refl
abstract_kind n (Some kind.InputObject) e = cc
abstract_kind n None e = cc

-- ---- values that are written at once

pub int_present : (d y : Data) → as_int d ≡ Some y → is_null d ≡ false
int_present json.null y e = cc
int_present (json.boolean b) y e = refl
int_present (json.number x) y e = refl
int_present (json.string x) y e = refl
int_present (json.array ds) y e = refl
int_present (json.object ms) y e = refl

pub string_present : (d y : Data) → as_string d ≡ Some y → is_null d ≡ false
string_present json.null y e = cc
string_present (json.boolean b) y e = refl
string_present (json.number x) y e = refl
string_present (json.string x) y e = refl
string_present (json.array ds) y e = refl
string_present (json.object ms) y e = refl

pub id_present : (d y : Data) → as_id d ≡ Some y → is_null d ≡ false
id_present json.null y e = cc
id_present (json.boolean b) y e = refl
id_present (json.number x) y e = refl
id_present (json.string x) y e = refl
id_present (json.array ds) y e = refl
id_present (json.object ms) y e = refl

pub boolean_present : (d y : Data) → as_boolean d ≡ Some y → is_null d ≡ false
boolean_present json.null y e = cc
boolean_present (json.boolean b) y e = refl
boolean_present (json.number x) y e = refl
boolean_present (json.string x) y e = refl
boolean_present (json.array ds) y e = refl
boolean_present (json.object ms) y e = refl

module _ (s : Site) (p : Path) where
  pub direct_is : (t : Written) (c : Scalar) (d y : Data) → is_list t ≡ false → kind_from (name_in t) (s.types.kind (name_in t)) ≡ value.Scalar c
      → as_scalar c d ≡ Some y → is_null d ≡ false → value_part (complete s t p d) ≡ plain (json_text y)
  direct_is (named n) c d y l k e null = ap value_part (present_named s p n d null) ∙ kind_scalar s n p d (s.types.kind n) c k ∙ ap (leaf_at n s.place p) e
  direct_is (listed t) c d y l k e null = cc
  direct_is (required t) c d y l k e null = ap value_part (within_marks s p t d null) ∙ direct_is t c d y l k e null

-- such a value in its place
pub placed_direct : (t : Written) (r : Part) (text : List ℕ) → r ≡ plain text → placed_part t r ≡ plain text
placed_direct (named n) r text e = ap caught e
placed_direct (listed t) r text e = ap caught e
placed_direct (required t) r text e = e

module _ (s : Site) (each : Path → Data → Reply Data) (p : Path) where
  pub no_array : (d : Data) → as_array d ≡ None → on_list s each p d ≡ fault s p (codes "value is not a list")
  no_array json.null e = refl
  no_array (json.boolean b) e = refl
  no_array (json.number x) e = refl
  no_array (json.string x) e = refl
  no_array (json.array ds) e = cc
  no_array (json.object ms) e = refl

-- an item that is written at once
pub direct_item : (t : Written) (s : Site) (i : ℕ) (c : Scalar) (d y : Data) (p : Path) → is_list t ≡ false → kind_from (name_in t) (s.types.kind (name_in t)) ≡ value.Scalar c
    → as_scalar c d ≡ Some y → is_null d ≡ false → content_of_item t s i d p ≡ plain (json_text y)
direct_item t s i c d y p l k e null = placed_direct t (value_part (complete s t (p ++ index i ∷ []) d)) (json_text y)
    (direct_is s (p ++ index i ∷ []) t c d y l k e null)

-- ---- parts one by one

module _ {A : Type 0} where
  pub numbered-same : (f g : ℕ → A → Part) → ((i : ℕ) (x : A) → f i x ≡ g i x) → (n : ℕ) (xs : List A) → numbered f n xs ≡ numbered g n xs
  numbered-same f g e n [] = refl
  numbered-same f g e n (x ∷ xs) = ap (λ r. r ∷ numbered f (n + 1) xs) (e n x) ∙ ap (λ rs. g n x ∷ rs) (numbered-same f g e (n + 1) xs)

  pub numbered-map : {B : Type 0} (f : ℕ → B → Part) (h : A → B) (n : ℕ) (xs : List A) → numbered f n (map h xs) ≡ numbered (λ i x. f i (h x)) n xs
  numbered-map f h n [] = refl
  numbered-map f h n (x ∷ xs) = ap (λ rs. f n (h x) ∷ rs) (numbered-map f h (n + 1) xs)

-- what is written for the items of a list
pub list_is : (s : Site) (t : Written) (p : Path) (ds : List Data) → value_part (on_list s (item_at s t) p (json.array (items_of ds))) ≡ list_part t s ds p
list_is s t p ds = ap (λ xs. value_part (list_reply (item_at s t) p xs)) (listed_items ds)
    ∙ texting.list_part (item_at s t) p ds
    ∙ ap (λ rs. within (codes "[") (all rs) (codes "]"))
    (numbered-same (λ i x. after_comma i (counted (value_part (item_at s t (p ++ index i ∷ []) x)))) (item_part t s p)
    (λ i x. ap (λ r. after_comma i (counted r)) (placed_is t (complete s t (p ++ index i ∷ []) x))) 0 ds)

each_is : (types : Types) (fs : Fields) (p : Path) (d : Object) → each types fs p d ≡ map reply.counted (map (λ (q : PlannedField × Plan). uncounted types q.0 (execute types q.1) p d) (pairs_of fs))
each_is types no_fields p d = refl
each_is types (field f below rest) p d = ap (λ rs. reply.counted (uncounted types f (execute types below) p d) ∷ rs) (each_is types rest p d)

-- what is written for an object
pub object_is : (types : Types) (by_type : List ℕ → Fields) (t : List ℕ) (p : Path) (d : Object)
    → value_part (execute types (plan by_type) t p d) ≡ object_part types d (pairs_of (by_type t)) p
object_is types by_type t p d =
    let h : PlannedField × Plan → Reply (List ℕ × Data) = λ q. uncounted types q.0 (execute types q.1) p d in
    let f : ℕ → Reply (List ℕ × Data) → Part = λ i r. after_comma i (counted (texted member_text r)) in
    ap (λ rs. value_part (reply.mapped (λ ms. json.object (members_of ms)) (reply.all rs))) (each_is types (by_type t) p d)
    ∙ texting.object_part (map h (pairs_of (by_type t)))
    ∙ ap (λ rs. within (codes "{") (all rs) (codes "}")) (numbered-map f h 0 (pairs_of (by_type t))
    ∙ numbered-same (λ i q. f i (h q)) (field_part types d p)
    (λ i q. ap (λ r. after_comma i (counted r)) (texting.field_part types q.0 (execute types q.1) p d)) 0 (pairs_of (by_type t)))

-- ---- introspection

name_list : (ns : List (List ℕ)) (p : Path) → value_part (list_reply name_item p ns) ≡ name_list_part ns
name_list ns p = texting.list_part name_item p ns
    ∙ ap (λ rs. within (codes "[") (all rs) (codes "]"))
    (numbered-same (λ i n. after_comma i (counted (value_part (name_item (p ++ index i ∷ []) n)))) name_part (λ i n. refl) 0 ns)

-- what is written for a list that introspection answers
module _ (s : Site) (t : Written) (p : Path) where
  pub answer_names : (ns : List (List ℕ)) → value_part (on_answer s t p (Some (intro.enum_names ns))) ≡ name_list_part ns
  answer_names ns = name_list ns p

  pub answer_nodes : (ns : List Node) → value_part (on_answer s t p (Some (intro.nodes ns))) ≡ node_list_part (name_in t) s ns p
  answer_nodes ns = texting.list_part (on_node s (name_in t)) p ns

-- What is written for fields and items whose values are written at once.
use Rattle.std.specs.Fmt.{signed_decimal}
use Rattle.std.specs.Result.{IsErrAnd}
use Rattle.std.proofs.Common.{◌≡◌, ℕ, ℤ, pos, negsuc, zero, suc, ◌+◌, ◌<◌, List, [], ◌∷◌, ◌++◌, length, get_or, false, Some, None, codes, Option, IfSome, Result, Ok, Err, IfErr, refl, sym, ap, subst, ◌∙◌, arith, append-nil, unwrap_or}
use Rattle.gql_inputs.specs.InputTypes.{is_list, is_non_null, name_in}
use Rattle.gql_inputs.specs.declared.scalar.Scalar.{Scalar}
use Rattle.gql_types.specs.Written.{Written, written}
use Rattle.serde_json.specs.Data as json
use Rattle.serde_json.specs.Data.{Data}
use Rattle.serde_json.specs.Find.{as_array, get, of_integer}
use Rattle.serde_json.specs.View.{view}
use Rattle.gql_steps.specs.JsonText.{json_text}
use Rattle.serde_json.specs.declared.value.Value.{Value}
use Rattle.gql_steps.specs.DirectParts.{HasKind, IsDirectly, ItemsStop, ItemsWritten}
use Rattle.gql_steps.specs.Execution.{PlannedField, Site, is_null, stored}
use Rattle.gql_steps.specs.Kinds.{kind_in}
use Rattle.gql_steps.specs.Leaves.{as_scalar}
use Rattle.gql_steps.specs.Parts.{Part, after_comma, counted, one, plain, settled}
use Rattle.gql_steps.specs.Plans.{Basis, types_of}
use Rattle.gql_steps.specs.Replies.{Path, key}
use Rattle.gql_steps.specs.Resolution.{filtered, members_in, resolved}
use Rattle.gql_steps.specs.States.{Done, Follows, ended_of, errors_of}
use Rattle.gql_steps.specs.Tables.{Pair, StandsFor}
use Rattle.gql_steps.specs.ValueParts.{called_part, content_part, item_part, site_of}
use Rattle.gql_steps.specs.declared.ended.Ended.{Ended}
use Rattle.gql_steps.specs.declared.ended.Ended.TheVariants.{Written as Ends}
use Rattle.gql_steps.specs.declared.kinds.ValueKind.{ValueKind}
use Rattle.gql_steps.specs.declared.kinds.ValueKind.TheVariants as named
use Rattle.gql_steps.specs.declared.planning.Called.TheVariants as called
use Rattle.gql_steps.specs.declared.planning.FieldPlan.{FieldPlan}
use Rattle.gql_steps.specs.declared.planning.Source.TheVariants as source
use Rattle.gql_steps.specs.declared.refusal.ExecRefusal.{ExecRefusal}
use Rattle.gql_steps.specs.declared.refusal.ExecRefusal.TheVariants.{TooHeavy}
use Rattle.gql_steps.specs.declared.run.Run.{Run}
use Rattle.gql_steps.proofs.Completing.{direct_is, direct_item, null_is_null, placed_direct}
use Rattle.gql_steps.proofs.Doing.{follows-both, loop-more, loop-stops}
use Rattle.gql_steps.proofs.Executing.{called_stored, source_stored}
use Rattle.gql_steps.proofs.Resolving.{no_list, no_member}

-- ---- fields

-- a member that is no list is what a field resolves to
pub member_resolved : (name : List ℕ) (t : Written) (a d m : Data) → get name d ≡ Some m → as_array m ≡ None → resolved name t a d ≡ m
member_resolved name t a d m e single = ap (λ o. filtered t (members_in a) (unwrap_or o json.null)) e ∙ no_list t (members_in a) m single

-- a missing member, too
pub missing_resolved : (c : Scalar) (name : List ℕ) (t : Written) (a d y : Data) → get name d ≡ None → IsDirectly c t json.null y → IsDirectly c t (resolved name t a d) y
missing_resolved c name t a d y e is = subst (λ m. IsDirectly c t m y) (sym (no_member name t a d e)) is

pub some_resolved : (c : Scalar) (name : List ℕ) (t : Written) (a d m y : Data) → get name d ≡ Some m → as_array m ≡ None → IsDirectly c t m y → IsDirectly c t (resolved name t a d) y
some_resolved c name t a d m y e single is = subst (λ x. IsDirectly c t x y) (sym (member_resolved name t a d m e single)) is

-- null, and a value of a scalar
pub null_directly : (c : Scalar) (t : Written) → is_non_null t ≡ false → IsDirectly c t json.null json.null
null_directly c t e = λ s p h. null_is_null s p t e

pub scalar_directly : (c : Scalar) (t : Written) (d y : Data) → is_list t ≡ false → as_scalar c d ≡ Some y → is_null d ≡ false → IsDirectly c t d y
scalar_directly c t d y list value present = λ s p h. direct_is s p t c d y list (sym h) value present

module _ (g : Basis) (q : Pair) (p : Path) (f : FieldPlan) (v : Value) (c : Scalar) (d y : Data) (stands : StandsFor g f q) (given : f.arguments ≡ called.Given v) (from : f.source ≡ source.Stored)
    (kind : f.kind ≡ named.Scalar c) (is : IsDirectly c (written f.of_type.now) (resolved f.name.now (written f.of_type.now) (view v) d) y) where
  abbrev here : Path
  here = p ++ key q.0.response_name ∷ []

  direct_called : called_part (types_of g) (stored d) q here ≡ plain (json_text y)
  direct_called = called_stored (types_of g) q here f v stands.planned given d
      ∙ source_stored (types_of g) (view v) d q here f stands.planned from
      ∙ is (site_of (types_of g) f.place q.1) here
      (sym kind ∙ stands.kind ∙ ap (λ (e : PlannedField). kind_in g.given.schema (name_in e.of_type)) stands.planned)

  pub direct_content : content_part (types_of g) (stored d) q p ≡ plain (json_text y)
  direct_content = ap settled (placed_direct q.0.of_type (called_part (types_of g) (stored d) q here) (json_text y) direct_called)

-- ---- items

pub item_weight : (i : ℕ) (r : Part) → 0 < (after_comma i (counted r)).weight
item_weight zero r = omega arith
item_weight (suc i) r = omega arith

-- an item that is written at once ends so
pub item_ends : (i : ℕ) (text : List ℕ) (e : Ended) → e ≡ ended_of (after_comma i (counted (plain text))).outcome → e ≡ Ends
item_ends zero text e h = h
item_ends (suc i) text e h = h

-- the first item, and a later one with its comma
pub first_item : (i : ℕ) (text : List ℕ) (s t u : Run) → i ≡ 0 → Follows one s t → Follows (plain text) t u → Done (after_comma i (counted (plain text))) Ends s u
first_item zero text s t u e f h = record { follows = follows-both one (plain text) s t u f h; ends = refl }
first_item (suc i) text s t u e f h = absurd (omega (arith, e))

pub next_item : (i : ℕ) (text : List ℕ) (s t u : Run) → 0 < i → Follows one s t → Follows (plain (codes "," ++ text)) t u → Done (after_comma i (counted (plain text))) Ends s u
next_item zero text s t u e f h = absurd (omega (arith, e))
next_item (suc i) text s t u e f h = record { follows = follows-both one (plain (codes "," ++ text)) s t u f h; ends = refl }

-- nothing is written yet
pub nothing_yet : (s : Run) → Done (plain []) Ends s s
nothing_yet s = record {
  follows = record { out = sym (append-nil s.out.items); errors = sym (append-nil (errors_of s)); raised = refl; path = refl; left = omega arith };
  ends = refl;
}

pub none_written : (kind : ValueKind) (t : Written) (ds : List Data) (s : Run) → ItemsWritten kind t ds 0 s s
none_written kind t ds s = record { within = omega arith; left = omega arith; done = λ x p h. nothing_yet s }

module _ (c : Scalar) (t : Written) (list : is_list t ≡ false) (ds : List Data) (k : ℕ) (d y : Data) (s m u : Run) (within : k < length ds) (at : d ≡ get_or ds k d)
    (value : as_scalar c d ≡ Some y) (present : is_null d ≡ false) (written : ItemsWritten (named.Scalar c) t ds k s m) where
  item_is : (x : Site) (p : Path) → HasKind (named.Scalar c) t x → item_part t x p k d ≡ after_comma k (counted (plain (json_text y)))
  item_is x p h = ap (λ r. after_comma k (counted r)) (direct_item t x k c d y p list (sym h) value present)

  pub item_more : (e : Ended) → Done (after_comma k (counted (plain (json_text y)))) e m u → ItemsWritten (named.Scalar c) t ds (k + 1) s u
  item_more e next = record {
    within = omega (arith, within);
    left = omega (arith, written.left, next.follows.left);
    done = λ x p h. loop-more (λ q. item_part t x p) ds k d s m u within at Ends Ends (written.done x p h)
        (subst (λ r. Done r Ends m u) (sym (item_is x p h)) (subst (λ z. Done (after_comma k (counted (plain (json_text y)))) z m u) (item_ends k (json_text y) e next.ends) next));
  }

  pub item_stops : (stop : ExecRefusal) → (stop ≡ TooHeavy → m.left < (after_comma k (counted (plain (json_text y)))).weight) → ItemsStop (named.Scalar c) t ds s stop
  item_stops stop heavy = λ x p h. loop-stops (λ q. item_part t x p) ds k d s m u within at Ends stop (written.done x p h)
      (λ is. subst (λ (r : Part). m.left < r.weight) (sym (item_is x p h)) (heavy is))

-- the text of an integer
pub whole_text : (z : ℤ) → json_text (json.number (of_integer z)) ≡ signed_decimal z
whole_text (pos n) = refl
whole_text (negsuc n) = refl

-- a refusal that is passed on
pub stops_so : (P : ExecRefusal → Type 0) (result : Result ℕ ExecRefusal) (stop : ExecRefusal) → IsErrAnd result (λ e. e ≡ stop) → P stop → IfErr result P
stops_so P (Ok k) stop e h = absurd e
stops_so P (Err x) stop e h = subst P (sym e) h

-- ---- a result that may be there

pub if_some : {A : Type 0} (P Q : A → Type 0) (o : Option A) → ((x : A) → P x → Q x) → IfSome o P → IfSome o Q
if_some P Q (Some x) f h = f x h
if_some P Q None f h = tt

pub if_both : {A : Type 0} (P Q R : A → Type 0) (o : Option A) → ((x : A) → P x → Q x → R x) → IfSome o P → IfSome o Q → IfSome o R
if_both P Q R (Some x) f h k = f x h k
if_both P Q R None f h k = tt

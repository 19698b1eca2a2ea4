-- Helper definitions for private contracts: fields and items of lists that are written at once.
use Rattle.std.specs.Prelude.{◌≡◌, ◌<◌, ◌≤◌, ℕ, List, false, length, take}
use Rattle.gql_inputs.specs.InputTypes.{is_list, name_in}
use Rattle.gql_inputs.specs.declared.scalar.Scalar.{Scalar}
use Rattle.gql_types.specs.Written.{Written}
use Rattle.serde_json.specs.Data.{Data}
use Rattle.gql_steps.specs.JsonText.{json_text}
use Rattle.gql_steps.specs.Execution.{Object, Site, complete}
use Rattle.gql_steps.specs.Kinds.{kind_from}
use Rattle.gql_steps.specs.Parts.{all, numbered, plain}
use Rattle.gql_steps.specs.Plans.{Basis, types_of}
use Rattle.gql_steps.specs.Replies.{Path}
use Rattle.gql_steps.specs.States.{Done}
use Rattle.gql_steps.specs.Tables.{Pair, StandsFor}
use Rattle.gql_steps.specs.Texts.{value_part}
use Rattle.gql_steps.specs.ValueParts.{content_part, item_part, items_part}
use Rattle.gql_steps.specs.declared.ended.Ended.TheVariants as ended
use Rattle.gql_steps.specs.declared.kinds.ValueKind.{ValueKind}
use Rattle.gql_steps.specs.declared.kinds.ValueKind.TheVariants as named
use Rattle.gql_steps.specs.declared.planning.FieldPlan.{FieldPlan}
use Rattle.gql_steps.specs.declared.refusal.ExecRefusal.{ExecRefusal}
use Rattle.gql_steps.specs.declared.refusal.ExecRefusal.TheVariants.{TooHeavy}
use Rattle.gql_steps.specs.declared.run.Run.{Run}

-- where a value is completed at the type t, the values of the type's name are of this kind
abbrev pub HasKind : ValueKind → Written → Site → Type 0
HasKind kind t s = kind ≡ kind_from (name_in t) (s.types.kind (name_in t))

-- where the type t has values of this scalar, d is completed to y, without errors
abbrev pub IsDirectly : Scalar → Written → Data → Data → Type 0
IsDirectly c t d y = (s : Site) → (p : Path) → HasKind (named.Scalar c) t s
    → value_part (complete s t p d) ≡ plain (json_text y)

-- in this object, the field f has the value y, of which the text alone is written
abbrev pub IsDirectField : FieldPlan → Object → Data → Type 0
IsDirectField f o y = (g : Basis) → (q : Pair) → (p : Path) → StandsFor g f q
    → content_part (types_of g) o q p ≡ plain (json_text y)

-- the first k of these items are written, in places of the type t whose values are of this kind
pub record ItemsWritten (kind : ValueKind) (t : Written) (ds : List Data) (k : ℕ) (old new : Run)
    : Type 0 where
  pub within : k ≤ length ds
  pub left : new.left ≤ old.left
  pub done : (s : Site) → (p : Path) → HasKind kind t s
      → Done (all (numbered (item_part t s p) 0 (take k ds))) ended.Written old new

-- if more values are to be completed than are left, then so for these items
abbrev pub ItemsStop : ValueKind → Written → List Data → Run → ExecRefusal → Type 0
ItemsStop kind t ds old stop = (s : Site) → (p : Path) → HasKind kind t s → stop ≡ TooHeavy
    → old.left < (items_part t s ds p).weight

-- the same for values of a scalar, in places of any type but a list
abbrev pub ScalarsWritten : Scalar → List Data → ℕ → Run → Run → Type 0
ScalarsWritten c ds k old new = (t : Written) → is_list t ≡ false
    → ItemsWritten (named.Scalar c) t ds k old new

abbrev pub ScalarsStop : Scalar → List Data → Run → ExecRefusal → Type 0
ScalarsStop c ds old stop = (t : Written) → is_list t ≡ false
    → ItemsStop (named.Scalar c) t ds old stop

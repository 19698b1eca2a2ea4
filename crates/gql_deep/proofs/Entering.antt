-- What is kept and reached where objects and lists are executed, and objects that are to be entered.
use Rattle.std.proofs.Common.{◌≡◌, ℕ, zero, suc, ◌+◌, ◌≤◌, List, true, codes, Result, Ok, Err, refl, sym, subst, arith}
use Rattle.std.specs.Result.{IfOk}
use Rattle.gql_collect.specs.Nodes.{FileSelection}
use Rattle.gql_steps.specs.Execution.{Plan, plan, execute}
use Rattle.gql_deep.specs.Frames.{Enters, Fits, Kept, KeepsBegun, KeepsTurn, Reaches, field_parts, object_in}
use Rattle.gql_steps.specs.Parts.{Part, comma}
use Rattle.gql_steps.specs.Plans.{Basis, IsPlan, is_met, types_of}
use Rattle.gql_steps.specs.States.{path_of}
use Rattle.gql_steps.specs.Tables.{Has, pairs_of}
use Rattle.gql_steps.specs.Texts.{value_part}
use Rattle.gql_steps.specs.declared.ended.Ended.TheVariants as how
use Rattle.gql_deep.specs.declared.frames.AnyObject.{AnyObject}
use Rattle.gql_deep.specs.declared.frames.Around.{Around}
use Rattle.gql_deep.specs.declared.frames.Begun.{Begun}
use Rattle.gql_deep.specs.declared.frames.Group.{Group}
use Rattle.gql_deep.specs.declared.frames.Group.TheVariants as group
use Rattle.gql_deep.specs.declared.frames.Reached.{Reached}
use Rattle.gql_deep.specs.declared.frames.Turn.{Turn}
use Rattle.gql_steps.specs.declared.refusal.ExecRefusal.{ExecRefusal}
use Rattle.gql_steps.specs.declared.run.Run.{Run}
use Rattle.gql_steps.specs.declared.table.Table.{Table}
use Rattle.gql_steps.proofs.Completing.{object_is}
use Rattle.gql_steps.proofs.Executing.{entry_stands}
use Rattle.gql_deep.proofs.Midway.{midway_starts}

-- ---- what is kept

-- after a value has been counted
pub begun_later : (g : Basis) (a b : Table) (result : Result Begun ExecRefusal) (s m u : Run) → m.left + 1 ≤ s.left → KeepsBegun g a b 0 m u result → KeepsBegun g a b 1 s u result
begun_later g a b (Ok x) s m u less h = record { right = h.right; grows = h.grows; left = omega (arith, h.left, less); fits = h.fits }
begun_later g a b (Err e) s m u less h = tt

pub node_later : (g : Basis) (a b : Table) (result : Result (Around × Group) ExecRefusal) (s m u : Run) → m.left + 1 ≤ s.left → IfOk result (λ w. Kept g a b 0 m u (Fits b w.1))
    → IfOk result (λ w. Kept g a b 1 s u (Fits b w.1))
node_later g a b (Ok x) s m u less h = record { right = h.right; grows = h.grows; left = omega (arith, h.left, less); fits = h.fits }
node_later g a b (Err e) s m u less h = tt

-- a comma is no value
pub comma_weight : (i : ℕ) → (comma i).weight ≡ 0
comma_weight zero = refl
comma_weight (suc i) = refl

pub turn_later : (g : Basis) (a b : Table) (result : Result Turn ExecRefusal) (s m u : Run) → m.left ≤ s.left → KeepsTurn g a b m u result → KeepsTurn g a b s u result
turn_later g a b (Ok x) s m u less h = record { right = h.right; grows = h.grows; left = omega (arith, h.left, less); fits = h.fits }
turn_later g a b (Err e) s m u less h = tt

-- ---- what is reached

pub as_reached : (g : Basis) (t : Table) (a b : Part) (result : Result Reached ExecRefusal) (old now : Run) → a ≡ b → Reaches g t b result old now → Reaches g t a result old now
as_reached g t a b result old now e h = subst (λ r. Reaches g t r result old now) (sym e) h

-- an object of which no field is executed yet
pub enters_entry : (g : Basis) (table : Table) (k : ℕ) (t name : List ℕ) (xs : List FileSelection) (x : Plan) (o : AnyObject) (s : Run)
    → Has g table k t xs → is_met g t name ≡ true → IsPlan g name xs x
    → Enters g table (group.Fields (record { entry = k; object = o; next = 0; ended = how.Written })) (value_part (execute (types_of g) x t (path_of s) (object_in o))) s
enters_entry g table k t name xs (plan by_type) o s has met is = λ m opens. record {
  pairs = pairs_of (by_type t);
  within = has.within;
  stand = entry_stands g table k t name xs by_type has met is;
  midway = midway_starts (codes "{") (codes "}") (field_parts g (record { entry = k; object = o; next = 0; ended = how.Written }) (pairs_of (by_type t)) s)
      (value_part (execute (types_of g) (plan by_type) t (path_of s) (object_in o))) s m opens (object_is (types_of g) by_type t (path_of s) (object_in o));
}

-- How calls of an execution come together.
use Rattle.std.proofs.Common.{◌≡◌, ◌||◌, ℕ, zero, suc, ◌<◌, ◌≤◌, inl, inr, List, [], ◌∷◌, Bool, true, false, length, get_or, String, Global, string_bytes, Option, Some, None, Result, Ok, Err, bytes_eq, is_some, refl, sym, ap, subst, ◌∙◌, arith, if◌then◌else◌}
use Rattle.std.specs.List.{list_any}
use Rattle.std.specs.Result.{OnOk}
use Rattle.std.proofs.lemmas.Slice.Eq.{bytes_eq-Decides}
use Rattle.gql_inputs.specs.InputTypes.{is_non_null, item_of, name_in}
use Rattle.gql_intro.specs.Nodes.{Node, query_root}
use Rattle.json.specs.Print.{quoted}
use Rattle.gql_collect.specs.Nodes.{FileSelection}
use Rattle.gql_types.specs.Schemas.{kind_named}
use Rattle.gql_types.specs.Written.{Written, named, listed, required, written}
use Rattle.gql_types.specs.declared.kind.TypeKind.{TypeKind}
use Rattle.serde_json.specs.Data as json
use Rattle.serde_json.specs.Data.{Data}
use Rattle.serde_json.specs.Find.{as_null}
use Rattle.serde_json.specs.View.{view}
use Rattle.serde_json.specs.declared.value.Value.{Value}
use Rattle.gql_steps.specs.Execution.{Fields, Object, Plan, plan, PlannedField, Site, Types, among, answering, by_source, complete, described, execute, is_null, of_kind, on_answer, on_list, stored, value_of}
use Rattle.gql_steps.specs.Execution as execution
use Rattle.gql_steps.specs.Parts.{Part, caught, plain, raise}
use Rattle.gql_steps.specs.Plans.{Basis, IsPlan, defined, is_met, is_met_by, is_possible_by, possible_in, types_of}
use Rattle.gql_steps.specs.Replies.{Path}
use Rattle.gql_steps.specs.Resolution.{resolved}
use Rattle.gql_steps.specs.States.{Executes, Follows, path_of}
use Rattle.gql_steps.specs.Tables.{Has, IsRight, StandFor, StandsFor, called_of, fields_at, pairs_of, planned_of}
use Rattle.gql_steps.specs.Texts.{value_part}
use Rattle.gql_steps.specs.ValueParts.{IsAbstract, Keeps, answer_part, called_part, source_part, object_part, placed_part, site_of}
use Rattle.gql_steps.specs.declared.ended.Ended.{Ended}
use Rattle.gql_steps.specs.declared.planning.Called.TheVariants as called
use Rattle.gql_steps.specs.declared.planning.FieldPlan.{FieldPlan}
use Rattle.gql_steps.specs.declared.planning.Source.TheVariants as source
use Rattle.gql_steps.specs.declared.refusal.ExecRefusal.{ExecRefusal}
use Rattle.gql_steps.specs.declared.run.Run.{Run}
use Rattle.gql_steps.specs.declared.table.Table.{Table}
use Rattle.gql_steps.proofs.Completing.{object_is}
use Rattle.gql_steps.proofs.Entries.{grows_same, grows_twice}
use Rattle.gql_steps.proofs.Grouped.{paired}

-- ---- what is kept

pub keeps_same : (g : Basis) (t : Table) (r : Part) (result : Result Ended ExecRefusal) (s u : Run) → IsRight g t → Executes r result s u → OnOk result (Keeps g t t s u)
keeps_same g t r (Ok e) s u right done = record { right = right; grows = grows_same t; left = omega (arith, done.follows.left) }
keeps_same g t r (Err e) s u right done = tt

-- after steps that write
pub keeps_direct : (g : Basis) (t : Table) (r : Part) (result : Result Ended ExecRefusal) (s m u : Run) → IsRight g t → m.left ≤ s.left → Executes r result m u
    → OnOk result (Keeps g t t s u)
keeps_direct g t r (Ok e) s m u right less done = record { right = right; grows = grows_same t; left = omega (arith, less, done.follows.left) }
keeps_direct g t r (Err e) s m u right less done = tt

pub keeps_twice : (g : Basis) (a b c : Table) (s t u : Run) → Keeps g a b s t → Keeps g b c t u → Keeps g a c s u
keeps_twice g a b c s t u h k = record { right = k.right; grows = grows_twice a b c h.grows k.grows; left = omega (arith, h.left, k.left) }

-- with as many values left
pub keeps_left : (g : Basis) (a b : Table) (s t u v : Run) → Keeps g a b t u → t.left ≤ s.left → v.left ≤ u.left → Keeps g a b s v
keeps_left g a b s t u v k h l = record { right = k.right; grows = k.grows; left = omega (arith, k.left, h, l) }

-- a part between brackets
pub keeps_within : (g : Basis) (a b : Table) (before after : List ℕ) (s t u v : Run) → Follows (plain before) s t → Keeps g a b t u → Follows (plain after) u v → Keeps g a b s v
keeps_within g a b before after s t u v opens k closes = record { right = k.right; grows = k.grows; left = omega (arith, k.left, opens.left, closes.left) }

-- what is kept from an earlier state on
pub keeps_later : (g : Basis) (a b : Table) (result : Result Ended ExecRefusal) (s t u : Run) → t.left ≤ s.left → OnOk result (Keeps g a b t u) → OnOk result (Keeps g a b s u)
keeps_later g a b (Ok e) s t u h k = record { right = k.right; grows = k.grows; left = omega (arith, k.left, h) }
keeps_later g a b (Err e) s t u h k = tt

pub as_part : (a b : Part) (result : Result Ended ExecRefusal) (s t : Run) → a ≡ b → Executes b result s t → Executes a result s t
as_part a b result s t e h = subst (λ r. Executes r result s t) (sym e) h

-- ---- fields

-- the field of the plan at a number
pub record At (g : Basis) (f : FieldPlan) (k : ℕ) (qs : List (PlannedField × Plan)) : Type 0 where
  pub pair : PlannedField × Plan
  pub within : k < length qs
  pub here : pair ≡ get_or qs k pair
  pub stands : StandsFor g f pair

pub stand_at : (g : Basis) (fs : List FieldPlan) (qs : List (PlannedField × Plan)) (k : ℕ) (f : FieldPlan) → StandFor g fs qs → k < length fs → f ≡ get_or fs k f → At g f k qs
stand_at g [] [] k f h w is = absurd (omega (arith, w))
stand_at g [] (q ∷ qs) k f h w is = absurd h
stand_at g (x ∷ fs) [] k f h w is = absurd h
stand_at g (x ∷ fs) (q ∷ qs) zero f h w is = record { pair = q; within = omega arith; here = refl; stands = subst (λ e. StandsFor g e q) (sym is) h.0 }
stand_at g (x ∷ fs) (q ∷ qs) (suc k) f h w is = let r = stand_at g fs qs k f h.1 (omega (arith, w)) is in
    record { pair = r.pair; within = omega (arith, r.within); here = r.here; stands = r.stands }

pub as_many : (g : Basis) (fs : List FieldPlan) (qs : List (PlannedField × Plan)) → StandFor g fs qs → length fs ≡ length qs
as_many g [] [] h = refl
as_many g [] (q ∷ qs) h = absurd h
as_many g (x ∷ fs) [] h = absurd h
as_many g (x ∷ fs) (q ∷ qs) h = ap suc (as_many g fs qs h.1)

-- a field that is refused its arguments
pub called_refused : (types : Types) (d : Object) (q : PlannedField × Plan) (p : Path) (f : FieldPlan) (m : String Global) → q.0 ≡ planned_of f → f.arguments ≡ called.Refused m
    → called_part types d q p ≡ raise (record { message = string_bytes m; place = f.place; path = p })
called_refused types d q p f m is refused =
    ap (λ (e : PlannedField). value_part (value_of (site_of types e.place q.1) e e.arguments p d)) is
    ∙ ap (λ a. value_part (value_of (site_of types f.place q.1) (planned_of f) (called_of a) p d)) refused

-- one that is called with arguments, of an object of the data and of a node
module _ (types : Types) (q : PlannedField × Plan) (p : Path) (f : FieldPlan) (v : Value) (is : q.0 ≡ planned_of f) (given : f.arguments ≡ called.Given v) where
  arguments_are : q.0.arguments ≡ execution.given (view v)
  arguments_are = ap (λ (e : PlannedField). e.arguments) is ∙ ap called_of given

  pub called_stored : (d : Data) → called_part types (stored d) q p ≡ source_part types (view v) d q p
  called_stored d = ap (λ a. value_part (value_of (site_of types q.0.place q.1) q.0 a p (stored d))) arguments_are

  pub called_described : (n : Node) → called_part types (described n) q p ≡ answer_part types (view v) (answering f.source n) q p
  called_described n = ap (λ a. value_part (value_of (site_of types q.0.place q.1) q.0 a p (described n))) arguments_are
      ∙ ap (λ (e : PlannedField). answer_part types (view v) (answering e.source n) q p) is

-- by where objects of the data have the value of a field
module _ (types : Types) (a d : Data) (q : PlannedField × Plan) (p : Path) (f : FieldPlan) (is : q.0 ≡ planned_of f) where
  source_is : source_part types a d q p ≡ value_part (by_source (site_of types f.place q.1) (planned_of f) f.source a p d)
  source_is = ap (λ (e : PlannedField). value_part (by_source (site_of types e.place q.1) e e.source a p d)) is

  pub source_stored : f.source ≡ source.Stored
      → source_part types a d q p ≡ value_part (complete (site_of types f.place q.1) (written f.of_type.now) p (resolved f.name.now (written f.of_type.now) a d))
  source_stored e = source_is ∙ ap (λ x. value_part (by_source (site_of types f.place q.1) (planned_of f) x a p d)) e

  pub source_name : (t : List ℕ) → f.source ≡ source.TypeName t → source_part types a d q p ≡ plain (quoted t)
  source_name t e = source_is ∙ ap (λ x. value_part (by_source (site_of types f.place q.1) (planned_of f) x a p d)) e

  pub source_root : f.source ≡ source.Root → source_part types a d q p ≡ answer_part types a query_root q p
  source_root e = source_is ∙ ap (λ x. value_part (by_source (site_of types f.place q.1) (planned_of f) x a p d)) e
      ∙ ap (λ (e : PlannedField). value_part (on_answer (site_of types e.place q.1) e.of_type p (types.introspect query_root e.name a))) (sym is)

pub answer_at : (types : Types) (a : Data) (n : Node) (q : PlannedField × Plan) (p : Path) (f : FieldPlan) → q.0 ≡ planned_of f
    → answer_part types a n q p ≡ value_part (on_answer (site_of types f.place q.1) (written f.of_type.now) p (types.introspect n f.name.now a))
answer_at types a n q p f is = ap (λ (e : PlannedField). value_part (on_answer (site_of types e.place q.1) e.of_type p (types.introspect n e.name a))) is

-- ---- places

pub placed_required : (t : Written) (r : Part) → is_non_null t ≡ true → placed_part t r ≡ r
placed_required t r e = ap (λ b. if b then r else caught r) e

pub placed_nullable : (t : Written) (r : Part) → is_non_null t ≡ false → placed_part t r ≡ caught r
placed_nullable t r e = ap (λ b. if b then r else caught r) e

-- ---- objects

-- the fields of an entry stand for those of each plan
pub entry_stands : (g : Basis) (table : Table) (k : ℕ) (t name : List ℕ) (xs : List FileSelection) (by_type : List ℕ → Fields) → Has g table k t xs → is_met g t name ≡ true
    → IsPlan g name xs (plan by_type) → StandFor g (fields_at table.entries.items k) (pairs_of (by_type t))
entry_stands g table k t name xs by_type has met is = let p = is t met in has.holds p.0 p.1 (pairs_of (by_type t)) (paired g t (defined g t p.0) (by_type t) p.2)

pub on_entry : (g : Basis) (table : Table) (k : ℕ) (t name : List ℕ) (xs : List FileSelection) (x : Plan) (d : Object) (result : Result Ended ExecRefusal) (s u : Run)
    → Has g table k t xs → is_met g t name ≡ true → IsPlan g name xs x
    → ((qs : List (PlannedField × Plan)) → StandFor g (fields_at table.entries.items k) qs → Executes (object_part (types_of g) d qs (path_of s)) result s u)
    → Executes (value_part (execute (types_of g) x t (path_of s) d)) result s u
on_entry g table k t name xs (plan by_type) d result s u has met is does =
    subst (λ r. Executes r result s u) (sym (object_is (types_of g) by_type t (path_of s) d))
    (does (pairs_of (by_type t)) (entry_stands g table k t name xs by_type has met is))

pub bytes_same : (n : List ℕ) → bytes_eq n n ≡ true
bytes_same n = (bytes_eq-Decides n n).1 refl

-- an object of the type itself is met
pub met_self : (types : Types) (n : List ℕ) (k : Option TypeKind) → is_met_by types n n k ≡ true
met_self types n k = ap (λ b. b || is_possible_by types n n k) (bytes_same n)

pub met_itself : (g : Basis) (n : List ℕ) → is_met g n n ≡ true
met_itself g n = met_self (types_of g) n (kind_named g.given.schema n)

or_true : (b c : Bool) → c ≡ true → b || c ≡ true
or_true true c e = refl
or_true false c e = e

pub met_possible : (types : Types) (t n : List ℕ) (k : Option TypeKind) → IsAbstract k → list_any (bytes_eq t) (types.possible n) ≡ true → is_met_by types t n k ≡ true
met_possible types t n k (inl e) h = or_true (bytes_eq t n) (is_possible_by types t n k) (ap (is_possible_by types t n) e ∙ h)
met_possible types t n k (inr e) h = or_true (bytes_eq t n) (is_possible_by types t n k) (ap (is_possible_by types t n) e ∙ h)

pub met_abstract : (g : Basis) (t n : List ℕ) → IsAbstract (kind_named g.given.schema n) → list_any (bytes_eq t) (possible_in g.given.schema n) ≡ true → is_met g t n ≡ true
met_abstract g t n e h = met_possible (types_of g) t n (kind_named g.given.schema n) e h

chosen : (b : Bool) (n t : List ℕ) → (if b then Some n else None) ≡ Some t → (b ≡ true) × (n ≡ t)
chosen true n t e = (refl, same n t e) where
  same : (n t : List ℕ) → Some n ≡ Some t → n ≡ t
  same n t e = cc
chosen false n t e = cc

-- a type that an object names is one of these
pub among_is : (names : List (List ℕ)) (o : Option Data) (t : List ℕ) → among names o ≡ Some t → list_any (bytes_eq t) names ≡ true
among_is names (Some (json.string n)) t e = let c = chosen (list_any (bytes_eq n) names) n t e in ap (λ m. list_any (bytes_eq m) names) (sym c.1) ∙ c.0
among_is names (Some json.null) t e = cc
among_is names (Some (json.boolean b)) t e = cc
among_is names (Some (json.number x)) t e = cc
among_is names (Some (json.array ds)) t e = cc
among_is names (Some (json.object ms)) t e = cc
among_is names None t e = cc

-- ---- values

pub not_null : (d : Data) → is_some (as_null d) ≡ false → is_null d ≡ false
not_null json.null e = cc
not_null (json.boolean b) e = refl
not_null (json.number n) e = refl
not_null (json.string s) e = refl
not_null (json.array ds) e = refl
not_null (json.object ms) e = refl

-- the name within the type of the items
pub name_of_items : (t v : Written) → item_of t ≡ Some v → name_in v ≡ name_in t
name_of_items (named n) v e = cc
name_of_items (listed t) v e = ap name_in (sym (same t v e)) where
  same : (t v : Written) → Some t ≡ Some v → t ≡ v
  same t v e = cc
name_of_items (required t) v e = name_of_items t v e

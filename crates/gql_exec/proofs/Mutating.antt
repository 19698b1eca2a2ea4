-- What is written for the root fields of a mutation, and what they add to the data.
use Rattle.std.proofs.Common.{◌≡◌, ◌<◌, ℕ, zero, suc, ◌+◌, inl, inr, true, false, List, [], ◌∷◌, ◌++◌, map, length, take, get_or, codes, is_some, Option, Some, None, Ok, Err, refl, sym, ap, subst, ◌∙◌, arith, append_assoc, append-nil, add-one, if◌then◌else◌}
use Rattle.std.proofs.Common.{◌⊎◌}
use Rattle.gql_collect.specs.Nodes.{FileSelection}
use Rattle.gql_types.specs.Schemas.{append_of}
use Rattle.json.specs.Print.{quoted}
use Rattle.serde_json.specs.Data as json
use Rattle.serde_json.specs.Data.{Data}
use Rattle.serde_json.specs.View.{view}
use Rattle.gql_stored.specs.Effects.{Effect, list_named}
use Rattle.gql_steps.specs.Execution.{given, refused, Fields, no_fields, field, Object, Plan, plan, PlannedField, Site, Types, added, added_by, complete, each_root, effect_of, effects_of, execute_root, members_of, placed, root_value, value_of}
use Rattle.gql_steps.specs.Outcomes.{segment_of}
use Rattle.gql_steps.specs.Parts.{Part, after_comma, all, counted, followed_by, plain, raise, settled, within}
use Rattle.gql_steps.specs.Plans.{Basis, IsPlan, is_met, types_of}
use Rattle.gql_steps.specs.Replies.{Path, key, Reply}
use Rattle.gql_steps.specs.Replies as reply
use Rattle.gql_exec.specs.RootParts.{IsAddition, Root, added_field, effect_in, effects_in, root_called, root_field, root_part}
use Rattle.gql_steps.specs.States.{Done, Executes, path_of}
use Rattle.gql_steps.specs.Tables.{Has, Pair, StandFor, called_of, fields_at, pairs_of, planned_of}
use Rattle.gql_steps.specs.Texts.{member_text, texted, value_part}
use Rattle.gql_steps.specs.ValueParts.{field_part, placed_part, site_of}
use Rattle.gql_steps.specs.declared.ended.Ended.{Ended}
use Rattle.gql_exec.specs.declared.mutation.Addition.{Addition}
use Rattle.gql_steps.specs.declared.planning.FieldPlan.{FieldPlan}
use Rattle.gql_steps.specs.declared.refusal.ExecRefusal.{ExecRefusal}
use Rattle.gql_steps.specs.declared.refusal.ExecRefusal.TheVariants.{TooHeavy}
use Rattle.gql_steps.specs.declared.run.Run.{Run}
use Rattle.gql_steps.specs.declared.table.Table.{Table}
use Rattle.gql_steps.proofs.Completing.{numbered-map, numbered-same}
use Rattle.gql_steps.proofs.Executing.{entry_stands}
use Rattle.gql_steps.proofs.Texting as texting
use Rattle.gql_steps.proofs.Texting.{labelled, placed_is}

-- ---- the reply of a mutation, as a part

-- a root field, but for its count
abbrev pub root_uncounted : Types → Root → PlannedField × Plan → Path → Reply (List ℕ × Data)
root_uncounted types r q p = reply.mapped (λ v. (q.0.response_name, v)) (reply.settled
    (placed q.0.of_type (root_value (site_of types q.0.place q.1) r.stored q.0 (r.appending q.0.name) q.0.arguments
    (p ++ key q.0.response_name ∷ []) r.initial)))

each_root_is : (types : Types) (r : Root) (fs : Fields) (p : Path)
    → each_root types r.appending r.stored fs p r.initial ≡ map reply.counted (map (λ (q : PlannedField × Plan). root_uncounted types r q p) (pairs_of fs))
each_root_is types r no_fields p = refl
each_root_is types r (field f below rest) p = ap (λ rs. reply.counted (root_uncounted types r (f, below) p) ∷ rs) (each_root_is types r rest p)

root_member_is : (types : Types) (r : Root) (q : PlannedField × Plan) (p : Path)
    → texted member_text (root_uncounted types r q p)
    ≡ followed_by (plain (quoted q.0.response_name ++ codes ":")) (settled (placed_part q.0.of_type (root_called types r q (p ++ key q.0.response_name ∷ []))))
root_member_is types r q p =
    let v = root_value (site_of types q.0.place q.1) r.stored q.0 (r.appending q.0.name) q.0.arguments (p ++ key q.0.response_name ∷ []) r.initial in
    labelled q.0.response_name (reply.settled (placed q.0.of_type v))
    ∙ ap (λ x. followed_by (plain (quoted q.0.response_name ++ codes ":")) (settled x)) (placed_is q.0.of_type v)

pub root_is : (types : Types) (r : Root) (by_type : List ℕ → Fields) (t : List ℕ) (p : Path)
    → value_part (execute_root types r.appending (plan by_type) t r.stored p r.initial) ≡ root_part types r (pairs_of (by_type t)) p
root_is types r by_type t p =
    let h : PlannedField × Plan → Reply (List ℕ × Data) = λ q. root_uncounted types r q p in
    let f : ℕ → Reply (List ℕ × Data) → Part = λ i x. after_comma i (counted (texted member_text x)) in
    ap (λ rs. value_part (reply.mapped (λ ms. json.object (members_of ms)) (reply.all rs))) (each_root_is types r (by_type t) p)
    ∙ texting.object_part (map h (pairs_of (by_type t)))
    ∙ ap (λ rs. within (codes "{") (all rs) (codes "}")) (numbered-map f h 0 (pairs_of (by_type t))
    ∙ numbered-same (λ i q. f i (h q)) (root_field types r p)
    (λ i q. ap (λ x. after_comma i (counted x)) (root_member_is types r q p)) 0 (pairs_of (by_type t)))

pub effects_are : (r : Root) (fs : Fields) → effects_of r.appending r.stored fs ≡ effects_in r (pairs_of fs)
effects_are r no_fields = refl
effects_are r (field f below rest) = ap (λ es. effect_of r.stored (r.appending f.name) f.arguments ++ es) (effects_are r rest)

effects_next : (r : Root) (qs : List Pair) (k : ℕ) (q : Pair) → k < length qs → q ≡ get_or qs k q → effects_in r (take (suc k) qs) ≡ effects_in r (take k qs) ++ effect_in r q
effects_next r [] k q h e = absurd (omega (arith, h))
effects_next r (x ∷ qs) zero q h e = append-nil (effect_in r x) ∙ ap (effect_in r) (sym e)
effects_next r (x ∷ qs) (suc k) q h e = ap (λ es. effect_in r x ++ es) (effects_next r qs k q (omega (arith, h)) e)
    ∙ sym (append_assoc (effect_in r x) (effects_in r (take k qs)) (effect_in r q))

-- one more root field
pub effects_more : (r : Root) (qs : List Pair) (k : ℕ) (q : Pair) → k < length qs → q ≡ get_or qs k q → effects_in r (take (k + 1) qs) ≡ effects_in r (take k qs) ++ effect_in r q
effects_more r qs k q h e = ap (λ n. effects_in r (take n qs)) (add-one k) ∙ effects_next r qs k q h e

-- ---- the entry of the root

module _ (g : Basis) (table : Table) (k : ℕ) (t : List ℕ) (xs : List FileSelection) (x : Plan) (r : Root) (s u : Run)
    (has : Has g table k t xs) (met : is_met g t t ≡ true) (is : IsPlan g t xs x) where
  on_root_entry : (result : _) → ((qs : List Pair) → StandFor g (fields_at table.entries.items k) qs → Executes (root_part (types_of g) r qs (path_of s)) result s u)
      → Executes (value_part (execute_root (types_of g) r.appending x t r.stored (path_of s) r.initial)) result s u
  on_root_entry result does = by x is where
    by : (x : Plan) → IsPlan g t xs x → Executes (value_part (execute_root (types_of g) r.appending x t r.stored (path_of s) r.initial)) result s u
    by (plan by_type) is = subst (λ y. Executes y result s u) (sym (root_is (types_of g) r by_type t (path_of s)))
        (does (pairs_of (by_type t)) (entry_stands g table k t t xs by_type has met is))

  pub added_are : (es : List Effect) → ((qs : List Pair) → StandFor g (fields_at table.entries.items k) qs → es ≡ effects_in r qs) → es ≡ added_by r.appending x t r.stored
  added_are es does = by x is where
    by : (x : Plan) → IsPlan g t xs x → es ≡ added_by r.appending x t r.stored
    by (plan by_type) is = does (pairs_of (by_type t)) (entry_stands g table k t t xs by_type has met is) ∙ sym (effects_are r (by_type t))

  module _ (start : s.path.items ≡ []) where
    pub root_done : (e : Ended) → ((qs : List Pair) → StandFor g (fields_at table.entries.items k) qs → Executes (root_part (types_of g) r qs (path_of s)) (Ok e) s u)
        → Done (value_part (execute_root (types_of g) r.appending x t r.stored [] r.initial)) e s u
    root_done e does = subst (λ p. Done (value_part (execute_root (types_of g) r.appending x t r.stored p r.initial)) e s u) (ap (map segment_of) start)
        (on_root_entry (Ok e) does)

    pub root_heavy : (stop : ExecRefusal) → ((qs : List Pair) → StandFor g (fields_at table.entries.items k) qs → Executes (root_part (types_of g) r qs (path_of s)) (Err stop) s u)
        → stop ≡ TooHeavy → s.left < (execute_root (types_of g) r.appending x t r.stored [] r.initial).weight
    root_heavy stop does heavy =
        let over : s.left < (value_part (execute_root (types_of g) r.appending x t r.stored [] r.initial)).weight =
        subst (λ p. s.left < (value_part (execute_root (types_of g) r.appending x t r.stored p r.initial)).weight) (ap (map segment_of) start)
        (on_root_entry (Err stop) does heavy) in
        omega (arith, over)

-- ---- values that are added

-- data without the list
pub added_missing : (s : Site) (d : Data) (f : PlannedField) (to : List ℕ) (a : Data) (p : Path) → is_some (list_named to d) ≡ false
    → value_part (added s d f to a p) ≡ raise (record { message = codes "no list named " ++ to; place = s.place; path = p })
added_missing s d f to a p e = ap (λ b. value_part (if b then complete s f.of_type p a else reply.raise (record { message = codes "no list named " ++ to; place = s.place; path = p }))) e

pub added_value : (s : Site) (d : Data) (f : PlannedField) (to : List ℕ) (a : Data) (p : Path) → is_some (list_named to d) ≡ true
    → value_part (added s d f to a p) ≡ value_part (complete s f.of_type p a)
added_value s d f to a p e = ap (λ b. value_part (if b then complete s f.of_type p a else reply.raise (record { message = codes "no list named " ++ to; place = s.place; path = p }))) e

pub nothing_added : (d : Data) (to : List ℕ) (a : Data) → is_some (list_named to d) ≡ false → effect_of d (Some to) (given a) ≡ []
nothing_added d to a e = ap (λ b. let x : Effect = record { to = to; value = a } in if b then x ∷ [] else []) e

pub one_added : (d : Data) (to : List ℕ) (a : Data) → is_some (list_named to d) ≡ true → effect_of d (Some to) (given a) ≡ record { to = to; value = a } ∷ []
one_added d to a e = ap (λ b. let x : Effect = record { to = to; value = a } in if b then x ∷ [] else []) e

-- ---- root fields, by what they add

module _ (types : Types) (g : Basis) (t : List ℕ) (d : Data) (o : Object) (f : FieldPlan) (q : Pair) (is : q.0 ≡ planned_of f) where
  abbrev root : Root
  root = record { appending = append_of g.given.schema t; stored = d; initial = o }

  name_is : q.0.name ≡ f.name.now
  name_is = ap (λ (e : PlannedField). e.name) is

  arguments_are : q.0.arguments ≡ called_of f.arguments
  arguments_are = ap (λ (e : PlannedField). e.arguments) is

  pub root_adds : (a : Addition) → IsAddition g t f (Some a) → (p : Path) (i : ℕ) → root_field types root p i q ≡ added_field types d a.to.now (view a.arguments.now) p i q
  root_adds a h p i = ap (λ v. after_comma i (counted (followed_by (plain (quoted q.0.response_name ++ codes ":")) (settled (placed_part q.0.of_type (value_part v))))))
      (ap (λ n. root_value (site_of types q.0.place q.1) d q.0 (append_of g.given.schema t n) q.0.arguments (p ++ key q.0.response_name ∷ []) o) name_is
      ∙ ap (λ l. root_value (site_of types q.0.place q.1) d q.0 l q.0.arguments (p ++ key q.0.response_name ∷ []) o) h.0
      ∙ ap (λ v. root_value (site_of types q.0.place q.1) d q.0 (Some a.to.now) v (p ++ key q.0.response_name ∷ []) o) (arguments_are ∙ h.1))

  pub effect_adds : (a : Addition) → IsAddition g t f (Some a) → effect_in root q ≡ effect_of d (Some a.to.now) (given (view a.arguments.now))
  effect_adds a h = ap (λ n. effect_of d (append_of g.given.schema t n) q.0.arguments) name_is
      ∙ ap (λ l. effect_of d l q.0.arguments) h.0 ∙ ap (effect_of d (Some a.to.now)) (arguments_are ∙ h.1)

  value_same : (l : Option (List ℕ)) → (l ≡ None) ⊎ ((m : List ℕ) × (q.0.arguments ≡ refused m)) → (p : Path)
      → root_value (site_of types q.0.place q.1) d q.0 l q.0.arguments p o ≡ value_of (site_of types q.0.place q.1) q.0 q.0.arguments p o
  value_same None h p = refl
  value_same (Some to) (inl e) p = cc
  value_same (Some to) (inr e) p = ap (λ a. root_value (site_of types q.0.place q.1) d q.0 (Some to) a p o) e.1
      ∙ ap (λ a. value_of (site_of types q.0.place q.1) q.0 a p o) (sym e.1)

  effect_none : (l : Option (List ℕ)) → (l ≡ None) ⊎ ((m : List ℕ) × (q.0.arguments ≡ refused m)) → effect_of d l q.0.arguments ≡ []
  effect_none None h = refl
  effect_none (Some to) (inl e) = cc
  effect_none (Some to) (inr e) = ap (effect_of d (Some to)) e.1

  other : IsAddition g t f None → (append_of g.given.schema t q.0.name ≡ None) ⊎ ((m : List ℕ) × (q.0.arguments ≡ refused m))
  other (inl e) = inl (ap (append_of g.given.schema t) name_is ∙ e)
  other (inr e) = inr (e.0, arguments_are ∙ e.1)

  pub root_reads : IsAddition g t f None → (p : Path) (i : ℕ) → root_field types root p i q ≡ field_part types o p i q
  root_reads h p i = ap (λ v. after_comma i (counted (followed_by (plain (quoted q.0.response_name ++ codes ":")) (settled (placed_part q.0.of_type (value_part v))))))
      (value_same (append_of g.given.schema t q.0.name) (other h) (p ++ key q.0.response_name ∷ []))

  pub effect_reads : IsAddition g t f None → effect_in root q ≡ []
  effect_reads h = effect_none (append_of g.given.schema t q.0.name) (other h)

-- The fields that are planned for groups.
use Rattle.std.proofs.Common.{◌≡◌, ℕ, List, [], ◌∷◌, ◌++◌, length, get_or, arith, codes, append-nil, append_assoc, cond, is_some, Option, Some, None, refl, sym, ap, ◌∙◌, subst}
use Rattle.std.proofs.lemmas.List.Elements.{filter-append}
use Rattle.json.specs.Print.{quoted}
use Rattle.gql_ast.specs.declared.executable.Field.{Field}
use Rattle.gql_ast.specs.declared.executable.InlineFragment.{InlineFragment}
use Rattle.gql_ast.specs.declared.executable.Selection.{Selection, out-Selection}
use Rattle.gql_ast.specs.declared.executable.Selection.TheVariants as select
use Rattle.gql_ast.specs.declared.executable.Spread.{Spread}
use Rattle.gql_coerce.specs.Requests.{ArgumentsCome}
use Rattle.gql_collect.specs.Alone.{alone_at, groups_alone}
use Rattle.gql_collect.specs.Borrowed.{all_selections, selections_of}
use Rattle.gql_collect.specs.Collection.{AreGroups, selections_below}
use Rattle.gql_collect.specs.Groups.{Group, key_of}
use Rattle.gql_collect.specs.Nodes.{FieldNode, FileSelection, in_file}
use Rattle.gql_collect.specs.declared.node.SelectionSet.{SelectionSet}
use Rattle.gql_inputs.specs.InputTypes.{name_in}
use Rattle.gql_steps.specs.Execution.{PlannedField, Plan, Fields, no_fields, field}
use Rattle.gql_steps.specs.Kinds.{kind_in}
use Rattle.gql_steps.specs.Plans.{Basis, FieldOf, IsPlan, IsPlanned, ArePlanned, defined, field_of, field_of_nodes, planned}
use Rattle.gql_steps.specs.Tables.{PlansGroup, ArePairs, StandsFor, StandFor, Planning, Hold, pairs_of, planned_of}
use Rattle.gql_steps.specs.declared.planning.FieldPlan.{FieldPlan}

pub paired : (g : Basis) (t : List ℕ) (groups : List Group) (fs : Fields) → ArePlanned g t groups fs → ArePairs g t groups (pairs_of fs)
paired g t [] no_fields h = tt
paired g t [] (field f below rest) h = absurd h
paired g t (group ∷ groups) no_fields h = absurd h
paired g t (group ∷ groups) (field f below rest) h = (h.0, h.1, paired g t groups rest h.2)

-- the last of the groups
record Split (g : Basis) (t : List ℕ) (groups : List Group) (group : Group) (qs : List (PlannedField × Plan)) : Type 0 where
  before : List (PlannedField × Plan)
  last : PlannedField × Plan
  is : qs ≡ before ++ last ∷ []
  are : ArePairs g t groups before
  first : IsPlanned g t group last.0
  below : IsPlan g (name_in last.0.of_type) (selections_below group.nodes) last.1

split : (g : Basis) (t : List ℕ) (groups : List Group) (group : Group) (qs : List (PlannedField × Plan)) → ArePairs g t (groups ++ group ∷ []) qs → Split g t groups group qs
split g t [] group [] h = absurd h
split g t [] group (q ∷ []) h = record { before = []; last = q; is = refl; are = tt; first = h.0; below = h.1 }
split g t [] group (q ∷ (r ∷ qs)) h = absurd h.2
split g t (x ∷ groups) group [] h = absurd h
split g t (x ∷ groups) group (q ∷ qs) h = let s = split g t groups group qs h.2 in
    record { before = q ∷ s.before; last = s.last; is = ap (λ rs. q ∷ rs) s.is; are = (h.0, h.1, s.are); first = s.first; below = s.below }

stand_more : (g : Basis) (fs : List FieldPlan) (qs : List (PlannedField × Plan)) (f : FieldPlan) (q : PlannedField × Plan) → StandFor g fs qs → StandsFor g f q → StandFor g (fs ++ f ∷ []) (qs ++ q ∷ [])
stand_more g [] [] f q h k = (k, tt)
stand_more g [] (r ∷ qs) f q h k = absurd h
stand_more g (e ∷ fs) [] f q h k = absurd h
stand_more g (e ∷ fs) (r ∷ qs) f q h k = (h.0, stand_more g fs qs f q h.1 k)

pub same_first : (x y : FieldNode) (xs ys : List FieldNode) → x ∷ xs ≡ y ∷ ys → x ≡ y
same_first x y xs ys e = cc

pub same_some : {A : Type 0} (x y : A) → Some x ≡ Some y → x ≡ y
same_some x y e = cc

-- the groups of fields that the type has, with one more
with_one : (g : Basis) (t : List ℕ) (groups : List Group) (group : Group) (n : FieldNode) (rest : List FieldNode) (d : FieldOf)
    → group.nodes ≡ n ∷ rest → field_of g t n.field.name.text ≡ Some d → defined g t (groups ++ group ∷ []) ≡ defined g t groups ++ group ∷ []
with_one g t groups group n rest d nodes is = filter-append (λ (x : Group). is_some (field_of_nodes g t x.nodes)) groups (group ∷ [])
    ∙ ap (λ (o : Option (FieldOf)). defined g t groups ++ cond (is_some o) (group ∷ []) []) (ap (field_of_nodes g t) nodes ∙ is)

-- without one whose field it does not have
without_one : (g : Basis) (t : List ℕ) (groups : List Group) (group : Group) (n : FieldNode) (rest : List FieldNode)
    → group.nodes ≡ n ∷ rest → field_of g t n.field.name.text ≡ None → defined g t (groups ++ group ∷ []) ≡ defined g t groups
without_one g t groups group n rest nodes is = filter-append (λ (x : Group). is_some (field_of_nodes g t x.nodes)) groups (group ∷ [])
    ∙ ap (λ (o : Option (FieldOf)). defined g t groups ++ cond (is_some o) (group ∷ []) []) (ap (field_of_nodes g t) nodes ∙ is)
    ∙ append-nil (defined g t groups)

-- the field of one more group, whose first node is n and has the definition d
pub one_more : (g : Basis) (t : List ℕ) (groups : List Group) (fs : List FieldPlan) (group : Group) (n : FieldNode) (rest : List FieldNode) (d : FieldOf) (f : FieldPlan)
    → Planning g t groups fs → group.nodes ≡ n ∷ rest → field_of g t n.field.name.text ≡ Some d → PlansGroup g d group f
    → Planning g t (groups ++ group ∷ []) (fs ++ f ∷ [])
one_more g t groups fs group n rest d f planning nodes has plans qs h =
    let s = split g t (defined g t groups) group qs (subst (λ gs. ArePairs g t gs qs) (with_one g t groups group n rest d nodes has) h) in
    let p = s.first in
    let first_is : p.first ≡ n = same_first p.first n p.others rest (sym p.nodes ∙ nodes) in
    let d_is : p.field ≡ d = same_some p.field d (sym p.defined ∙ ap (λ (m : FieldNode). field_of g t m.field.name.text) first_is ∙ has) in
    let is : planned_of f ≡ planned group p.first p.field p.arguments = subst (λ (e : FieldOf). planned_of f ≡ planned group p.first e p.arguments) (sym d_is)
    (plans.is p.first p.others p.arguments p.nodes (subst (λ (e : FieldOf). ArgumentsCome g.given.schema e.definition.arguments p.first.field.arguments g.given.values p.arguments) d_is p.comes)) in
    subst (StandFor g (fs ++ f ∷ [])) (sym s.is) (stand_more g fs s.before f s.last (planning s.before s.are) (record {
      planned = p.is ∙ sym is;
      label = plans.label ∙ ap (λ (r : PlannedField). quoted r.response_name ++ codes ":") (sym p.is);
      kind = plans.kind ∙ ap (λ (r : PlannedField). kind_in g.given.schema (name_in r.of_type)) (is ∙ sym p.is);
      below = subst (λ xs. IsPlan g (name_in s.last.0.of_type) xs s.last.1) (sym plans.sets) s.below;
    }))

-- a field that the type does not have is in no plan
pub none_more : (g : Basis) (t : List ℕ) (groups : List Group) (fs : List FieldPlan) (group : Group) (n : FieldNode) (rest : List FieldNode)
    → Planning g t groups fs → group.nodes ≡ n ∷ rest → field_of g t n.field.name.text ≡ None → Planning g t (groups ++ group ∷ []) fs
none_more g t groups fs group n rest planning nodes missing qs h =
    planning qs (subst (λ gs. ArePairs g t gs qs) (without_one g t groups group n rest nodes missing) h)

pub none_yet : (g : Basis) (t : List ℕ) → Planning g t [] []
none_yet g t [] h = tt
none_yet g t (q ∷ qs) h = absurd h

pub all_held : (g : Basis) (t : List ℕ) (xs : List FileSelection) (groups : List Group) (fs : List FieldPlan) → AreGroups g.given t xs groups → Planning g t groups fs → Hold g t xs fs
all_held g t xs groups fs are planning others h = subst (λ gs. Planning g t gs fs) (are others h) planning

-- ---- fields that are groups of their own

module _ (g : Basis) (t : List ℕ) (file : List ℕ) (x : Selection) (groups : List Group) (fs : List FieldPlan) where
  -- a selection that is no field
  pub none_alone : groups_alone (in_file file (x ∷ [])) ≡ [] → Planning g t groups fs → Planning g t (groups ++ groups_alone (in_file file (x ∷ []))) fs
  none_alone e h = subst (λ gs. Planning g t gs fs) (sym (append-nil groups) ∙ ap (λ ys. groups ++ ys) (sym e)) h

  pub one_alone : (f : Field) (key : List ℕ) (nodes : List FieldNode) → x ≡ select.Field f → key ≡ key_of (record { file = file; field = f }) → nodes ≡ record { file = file; field = f } ∷ []
      → Planning g t (groups ++ record { key = key; nodes = nodes } ∷ []) fs → Planning g t (groups ++ groups_alone (in_file file (x ∷ []))) fs
  one_alone f key nodes is name all h = subst (λ gs. Planning g t (groups ++ gs) fs)
      (ap (λ k. record { key = k; nodes = nodes } ∷ []) name ∙ ap (λ ns. record { key = key_of (record { file = file; field = f }); nodes = ns } ∷ []) all
      ∙ sym (ap (λ z. alone_at file (out-Selection z) ++ []) is ∙ ap (λ z. alone_at file z ++ []) (select.outs-Field f))) h

pub spread_alone : (file : List ℕ) (x : Selection) (y : Spread) → x ≡ select.Spread y → groups_alone (in_file file (x ∷ [])) ≡ []
spread_alone file x y is = ap (λ z. alone_at file (out-Selection z) ++ []) is ∙ ap (λ z. alone_at file z ++ []) (select.outs-Spread y)

pub inline_alone : (file : List ℕ) (x : Selection) (y : InlineFragment) → x ≡ select.InlineFragment y → groups_alone (in_file file (x ∷ [])) ≡ []
inline_alone file x y is = ap (λ z. alone_at file (out-Selection z) ++ []) is ∙ ap (λ z. alone_at file z ++ []) (select.outs-InlineFragment y)

pub alone_append : (file : List ℕ) (xs ys : List Selection) → groups_alone (in_file file (xs ++ ys)) ≡ groups_alone (in_file file xs) ++ groups_alone (in_file file ys)
alone_append file [] ys = refl
alone_append file (x ∷ xs) ys = ap (λ gs. alone_at file (out-Selection x) ++ gs) (alone_append file xs ys)
    ∙ sym (append_assoc (alone_at file (out-Selection x)) (groups_alone (in_file file xs)) (groups_alone (in_file file ys)))

-- one selection set
pub only_set : (sets : List SelectionSet) (x : SelectionSet) → length sets ≡ 1 → x ≡ get_or sets 0 x → all_selections sets ≡ selections_of x
only_set [] x n e = absurd (omega (arith, n))
only_set (y ∷ []) x n e = append-nil (selections_of y) ∙ ap selections_of (sym e)
only_set (y ∷ (z ∷ zs)) x n e = absurd (omega (arith, n))

-- The fields, the items or the nodes of a group, one more of which is begun.
use Rattle.std.proofs.Common.{◌≡◌, ℕ, ◌+◌, ◌<◌, ◌≤◌, List, [], ◌∷◌, ◌++◌, Bool, true, false, codes, drop, flat_map, map, length, get_or, option_to_list, Result, Ok, Err, sym, ap, ◌∙◌, arith, subst}
use Rattle.std.specs.Result.{IsErrAnd}
use Rattle.gql_inputs.specs.InputTypes.{is_non_null, name_in}
use Rattle.gql_intro.specs.Borrowed.{elements}
use Rattle.gql_intro.specs.Nodes.{Node}
use Rattle.gql_types.specs.Written.{Written, written}
use Rattle.serde_json.specs.Data.{Data}
use Rattle.gql_steps.specs.Ended.{both}
use Rattle.gql_steps.specs.Execution.{Object, PlannedField, Site, Types, complete, on_node}
use Rattle.gql_deep.specs.Frames.{AtFields, AtItems, AtNodes, Begins, BeginsNode, Enters, Hole, Midway, Opens, Pauses, Reaches, Turns, field_parts, item_parts, node_parts, object_in, placed_by}
use Rattle.gql_steps.specs.Outcomes.{segment_of}
use Rattle.gql_steps.specs.Parts.{Part, plain, settled}
use Rattle.gql_steps.specs.Plans.{Basis, types_of}
use Rattle.gql_steps.specs.Replies.{index, key}
use Rattle.gql_steps.specs.States.{Done, Executes, Follows, path_of}
use Rattle.gql_steps.specs.Tables.{Grows, Pair, below_at, planned_of}
use Rattle.gql_steps.specs.Texts.{value_part}
use Rattle.gql_steps.specs.ValueParts.{IsAsked, called_part, content_of_item, content_of_node, content_part, data_items, field_part, item_part, node_part, nodes_in, placed_part, site_of}
use Rattle.gql_steps.specs.declared.ended.Ended.{Ended}
use Rattle.gql_deep.specs.declared.frames.Around.{Around}
use Rattle.gql_deep.specs.declared.frames.Begun.{Begun}
use Rattle.gql_deep.specs.declared.frames.Begun.TheVariants as begun
use Rattle.gql_deep.specs.declared.frames.FieldsFrame.{FieldsFrame}
use Rattle.gql_deep.specs.declared.frames.Group.{Group}
use Rattle.gql_deep.specs.declared.frames.Group.TheVariants as group
use Rattle.gql_deep.specs.declared.frames.ItemsFrame.{ItemsFrame}
use Rattle.gql_deep.specs.declared.frames.NodesFrame.{NodesFrame}
use Rattle.gql_deep.specs.declared.frames.Reached.{Reached}
use Rattle.gql_deep.specs.declared.frames.Reached.TheVariants as reached
use Rattle.gql_deep.specs.declared.frames.Turn.{Turn}
use Rattle.gql_steps.specs.declared.outcome.Step.TheVariants as step
use Rattle.gql_steps.specs.declared.planning.FieldPlan.{FieldPlan}
use Rattle.gql_steps.specs.declared.refusal.ExecRefusal.{ExecRefusal}
use Rattle.gql_steps.specs.declared.refusal.ExecRefusal.TheVariants.{TooHeavy}
use Rattle.gql_steps.specs.declared.run.Run.{Run}
use Rattle.gql_steps.specs.declared.table.Table.{Table}
use Rattle.gql_steps.proofs.Doing.{stepped}
use Rattle.gql_steps.proofs.Entries.{below_still}
use Rattle.gql_steps.proofs.Executing.{At as AtField}
use Rattle.gql_deep.proofs.Holes.{at_still, hole_stops, opens_lift}
use Rattle.gql_deep.proofs.Midway.{midway_ends, midway_more, midway_path, midway_stops, numbered_at, numbered_length, numbered_within}
use Rattle.gql_deep.proofs.Picked.{after_picked, here_rest, none_left, within_rest}

-- ---- calls that stop

pub begins_stopped : (g : Basis) (t : Table) (r : Part) (result : Result Begun ExecRefusal) (stop : ExecRefusal) (s u : Run) → IsErrAnd result (λ e. e ≡ stop) → (stop ≡ TooHeavy → s.left < r.weight)
    → Begins g t r result s u
begins_stopped g t r (Ok x) stop s u e h = absurd e
begins_stopped g t r (Err x) stop s u e h = λ is. h (sym e ∙ is)

pub turns_stopped : (g : Basis) (t : Table) (whole : Part) (start : Run) (result : Result Turn ExecRefusal) (stop : ExecRefusal) (u : Run) → IsErrAnd result (λ e. e ≡ stop)
    → (stop ≡ TooHeavy → start.left < whole.weight) → Turns g t whole start result u
turns_stopped g t whole start (Ok x) stop u e h = absurd e
turns_stopped g t whole start (Err x) stop u e h = λ is. h (sym e ∙ is)

pub begins_ended : (g : Basis) (t : Table) (r : Part) (s u : Run) (x : Begun) (e : Ended) → x ≡ begun.Ended e → Begins g t r (Ok x) s u → Done r e s u
begins_ended g t r s u x e is h = subst (λ y. Begins g t r (Ok y) s u) is h

pub begins_within : (g : Basis) (t : Table) (r : Part) (s u : Run) (x : Begun) (a : Around) (i : Group) → x ≡ begun.Within a i → Begins g t r (Ok x) s u → Opens g t a i r s u
begins_within g t r s u x a i is h = subst (λ y. Begins g t r (Ok y) s u) is h

pub node_lift : (g : Basis) (t : Table) (q r : Part) (result : Result (Around × Group) ExecRefusal) (here before now : Run)
    → ((result : Result Ended ExecRefusal) (u : Run) → Executes q result here u → Executes r result before u) → BeginsNode g t q result here now → BeginsNode g t r result before now
node_lift g t q r (Ok w) here before now lift b = opens_lift g t w.0 w.1 q r here before now lift b
node_lift g t q r (Err stop) here before now lift b = lift (Err stop) now b

pub opens_hole : (g : Basis) (t : Table) (a : Around) (i : Group) (p : Part) (start : Run) (r : Part) (before now : Run) → Hole a p start r before → (now ≡ start) × Enters g t i p start
    → Opens g t a i r before now
opens_hole g t a i p start r before now hole e = subst (λ z. Opens g t a i r before z) (sym e.0) (record { inner = p; hole = hole; enters = e.1 })

-- what is reached for the value of a field or an item
module _ (g : Basis) (u : Table) (a : Around) (p : Part) (start : Run) (r : Part) (before : Run) (hole : Hole a p start r before) (now : Run) where
  pub content_inner : (x : Reached) (i : Group) → x ≡ reached.Inner i → Reaches g u p (Ok x) start now → Opens g u a i r before now
  content_inner x i is h = opens_hole g u a i p start r before now hole (subst (λ y. Reaches g u p (Ok y) start now) is h)

  pub content_stops : (stop : ExecRefusal) → Reaches g u p (Err stop) start now → stop ≡ TooHeavy → before.left < r.weight
  content_stops stop h is = hole_stops a p start r before hole (h is)

pub content_ended : (g : Basis) (u : Table) (p : Part) (start now : Run) (x : Reached) (e : Ended) → x ≡ reached.Ended e → Reaches g u p (Ok x) start now → Done p e start now
content_ended g u p start now x e is h = subst (λ y. Reaches g u p (Ok y) start now) is h

-- ---- the values of fields and items

module _ (s t : Run) (mark depth : ℕ) (required outer : Bool) (at : mark ≡ length s.out.items) (deep : depth ≡ length s.path.items) (out : t.out ≡ s.out) (errors : t.errors ≡ s.errors) (left : t.left ≡ s.left) where
  pub field_hole : (types : Types) (o : Object) (q : Pair) (f : FieldPlan) → q.0 ≡ planned_of f → required ≡ is_non_null (written f.of_type.now) → outer ≡ s.raised → t.raised ≡ false
      → t.path.items ≡ s.path.items ++ step.Key f.response_name ∷ []
      → Hole (record { mark = mark; depth = depth; is_required = required; is_field = true; outer = outer }) (called_part types o q (path_of t)) t (content_part types o q (path_of s)) s
  field_hole types o q f planned is was raised path =
      let name : f.response_name.now ≡ q.0.response_name = ap (λ (e : PlannedField). e.response_name) (sym planned) in
      let place : path_of t ≡ path_of s ++ key q.0.response_name ∷ [] = stepped s.path.items (step.Key f.response_name) t.path.items path ∙ ap (λ n. path_of s ++ key n ∷ []) name in
      let marked : required ≡ is_non_null q.0.of_type = is ∙ ap (λ (e : PlannedField). is_non_null e.of_type) (sym planned) in
      record {
        here = s;
        step = step.Key f.response_name;
        out = out;
        errors = errors;
        left = left;
        raised = (raised, was);
        path = path;
        mark = at;
        depth = deep;
        lifts = λ result u x. subst (λ r. Executes r result s u)
            (ap (λ b. settled (placed_by b (called_part types o q (path_of t)))) marked ∙ ap (λ p. settled (placed_part q.0.of_type (called_part types o q p))) place) x;
      }

  pub node_hole : (name : List ℕ) (site : Site) (i : ℕ) (n : Node) → required ≡ true → t.raised ≡ s.raised → t.path.items ≡ s.path.items ++ step.Index i ∷ []
      → Hole (record { mark = mark; depth = depth; is_required = required; is_field = false; outer = outer }) (value_part (on_node site name (path_of t) n)) t
      (content_of_node name site i n (path_of s)) s
  node_hole name site i n is raised path =
      let place : path_of t ≡ path_of s ++ index i ∷ [] = stepped s.path.items (step.Index i) t.path.items path in
      record {
        here = s;
        step = step.Index i;
        out = out;
        errors = errors;
        left = left;
        raised = raised;
        path = path;
        mark = at;
        depth = deep;
        lifts = λ result u x. subst (λ r. Executes r result s u)
            (ap (λ b. placed_by b (value_part (on_node site name (path_of t) n))) is ∙ ap (λ p. value_part (on_node site name p n)) place) x;
      }

  pub item_hole : (ty : Written) (site : Site) (i : ℕ) (d : Data) → required ≡ is_non_null ty → t.raised ≡ s.raised → t.path.items ≡ s.path.items ++ step.Index i ∷ []
      → Hole (record { mark = mark; depth = depth; is_required = required; is_field = false; outer = outer }) (value_part (complete site ty (path_of t) d)) t
      (content_of_item ty site i d (path_of s)) s
  item_hole ty site i d is raised path =
      let place : path_of t ≡ path_of s ++ index i ∷ [] = stepped s.path.items (step.Index i) t.path.items path in
      record {
        here = s;
        step = step.Index i;
        out = out;
        errors = errors;
        left = left;
        raised = raised;
        path = path;
        mark = at;
        depth = deep;
        lifts = λ result u x. subst (λ r. Executes r result s u)
            (ap (λ b. placed_by b (value_part (complete site ty (path_of t) d))) is ∙ ap (λ p. placed_part ty (value_part (complete site ty p d))) place) x;
      }

-- ---- fields

module _ (g : Basis) (t : Table) (f : FieldsFrame) (whole : Part) (start began now : Run) (at : AtFields g t f whole start began) (k : ℕ) (ended : Ended)
    (m : Midway (codes "{") (codes "}") (field_parts g f at.pairs start) k ended whole start now) where
  module _ (field : FieldPlan) (a : AtField g field k at.pairs) where
    fields_path : path_of now ≡ path_of start
    fields_path = ap (map segment_of) (midway_path (codes "{") (codes "}") (field_parts g f at.pairs start) k ended whole start now m)

    pub field_more : (e : Ended) (next : Run) → Done (field_part (types_of g) (object_in f.object) (path_of now) k a.pair) e now next
        → Midway (codes "{") (codes "}") (field_parts g f at.pairs start) (k + 1) (both ended e) whole start next
    field_more e next done = midway_more (codes "{") (codes "}") (field_parts g f at.pairs start) k ended whole start now m
        (field_part (types_of g) (object_in f.object) (path_of start) k a.pair) (numbered_within (field_part (types_of g) (object_in f.object) (path_of start)) at.pairs k a.within)
        (numbered_at (field_part (types_of g) (object_in f.object) (path_of start)) at.pairs k a.pair a.within a.here) e next
        (subst (λ p. Done (field_part (types_of g) (object_in f.object) p k a.pair) e now next) fields_path done)

    pub field_stops : now.left < (field_part (types_of g) (object_in f.object) (path_of now) k a.pair).weight → start.left < whole.weight
    field_stops heavy = midway_stops (codes "{") (codes "}") (field_parts g f at.pairs start) k ended whole start now m
        (field_part (types_of g) (object_in f.object) (path_of start) k a.pair) (numbered_within (field_part (types_of g) (object_in f.object) (path_of start)) at.pairs k a.within)
        (numbered_at (field_part (types_of g) (object_in f.object) (path_of start)) at.pairs k a.pair a.within a.here)
        (subst (λ p. now.left < (field_part (types_of g) (object_in f.object) p k a.pair).weight) fields_path heavy)

    pub field_pauses : (u : Table) (around : Around) (i : Group) (next : Run) → Grows t u
        → Opens g u around i (field_part (types_of g) (object_in f.object) (path_of now) k a.pair) now next
        → Pauses g u (record { group = group.Fields (record f { next = k + 1; ended = ended }); around = around }) i whole start next
    field_pauses u around i next more o = record {
      inner = o.inner;
      suspends = record {
        part = field_part (types_of g) (object_in f.object) (path_of now) k a.pair;
        before = now;
        hole = o.hole;
        goes_on = λ e v done. at_still g t u more (group.Fields (record f { next = k + 1; ended = both ended e })) whole start v (record {
          pairs = at.pairs;
          within = at.within;
          stand = at.stand;
          midway = field_more e v done;
        });
        stops = field_stops;
      };
      enters = o.enters;
    }

-- ---- items

-- what the items of a list are asked, by a table that has grown
pub item_asked : (g : Basis) (t : Table) (f : ItemsFrame) (whole : Part) (start now : Run) (at : AtItems g t f whole start now) (u : Table) → Grows t u
    → IsAsked g f.site (name_in (written f.item.now)) (below_at u f.site.slot) at.plan
item_asked g t f whole start now at u more = subst (λ xs. IsAsked g f.site (name_in (written f.item.now)) xs at.plan) (sym (below_still t u f.site.slot more at.within)) at.asked

module _ (g : Basis) (t : Table) (f : ItemsFrame) (whole : Part) (start began now : Run) (at : AtItems g t f whole start began) (k : ℕ) (ended : Ended)
    (m : Midway (codes "[") (codes "]") (item_parts f (site_of (types_of g) f.site.place at.plan) start) k ended whole start now) where
  items_path : path_of now ≡ path_of start
  items_path = ap (map segment_of) (midway_path (codes "[") (codes "]") (item_parts f (site_of (types_of g) f.site.place at.plan) start) k ended whole start now m)

  pub items_end : length (data_items f.items) ≤ k → (end : Run) → Follows (plain (codes "]")) now end → Done whole ended start end
  items_end all_done end closes = midway_ends (codes "[") (codes "]") (item_parts f (site_of (types_of g) f.site.place at.plan) start) k ended whole start now m
      (omega (arith, all_done, numbered_length (item_part (written f.item.now) (site_of (types_of g) f.site.place at.plan) (path_of start)) 0 (data_items f.items))) end closes

  module _ (d : Data) (is_item : k < length (data_items f.items)) (here : d ≡ get_or (data_items f.items) k d) where
    pub item_more : (e : Ended) (next : Run) → Done (item_part (written f.item.now) (site_of (types_of g) f.site.place at.plan) (path_of now) k d) e now next
        → Midway (codes "[") (codes "]") (item_parts f (site_of (types_of g) f.site.place at.plan) start) (k + 1) (both ended e) whole start next
    item_more e next done = midway_more (codes "[") (codes "]") (item_parts f (site_of (types_of g) f.site.place at.plan) start) k ended whole start now m
        (item_part (written f.item.now) (site_of (types_of g) f.site.place at.plan) (path_of start) k d)
        (numbered_within (item_part (written f.item.now) (site_of (types_of g) f.site.place at.plan) (path_of start)) (data_items f.items) k is_item)
        (numbered_at (item_part (written f.item.now) (site_of (types_of g) f.site.place at.plan) (path_of start)) (data_items f.items) k d is_item here) e next
        (subst (λ p. Done (item_part (written f.item.now) (site_of (types_of g) f.site.place at.plan) p k d) e now next) items_path done)

    pub item_stops : now.left < (item_part (written f.item.now) (site_of (types_of g) f.site.place at.plan) (path_of now) k d).weight → start.left < whole.weight
    item_stops heavy = midway_stops (codes "[") (codes "]") (item_parts f (site_of (types_of g) f.site.place at.plan) start) k ended whole start now m
        (item_part (written f.item.now) (site_of (types_of g) f.site.place at.plan) (path_of start) k d)
        (numbered_within (item_part (written f.item.now) (site_of (types_of g) f.site.place at.plan) (path_of start)) (data_items f.items) k is_item)
        (numbered_at (item_part (written f.item.now) (site_of (types_of g) f.site.place at.plan) (path_of start)) (data_items f.items) k d is_item here)
        (subst (λ p. now.left < (item_part (written f.item.now) (site_of (types_of g) f.site.place at.plan) p k d).weight) items_path heavy)

    pub item_pauses : (u : Table) (around : Around) (i : Group) (next : Run) → Grows t u
        → Opens g u around i (item_part (written f.item.now) (site_of (types_of g) f.site.place at.plan) (path_of now) k d) now next
        → Pauses g u (record { group = group.Items (record f { next = k + 1; ended = ended }); around = around }) i whole start next
    item_pauses u around i next more o = record {
      inner = o.inner;
      suspends = record {
        part = item_part (written f.item.now) (site_of (types_of g) f.site.place at.plan) (path_of now) k d;
        before = now;
        hole = o.hole;
        goes_on = λ e v done. at_still g t u more (group.Items (record f { next = k + 1; ended = both ended e })) whole start v (record {
          plan = at.plan;
          within = at.within;
          asked = at.asked;
          midway = item_more e v done;
        });
        stops = item_stops;
      };
      enters = o.enters;
    }

-- ---- nodes

module _ (g : Basis) (t : Table) (f : NodesFrame) (whole : Part) (start now : Run) (at : AtNodes g t f whole start now) where
  nodes_path : path_of now ≡ path_of start
  nodes_path = ap (map segment_of) (midway_path (codes "[") (codes "]") (node_parts g f (site_of (types_of g) at.place at.plan) start) f.next f.ended whole start now at.midway)

  pub nodes_end : flat_map option_to_list (drop f.passed (elements g.given.schema f.nodes)) ≡ [] → (end : Run) → Follows (plain (codes "]")) now end → Done whole f.ended start end
  nodes_end none end closes = midway_ends (codes "[") (codes "]") (node_parts g f (site_of (types_of g) at.place at.plan) start) f.next f.ended whole start now at.midway
      (let n = none_left (nodes_in g.given.schema f.nodes) f.next (at.rest ∙ none) in
      omega (arith, n, numbered_length (node_part f.name.now (site_of (types_of g) at.place at.plan) (path_of start)) 0 (nodes_in g.given.schema f.nodes))) end closes

  module _ (n : Node) (passed : ℕ) (is : flat_map option_to_list (drop f.passed (elements g.given.schema f.nodes))
      ≡ n ∷ flat_map option_to_list (drop passed (elements g.given.schema f.nodes))) where
    is_node : f.next < length (nodes_in g.given.schema f.nodes)
    is_node = within_rest (nodes_in g.given.schema f.nodes) f.next n (flat_map option_to_list (drop passed (elements g.given.schema f.nodes))) (at.rest ∙ is)

    here_node : n ≡ get_or (nodes_in g.given.schema f.nodes) f.next n
    here_node = here_rest (nodes_in g.given.schema f.nodes) f.next n (flat_map option_to_list (drop passed (elements g.given.schema f.nodes))) (at.rest ∙ is)

    node_more : (e : Ended) (next : Run) → Done (node_part f.name.now (site_of (types_of g) at.place at.plan) (path_of now) f.next n) e now next
        → Midway (codes "[") (codes "]") (node_parts g f (site_of (types_of g) at.place at.plan) start) (f.next + 1) (both f.ended e) whole start next
    node_more e next done = midway_more (codes "[") (codes "]") (node_parts g f (site_of (types_of g) at.place at.plan) start) f.next f.ended whole start now at.midway
        (node_part f.name.now (site_of (types_of g) at.place at.plan) (path_of start) f.next n)
        (numbered_within (node_part f.name.now (site_of (types_of g) at.place at.plan) (path_of start)) (nodes_in g.given.schema f.nodes) f.next is_node)
        (numbered_at (node_part f.name.now (site_of (types_of g) at.place at.plan) (path_of start)) (nodes_in g.given.schema f.nodes) f.next n is_node here_node) e next
        (subst (λ p. Done (node_part f.name.now (site_of (types_of g) at.place at.plan) p f.next n) e now next) nodes_path done)

    pub node_stops : now.left < (node_part f.name.now (site_of (types_of g) at.place at.plan) (path_of now) f.next n).weight → start.left < whole.weight
    node_stops heavy = midway_stops (codes "[") (codes "]") (node_parts g f (site_of (types_of g) at.place at.plan) start) f.next f.ended whole start now at.midway
        (node_part f.name.now (site_of (types_of g) at.place at.plan) (path_of start) f.next n)
        (numbered_within (node_part f.name.now (site_of (types_of g) at.place at.plan) (path_of start)) (nodes_in g.given.schema f.nodes) f.next is_node)
        (numbered_at (node_part f.name.now (site_of (types_of g) at.place at.plan) (path_of start)) (nodes_in g.given.schema f.nodes) f.next n is_node here_node)
        (subst (λ p. now.left < (node_part f.name.now (site_of (types_of g) at.place at.plan) p f.next n).weight) nodes_path heavy)

    pub node_pauses : (u : Table) (around : Around) (i : Group) (next : Run) → Grows t u
        → Opens g u around i (node_part f.name.now (site_of (types_of g) at.place at.plan) (path_of now) f.next n) now next
        → Pauses g u (record { group = group.Nodes (record f { passed = passed; next = f.next + 1 }); around = around }) i whole start next
    node_pauses u around i next more o = record {
      inner = o.inner;
      suspends = record {
        part = node_part f.name.now (site_of (types_of g) at.place at.plan) (path_of now) f.next n;
        before = now;
        hole = o.hole;
        goes_on = λ e v done. at_still g t u more (group.Nodes (record f { passed = passed; next = f.next + 1; ended = both f.ended e })) whole start v (record {
          plan = at.plan;
          place = at.place;
          within = at.within;
          asked = at.asked;
          rest = after_picked (nodes_in g.given.schema f.nodes) f.next n (flat_map option_to_list (drop passed (elements g.given.schema f.nodes))) (at.rest ∙ is);
          midway = node_more e v done;
        });
        stops = node_stops;
      };
      enters = o.enters;
    }

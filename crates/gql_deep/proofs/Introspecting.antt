-- How the calls that complete what introspection answers come together.
use Rattle.std.proofs.Common.{◌≡◌, ℕ, List, true, Some, Result, refl, sym, ap, subst, ◌∙◌}
use Rattle.gql_collect.specs.Nodes.{FileSelection}
use Rattle.gql_inputs.specs.InputTypes.{name_in}
use Rattle.gql_intro.specs.Nodes as intro
use Rattle.gql_intro.specs.Nodes.{Node}
use Rattle.gql_text.specs.declared.place.Place.{Place}
use Rattle.gql_types.specs.Written.{Written}
use Rattle.serde_json.specs.Data as json
use Rattle.gql_steps.specs.Execution.{Plan, plan, Site, complete, described, execute, no_fields, on_answer}
use Rattle.gql_deep.specs.Frames.{DoesReach, Reaches}
use Rattle.gql_steps.specs.Parts.{Part}
use Rattle.gql_steps.specs.Plans.{Basis, IsPlan, is_met, types_of}
use Rattle.gql_steps.specs.States.{path_of}
use Rattle.gql_steps.specs.Texts.{value_part}
use Rattle.gql_steps.specs.ValueParts.{node_list_part, site_of}
use Rattle.gql_deep.specs.declared.frames.Reached.{Reached}
use Rattle.gql_steps.specs.declared.refusal.ExecRefusal.{ExecRefusal}
use Rattle.gql_steps.specs.declared.run.Run.{Run}
use Rattle.gql_steps.specs.declared.table.Table.{Table}
use Rattle.gql_steps.proofs.Completing.{answer_nodes}
use Rattle.gql_deep.proofs.Entering.{as_reached}
use Rattle.gql_steps.proofs.Executing.{met_itself}

-- what is written for an answer to a field of this type, which is at this place
abbrev pub answer_text : Basis → Place → Written → Run → Plan → intro.Answer → Part
answer_text g place t s x a = value_part (on_answer (site_of (types_of g) place x) t (path_of s) (Some a))

-- a site at this place
abbrev pub any_site : Basis → Place → Site
any_site g place = site_of (types_of g) place (plan (λ t. no_fields))

module _ (g : Basis) (table : Table) (place : Place) (t : Written) (xs : List FileSelection) (result : Result Reached ExecRefusal) (s u : Run) where
  -- an answer of this form, for which this is written
  pub at_answer : (a b : intro.Answer) (r : Part) → a ≡ b → ((site : Site) → value_part (on_answer site t (path_of s) (Some b)) ≡ r) → Reaches g table r result s u
      → (x : Plan) → IsPlan g (name_in t) xs x → Reaches g table (answer_text g place t s x a) result s u
  at_answer a b r e is done = λ x i. as_reached g table (answer_text g place t s x a) r result s u (ap (answer_text g place t s x) e ∙ is (site_of (types_of g) place x)) done

  pub at_null : (a : intro.Answer) → a ≡ intro.null → ((site : Site) → site.place ≡ place → Reaches g table (value_part (complete site t (path_of s) json.null)) result s u)
      → (x : Plan) → IsPlan g (name_in t) xs x → Reaches g table (answer_text g place t s x a) result s u
  at_null a e done = λ x i. as_reached g table (answer_text g place t s x a) (value_part (complete (site_of (types_of g) place x) t (path_of s) json.null)) result s u
      (ap (answer_text g place t s x) e) (done (site_of (types_of g) place x) refl)

  pub at_node : (a : intro.Answer) (n : Node) (name : List ℕ) → a ≡ intro.node n → name ≡ name_in t
      → ((other : List ℕ) → is_met g name other ≡ true → (x : Plan) → IsPlan g other xs x → Reaches g table (value_part (execute (types_of g) x name (path_of s) (described n))) result s u)
      → (x : Plan) → IsPlan g (name_in t) xs x → Reaches g table (answer_text g place t s x a) result s u
  at_node a n name e is done = λ x i. as_reached g table (answer_text g place t s x a) (value_part (execute (types_of g) x name (path_of s) (described n))) result s u
      (ap (answer_text g place t s x) e ∙ ap (λ m. value_part (execute (types_of g) x m (path_of s) (described n))) (sym is))
      (done (name_in t) (subst (λ m. is_met g m (name_in t) ≡ true) (sym is) (met_itself g (name_in t))) x i)

  pub at_nodes : (a : intro.Answer) (ns : List Node) (name : List ℕ) → a ≡ intro.nodes ns → name ≡ name_in t
      → DoesReach g table name xs (λ site. node_list_part name site ns (path_of s)) result s u
      → (x : Plan) → IsPlan g (name_in t) xs x → Reaches g table (answer_text g place t s x a) result s u
  at_nodes a ns name e is done = λ x i. as_reached g table (answer_text g place t s x a) (node_list_part name (site_of (types_of g) place x) ns (path_of s)) result s u
      (ap (answer_text g place t s x) e ∙ answer_nodes (site_of (types_of g) place x) t (path_of s) ns ∙ ap (λ m. node_list_part m (site_of (types_of g) place x) ns (path_of s)) (sym is))
      (done x place (subst (λ m. IsPlan g m xs x) (sym is) i))

-- Helper definitions for private contracts: what is written for the root fields of a mutation.
use Rattle.std.specs.Prelude.{◌≡◌, ℕ, List, [], ◌∷◌, ◌++◌, codes, flat_map, map, Option, Some, None}
use Rattle.std.proofs.Common.{◌⊎◌}
use Rattle.json.specs.Print.{quoted}
use Rattle.gql_types.specs.Schemas.{append_of}
use Rattle.serde_json.specs.Data.{Data}
use Rattle.serde_json.specs.View.{view}
use Rattle.gql_stored.specs.Effects.{Effect}
use Rattle.gql_stored.specs.Rooms.{effect_of as seen_effect}
use Rattle.gql_steps.specs.Execution.{Appending, Object, PlannedField, Plan, Types, added, effect_of, given, refused, root_value}
use Rattle.gql_steps.specs.Objects.{object_of}
use Rattle.gql_steps.specs.Parts.{Part, after_comma, all, counted, followed_by, numbered, plain, settled, within}
use Rattle.gql_steps.specs.Plans.{Basis}
use Rattle.gql_steps.specs.Replies.{Path, key}
use Rattle.gql_steps.specs.Tables.{called_of}
use Rattle.gql_steps.specs.Texts.{value_part}
use Rattle.gql_steps.specs.ValueParts.{placed_part, site_of}
use Rattle.gql_exec.specs.declared.mutation.Addition.{Addition}
use Rattle.gql_exec.specs.declared.mutation.Root.{Root as TheRoot}
use Rattle.gql_stored.specs.declared.effect.Effect.{Effect as TheEffect}
use Rattle.gql_steps.specs.declared.planning.FieldPlan.{FieldPlan}

-- what root fields of a mutation are executed on: the lists to which they append, by name, the
-- data, and the initial value
pub record Root : Type 0 where
  pub appending : Appending
  pub stored : Data
  pub initial : Object

-- what is written for the value of a root field, at this path
abbrev pub root_called : Types → Root → PlannedField × Plan → Path → Part
root_called types r q p = value_part (root_value (site_of types q.0.place q.1) r.stored q.0
    (r.appending q.0.name) q.0.arguments p r.initial)

-- what is written for the value of a root field, with its own errors
abbrev pub root_content : Types → Root → PlannedField × Plan → Path → Part
root_content types r q p = settled (placed_part q.0.of_type
    (root_called types r q (p ++ key q.0.response_name ∷ [])))

-- what is written for a root field: its response name and its value
abbrev pub root_member : Types → Root → PlannedField × Plan → Path → Part
root_member types r q p =
    followed_by (plain (quoted q.0.response_name ++ codes ":")) (root_content types r q p)

-- what is written for the root field of this number
abbrev pub root_field : Types → Root → Path → ℕ → PlannedField × Plan → Part
root_field types r p i q = after_comma i (counted (root_member types r q p))

-- what is written for these root fields
abbrev pub root_fields : Types → Root → List (PlannedField × Plan) → Path → Part
root_fields types r qs p = all (numbered (root_field types r p) 0 qs)

-- what is written for a mutation with these root fields
abbrev pub root_part : Types → Root → List (PlannedField × Plan) → Path → Part
root_part types r qs p = within (codes "{") (root_fields types r qs p) (codes "}")

-- what a root field adds to the data
abbrev pub effect_in : Root → PlannedField × Plan → List Effect
effect_in r q = effect_of r.stored (r.appending q.0.name) q.0.arguments

-- what these root fields add to the data, in their order
abbrev pub effects_in : Root → List (PlannedField × Plan) → List Effect
effects_in r qs = flat_map (effect_in r) qs

-- effects of the code, as specifications see them
abbrev pub seen : List TheEffect → List Effect
seen es = map seen_effect es

-- ---- root fields that add their arguments, d are the data, to a list

-- what is written for the value of a field that adds these arguments to the list of this name
abbrev pub added_content : Types → Data → List ℕ → Data → PlannedField × Plan → Path → Part
added_content types d to arguments q p = settled (placed_part q.0.of_type (value_part
    (added (site_of types q.0.place q.1) d q.0 to arguments (p ++ key q.0.response_name ∷ []))))

-- what is written for such a field: its response name and its value
abbrev pub added_member : Types → Data → List ℕ → Data → PlannedField × Plan → Path → Part
added_member types d to arguments q p = followed_by
    (plain (quoted q.0.response_name ++ codes ":")) (added_content types d to arguments q p)

-- what is written for the field of this number, if it is such a field
abbrev pub added_field : Types → Data → List ℕ → Data → Path → ℕ → PlannedField × Plan → Part
added_field types d to arguments p i q =
    after_comma i (counted (added_member types d to arguments q p))

-- what a root field adds, if it adds something
abbrev pub IsAddition : Basis → List ℕ → FieldPlan → Option Addition → Type 0
IsAddition g t f (Some a) = (append_of g.given.schema t f.name.now ≡ Some a.to.now)
    × (called_of f.arguments ≡ given (view a.arguments.now))
IsAddition g t f None = (append_of g.given.schema t f.name.now ≡ None)
    ⊎ ((m : List ℕ) × (called_of f.arguments ≡ refused m))

-- what root fields are executed on, as specifications see it
abbrev pub root_of : Basis → TheRoot → Root
root_of g r = record {
  appending = append_of g.given.schema r.of_type.now;
  stored = view r.stored.now;
  initial = object_of r.initial;
}

-- A mutation field by field (GraphQL specification, 6.2.2 and 6.3): its root fields are executed one
-- after the other, each on the data that the fields before it left. The law `mutations` says that
-- this is exactly what contracts cite: `execute_root` and `mutation_answer` of gql_steps, by which all
-- root fields are executed on the data before the mutation, and what they add is added afterwards.
use Rattle.std.specs.Prelude.{◌≡◌, ℕ, List, [], ◌++◌}
use Rattle.gql_ast.specs.declared.executable.OperationKind.TheVariants as operation
use Rattle.gql_types.specs.Schemas.{append_of}
use Rattle.serde_json.specs.Data as json
use Rattle.serde_json.specs.Data.{Data}
use Rattle.gql_stored.specs.Effects.{Effect, after}
use Rattle.gql_steps.specs.Execution.{Answer, Appending, Fields, no_fields, field, Object, stored, Plan, plan, PlannedField, Types, added_by, answered, each_root, effects_of, execute_root, members_of, mutation_answer}
use Rattle.gql_steps.specs.Plans.{Basis, types_of}
use Rattle.gql_steps.specs.Replies.{Path, Reply, all, mapped}
use Rattle.gql_steps.specs.Requests.{answer_for, initial_value}

-- ---- one root field

-- a field alone, with what it selects
abbrev pub alone : PlannedField → Plan → Fields
alone f below = field f below no_fields

-- the object on which a root field is executed, if the data are d then
abbrev pub initial : Data → Object
initial d = stored (initial_value operation.Mutation d)

-- the value of a root field under its response name, executed on the data d
abbrev pub executed_on : Types → Appending → Data → PlannedField → Plan → Path
    → List (Reply (List ℕ × Data))
executed_on types appending d f below p =
    each_root types appending d (alone f below) p (initial d)

-- what a root field adds to the data d
abbrev pub added_to : Appending → Data → PlannedField → Plan → List Effect
added_to appending d f below = effects_of appending d (alone f below)

-- the data that a root field leaves of the data d
abbrev pub left_of : Appending → Data → PlannedField → Plan → Data
left_of appending d f below = after (added_to appending d f below) d

-- ---- root fields, one after the other, from the data d on

-- the value of each, under its response name
abbrev pub values_in_turn : Types → Appending → Data → Fields → Path
    → List (Reply (List ℕ × Data))
values_in_turn types appending d no_fields p = []
values_in_turn types appending d (field f below rest) p =
    executed_on types appending d f below p
    ++ values_in_turn types appending (left_of appending d f below) rest p

-- what they add, in their order
abbrev pub effects_in_turn : Appending → Data → Fields → List Effect
effects_in_turn appending d no_fields = []
effects_in_turn appending d (field f below rest) = added_to appending d f below
    ++ effects_in_turn appending (left_of appending d f below) rest

-- the data that they leave
abbrev pub data_in_turn : Appending → Data → Fields → Data
data_in_turn appending d no_fields = d
data_in_turn appending d (field f below rest) =
    data_in_turn appending (left_of appending d f below) rest

-- ---- a mutation: the fields that its plan has for the root type

-- its value, at this path
abbrev pub root_in_turn : Types → Appending → Plan → List ℕ → Data → Path → Reply Data
root_in_turn types appending (plan fields) t d p = mapped (λ ms. json.object (members_of ms))
    (all (values_in_turn types appending d (fields t) p))

-- what it adds
abbrev pub added_in_turn : Appending → Plan → List ℕ → Data → List Effect
added_in_turn appending (plan fields) t d = effects_in_turn appending d (fields t)

-- its answer (ExecuteMutation)
abbrev pub answer_in_turn : Types → Appending → Plan → List ℕ → Data → Answer
answer_in_turn types appending x t d =
    answered (added_in_turn appending x t d) (root_in_turn types appending x t d [])

-- the data that it leaves
abbrev pub left_in_turn : Appending → Plan → List ℕ → Data → Data
left_in_turn appending (plan fields) t d = data_in_turn appending d (fields t)

-- ---- laws

-- the value of a mutation is the one that its root fields have, one after the other
abbrev pub ValueInTurn : Type 0
ValueInTurn = (types : Types) (appending : Appending) (x : Plan) (t : List ℕ) (d : Data) (p : Path)
    → execute_root types appending x t d p (initial d) ≡ root_in_turn types appending x t d p

-- and what it adds is what these add
abbrev pub EffectsInTurn : Type 0
EffectsInTurn = (appending : Appending) (x : Plan) (t : List ℕ) (d : Data)
    → added_by appending x t d ≡ added_in_turn appending x t d

-- the answer of a mutation is the one field by field, with its errors, its weight and its effects
abbrev pub AnswerInTurn : Type 0
AnswerInTurn = (types : Types) (appending : Appending) (x : Plan) (t : List ℕ) (d : Data)
    → mutation_answer types appending x t d (initial_value operation.Mutation d)
    ≡ answer_in_turn types appending x t d

-- the answer of a request of a mutation is the one field by field
abbrev pub RequestInTurn : Type 0
RequestInTurn = (g : Basis) (x : Plan) (t : List ℕ) (d : Data)
    → answer_for operation.Mutation g x t d
    ≡ answer_in_turn (types_of g) (append_of g.given.schema t) x t d

-- with the effects of such a request, the data are those that its root fields leave, one after the
-- other
abbrev pub DataInTurn : Type 0
DataInTurn = (g : Basis) (x : Plan) (t : List ℕ) (d : Data)
    → after (answer_for operation.Mutation g x t d).effects d
    ≡ left_in_turn (append_of g.given.schema t) x t d

-- A mutation is executed as it is field by field: what a root field adds changes neither the object
-- on which the fields after it are executed nor which lists the data have.
use Rattle.std.proofs.Common.{◌≡◌, ℕ, List, [], ◌∷◌, ◌++◌, true, false, true≢false, codes, bytes_eq, unwrap_or, Option, Some, None, is_some, refl, ap, sym, ◌∙◌, append_assoc, append-nil, if◌then◌else◌}
use Rattle.std.proofs.lemmas.Slice.Eq.{bytes_eq-Decides}
use Rattle.gql_ast.specs.declared.executable.OperationKind.TheVariants as operation
use Rattle.gql_types.specs.Schemas.{append_of}
use Rattle.serde_json.specs.Data as json
use Rattle.serde_json.specs.Data.{Data}
use Rattle.gql_stored.specs.Effects.{Effect, after, list_named}
use Rattle.gql_stored.proofs.Lasting.{in_sequence, lists_stay, members_last}
use Rattle.gql_steps.specs.Execution.{Appending, Arguments, given, refused, Fields, no_fields, field, Object, stored, Plan, plan, PlannedField, Site, Types, answered, complete, each_root, effect_of, effects_of, execute, execute_root, fault, members_of, mutation_answer, root_value, under_name}
use Rattle.gql_steps.specs.Plans.{Basis, types_of}
use Rattle.gql_steps.specs.Replies.{Path, Reply, all, key, mapped}
use Rattle.gql_steps.specs.Requests.{answer_for, initial_value}
use Rattle.gql_cases.specs.Mutations.{AnswerInTurn, DataInTurn, EffectsInTurn, RequestInTurn, ValueInTurn, added_in_turn, added_to, data_in_turn, effects_in_turn, initial, left_of, root_in_turn, values_in_turn}

-- ---- what effects leave as it is

other_member : codes "mutation" ≡ codes "query" → ⊥
other_member e = true≢false (sym ((bytes_eq-Decides (codes "mutation") (codes "query")).1 e))

initial_stays : (es : List Effect) (d : Data) → initial (after es d) ≡ initial d
initial_stays es d = ap (λ (o : Option Data). stored (unwrap_or o (json.object json.no_members))) (members_last es d (codes "mutation") other_member)

-- the data e have the lists that the data d have
abbrev HaveLists : Data → Data → Type 0
HaveLists e d = (to : List ℕ) → is_some (list_named to e) ≡ is_some (list_named to d)

-- ---- root fields on data with the same lists

value_same : (s : Site) (e d : Data) → HaveLists e d → (f : PlannedField) (to : Option (List ℕ)) (a : Arguments) (p : Path) (o : Object)
    → root_value s e f to a p o ≡ root_value s d f to a p o
value_same s e d lists f (Some to) (given a) p o = ap (λ b. if b then complete s f.of_type p a else fault s p (codes "no list named " ++ to)) (lists to)
value_same s e d lists f (Some to) (refused m) p o = refl
value_same s e d lists f None a p o = refl

values_same : (types : Types) (appending : Appending) (e d : Data) → HaveLists e d → (fs : Fields) (p : Path) (o : Object)
    → each_root types appending e fs p o ≡ each_root types appending d fs p o
values_same types appending e d lists no_fields p o = refl
values_same types appending e d lists (field f below rest) p o =
    let s : Site = record { types = types; place = f.place; below = execute types below } in
    ap (λ r. under_name f r ∷ each_root types appending e rest p o) (value_same s e d lists f (appending f.name) f.arguments (p ++ key f.response_name ∷ []) o)
    ∙ ap (λ rs. under_name f (root_value s d f (appending f.name) f.arguments (p ++ key f.response_name ∷ []) o) ∷ rs) (values_same types appending e d lists rest p o)

effect_same : (e d : Data) → HaveLists e d → (to : Option (List ℕ)) (a : Arguments) → effect_of e to a ≡ effect_of d to a
effect_same e d lists (Some to) (given a) = ap (λ b. let x : Effect = record { to = to; value = a } in if b then x ∷ [] else []) (lists to)
effect_same e d lists (Some to) (refused m) = refl
effect_same e d lists None a = refl

effects_same : (appending : Appending) (e d : Data) → HaveLists e d → (fs : Fields) → effects_of appending e fs ≡ effects_of appending d fs
effects_same appending e d lists no_fields = refl
effects_same appending e d lists (field f below rest) =
    ap (λ es. es ++ effects_of appending e rest) (effect_same e d lists (appending f.name) f.arguments)
    ∙ ap (λ es. effect_of d (appending f.name) f.arguments ++ es) (effects_same appending e d lists rest)

-- ---- root fields after effects

values_after : (types : Types) (appending : Appending) (es : List Effect) (d : Data) (fs : Fields) (p : Path)
    → each_root types appending (after es d) fs p (initial (after es d)) ≡ each_root types appending d fs p (initial d)
values_after types appending es d fs p = ap (each_root types appending (after es d) fs p) (initial_stays es d)
    ∙ values_same types appending (after es d) d (lists_stay es d) fs p (initial d)

effects_after : (appending : Appending) (es : List Effect) (d : Data) (fs : Fields) → effects_of appending (after es d) fs ≡ effects_of appending d fs
effects_after appending es d fs = effects_same appending (after es d) d (lists_stay es d) fs

-- ---- one after the other

values_are : (types : Types) (appending : Appending) (d : Data) (fs : Fields) (p : Path) → each_root types appending d fs p (initial d) ≡ values_in_turn types appending d fs p
values_are types appending d no_fields p = refl
values_are types appending d (field f below rest) p =
    let s : Site = record { types = types; place = f.place; below = execute types below } in
    ap (λ rs. under_name f (root_value s d f (appending f.name) f.arguments (p ++ key f.response_name ∷ []) (initial d)) ∷ rs)
    (sym (values_after types appending (added_to appending d f below) d rest p) ∙ values_are types appending (left_of appending d f below) rest p)

-- what a field adds, alone
added_alone : (appending : Appending) (d : Data) (f : PlannedField) (below : Plan) → added_to appending d f below ≡ effect_of d (appending f.name) f.arguments
added_alone appending d f below = append-nil (effect_of d (appending f.name) f.arguments)

effects_next : (appending : Appending) (d : Data) (f : PlannedField) (below : Plan) (rest : Fields)
    → effects_of appending d (field f below rest) ≡ added_to appending d f below ++ effects_of appending (left_of appending d f below) rest
effects_next appending d f below rest =
    ap (λ es. es ++ effects_of appending d rest) (sym (added_alone appending d f below))
    ∙ ap (λ es. added_to appending d f below ++ es) (sym (effects_after appending (added_to appending d f below) d rest))

effects_are : (appending : Appending) (d : Data) (fs : Fields) → effects_of appending d fs ≡ effects_in_turn appending d fs
effects_are appending d no_fields = refl
effects_are appending d (field f below rest) = effects_next appending d f below rest
    ∙ ap (λ es. added_to appending d f below ++ es) (effects_are appending (left_of appending d f below) rest)

data_are : (appending : Appending) (d : Data) (fs : Fields) → after (effects_of appending d fs) d ≡ data_in_turn appending d fs
data_are appending d no_fields = refl
data_are appending d (field f below rest) = ap (λ es. after es d) (effects_next appending d f below rest)
    ∙ in_sequence (added_to appending d f below) (effects_of appending (left_of appending d f below) rest) d
    ∙ data_are appending (left_of appending d f below) rest

-- ---- laws

pub value_in_turn : ValueInTurn
value_in_turn types appending (plan fields) t d p = ap (λ rs. mapped (λ ms. json.object (members_of ms)) (all rs)) (values_are types appending d (fields t) p)

pub effects_in_turn_are : EffectsInTurn
effects_in_turn_are appending (plan fields) t d = effects_are appending d (fields t)

pub answer_in_turn_is : AnswerInTurn
answer_in_turn_is types appending x t d = ap (λ es. answered es (execute_root types appending x t d [] (initial d))) (effects_in_turn_are appending x t d)
    ∙ ap (answered (added_in_turn appending x t d)) (value_in_turn types appending x t d [])

pub request_in_turn : RequestInTurn
request_in_turn g x t d = answer_in_turn_is (types_of g) (append_of g.given.schema t) x t d

pub data_left : DataInTurn
data_left g (plan fields) t d = data_are (append_of g.given.schema t) d (fields t)

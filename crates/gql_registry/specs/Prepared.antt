-- Runs that are prepared, and what calls of the code come to, as contracts see them.
use Rattle.std.specs.Prelude.{ℕ, List, map, Result, Ok, Err}
use Rattle.gql_registry.specs.Calls.{CallOutcome}
use Rattle.gql_registry.specs.declared.calling.Ran.{Ran}
use Rattle.gql_registry.specs.declared.refusal.Refusal.{Refusal}
use Rattle.gql_registry.specs.declared.runs.Prepared.{Prepared}
use Rattle.gql_registry.specs.declared.registry.Registry.{Registry}
use Rattle.gql_registry.specs.declared.runs.Reply.{Reply}
use Rattle.gql_stored.specs.Effects.{Effect}
use Rattle.gql_stored.specs.Rooms as rooms
use Rattle.gql_stored.specs.Rooms.{effect_of}

-- the text of the reply of a prepared run
abbrev pub body_of : Prepared → List ℕ
body_of p = p.reply.body.items

-- what a prepared run is to add to the data, in order
abbrev pub added_by : Prepared → List Effect
added_by p = rooms.effects_of p.additions

-- The run was prepared on this registry, and there is room for what it is to add. It stays so until
-- the data are changed.
abbrev pub IsPreparedFor : Registry → Prepared → Type 0
IsPreparedFor r p = rooms.IsPreparedFor r.stored p.additions

-- what a prepared run comes to, or the refusal
abbrev pub prepared_of : Result Prepared Refusal → Result CallOutcome Refusal
prepared_of (Ok p) = Ok (record { text = body_of p; effects = added_by p })
prepared_of (Err r) = Err r

-- the text of a reply, or the refusal
abbrev pub answer_of : Result Reply Refusal → Result (List ℕ) Refusal
answer_of (Ok reply) = Ok reply.body.items
answer_of (Err r) = Err r

-- what an executed call comes to, as specifications see it
abbrev pub outcome_of : Ran → CallOutcome
outcome_of ran = record { text = ran.body.items; effects = map effect_of ran.effects.items }

-- the same, or the refusal
abbrev pub ran_of : Result Ran Refusal → Result CallOutcome Refusal
ran_of (Ok ran) = Ok (outcome_of ran)
ran_of (Err r) = Err r

-- What an edit examines: the new entries of its meter.
use Rattle.std.specs.Prelude.{◌≡◌, ◌⊎◌, ℕ, List, Option, Result, Ok, Err}
use Rattle.gql_ast.specs.declared.definition.DefinitionId.{DefinitionId}
use Rattle.gql_registry.specs.Edits.{Accepts, Edit}
use Rattle.gql_registry.specs.Keeping.{IsWholeWorkOn, IsWorkOn}
use Rattle.gql_registry.specs.State.{State}
use Rattle.gql_registry.specs.declared.change.EditRefusal.{EditRefusal}
use Rattle.gql_registry.specs.declared.refusal.Refusal.{Refusal}
use Rattle.gql_registry.specs.declared.refusal.Refusal.TheVariants.{Memory}
use Rattle.gql_registry.specs.declared.registry.Edited.{Edited}
use Rattle.gql_verdict.specs.Verdicts.{Judgement}

-- what an edit examines if it is refused with this: nothing; or, if an allocation fails and all
-- checks are passed, some of what it would have examined
abbrev pub WorksInVain : State → Option ℕ → List Judgement → Edit → Refusal → List DefinitionId
    → List DefinitionId → Type 0
WorksInVain s expected shelf e Memory old new = (new ≡ old)
    ⊎ ((t : State) × Accepts s expected e t × IsWorkOn t.files shelf old new)
WorksInVain s expected shelf e r old new = new ≡ old

-- What an edit of the state s examines, if the registry kept these verdicts and the edit leaves t.
-- An accepted edit examines exactly the definitions that are due in the files that it leaves, each
-- once. A refused edit examines nothing, unless it passes all its checks and then an allocation
-- fails.
abbrev pub Works : State → Option ℕ → List Judgement → Edit → Result Edited EditRefusal → State
    → List DefinitionId → List DefinitionId → Type 0
Works s expected shelf e (Ok edited) t old new = IsWholeWorkOn t.files shelf old new
Works s expected shelf e (Err r) t old new = WorksInVain s expected shelf e r.refusal old new

-- Helper definitions for private contracts: the members of a batch.
use Rattle.std.specs.Prelude.{Option, option_map}
use Rattle.std.specs.Borrow.{Bor}
use Rattle.serde_json.specs.Data.{Data}
use Rattle.serde_json.specs.View.{view}
use Rattle.serde_json.specs.declared.value.Value.{Value}

-- the value of a member, if it is there
abbrev pub datum : Option (Bor Value) → Option Data
datum = option_map (λ v. view v.now)

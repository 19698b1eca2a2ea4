-- How long the bodies of requests may be, and the names of files in their targets.
use Rattle.std.specs.Prelude.{ℕ, List, Bool, true, min, ◌==◌, Option, Some, None}
use Rattle.std.specs.List.{list_all}
use Rattle.gql_ast.specs.declared.profile.Profile.{Profile}
use Rattle.gql_registry.specs.State.{State, profile_of}
use Rattle.gql_wire.specs.Framing.{Framing}
use Rattle.gql_wire.specs.Head.{greatest_body_limit}

-- the most bytes of a body: as many as the profile takes, and no more than a framer can be given
abbrev pub body_limit_of : Profile → ℕ
body_limit_of profile = min profile.limits.body greatest_body_limit

-- the most bytes of a body in this state
abbrev pub limit_in : State → ℕ
limit_in s = body_limit_of (profile_of s)

-- whether a framer has this limit, if there is one
abbrev pub has_limit : ℕ → Option Framing → Bool
has_limit limit None = true
has_limit limit (Some framer) = framer.limit == limit

-- whether each of the framers has this limit
abbrev pub all_have_limit : ℕ → List (Option Framing) → Bool
all_have_limit limit = list_all (has_limit limit)

-- the bytes that a framer holds, if there is one
abbrev pub bytes_of : Option Framing → Option (List ℕ)
bytes_of None = None
bytes_of (Some framer) = Some framer.bytes

use Rattle.std.proofs.Common.{option_map}
use Rattle.std.specs.Option.{option_copied}
use Rattle.gql_types.specs.Written.{written}
use Rattle.gql_coerce.specs.Coercion.{coerced}
use Rattle.gql_coerce.specs.Frames.{Holds, frames_of, focus_at}
use Rattle.gql_coerce.specs.Parts.{input_of}
use Rattle.gql_coerce.proofs.walk.coerce.Given as goal

abbrev pub invariant-steps : goal.invariant-steps
invariant-steps l = Holds l.schema (λ n. coerced n l.schema (input_of l.part) (option_map written (option_copied l.expected))) (frames_of l.stack.items) (λ n. focus_at n l.schema l.focus)

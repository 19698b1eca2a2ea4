-- The exit statuses of a program that runs a pipe.
use Rattle.std.specs.Prelude.{ℕ, Result, Ok, Err}
use Rattle.gql_http.specs.declared.piping.PipeEnd.{PipeEnd}
use Rattle.gql_http.specs.declared.piping.PipeEnd.TheVariants.{Whole, Rest}
use Rattle.gql_http.specs.declared.piping.PipeFault.{PipeFault}
use Rattle.gql_http.specs.declared.piping.PipeFault.TheVariants.{ReadFailed, WriteFailed, TooManyReads, Memory}

-- the exit status for the end of a pipe
abbrev pub status : Result PipeEnd PipeFault → ℕ
status (Ok Whole) = 0
status (Ok Rest) = 3
status (Err ReadFailed) = 1
status (Err WriteFailed) = 1
status (Err TooManyReads) = 1
status (Err Memory) = 4

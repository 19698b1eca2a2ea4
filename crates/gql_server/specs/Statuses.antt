-- The exit status of a program that serves connections.
use Rattle.std.specs.Prelude.{ℕ, Result, Ok, Err}
use Rattle.gql_server.specs.declared.fault.ServeFault.{ServeFault}
use Rattle.gql_server.specs.declared.fault.ServeFault.TheVariants as fault

-- 0 if all connections were served, 4 if an allocation failed, and 1 for any other fault
abbrev pub serve_status : Result (Unit {0}) ServeFault → ℕ
serve_status (Ok done) = 0
serve_status (Err fault.ListenFailed) = 1
serve_status (Err fault.ReportFailed) = 1
serve_status (Err fault.AcceptFailed) = 1
serve_status (Err fault.WaitFailed) = 1
serve_status (Err fault.Memory) = 4

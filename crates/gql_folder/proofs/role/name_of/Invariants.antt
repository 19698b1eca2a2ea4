use Rattle.std.proofs.Common.{◌≡◌, string_bytes, take}
use Rattle.gql_folder.specs.Roles.{name_at}
use Rattle.gql_folder.proofs.role.name_of.Given as goal

abbrev pub invariant-loop-byte : goal.invariant-loop-byte
invariant-loop-byte l = string_bytes l.name ≡ name_at (take l.byte-index l.stem)

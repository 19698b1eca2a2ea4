use Rattle.std.proofs.Common.{◌≡◌, ◌<◌, ◌≤◌, ◌^◌, length, drop, true}
use Rattle.std.specs.List.{list_all}
use Rattle.std.specs.Char.{is_ascii_digit}
use Rattle.gql_wire.specs.Number.{number_from}
use Rattle.gql_wire.proofs.number.number_in.Given as goal

abbrev pub invariant-loop-byte : goal.invariant-loop-byte
invariant-loop-byte l = record {
  some : 1 ≤ length l.value;
  short : length l.value ≤ 18;
  digits : list_all is_ascii_digit l.value ≡ true;
  bound : l.number < 10 ^ l.byte-index;
  value : number_from 0 l.value ≡ number_from l.number (drop l.byte-index l.value);
}

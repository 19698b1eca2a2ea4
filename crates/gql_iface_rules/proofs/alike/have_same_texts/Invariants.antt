use Rattle.std.proofs.Common.{◌≡◌, take}
use Rattle.gql_iface_rules.specs.Alike.{texts}
use Rattle.gql_iface_rules.proofs.alike.have_same_texts.Given as goal

abbrev pub invariant-loop-i : goal.invariant-loop-i
invariant-loop-i l = texts (take l.i l.names) ≡ texts (take l.i l.others)

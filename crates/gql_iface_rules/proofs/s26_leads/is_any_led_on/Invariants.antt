use Rattle.std.proofs.Common.{take}
use Rattle.std.specs.List.{All}
use Rattle.gql_iface_rules.specs.S26Leads.{LeadsNowhere}
use Rattle.gql_iface_rules.proofs.s26_leads.is_any_led_on.Given as goal

abbrev pub invariant-loop-of_type : goal.invariant-loop-of_type
invariant-loop-of_type l = All (LeadsNowhere l.names) (take l.of_type-index l.types)

use Rattle.std.proofs.Common.{lit<}
use Rattle.std.proofs.lemmas.Str.Pattern.{strip_prefix_char}
use Rattle.gql_iface_rules.proofs.AtNames.{behind}
use Rattle.gql_iface_rules.proofs.s26_directive_cycles.without_sign.Goals as goal

pub returns : goal.returns
returns c = behind c.args.name.now c.strip_prefix.result (strip_prefix_char 64 c.args.name.now c.strip_prefix.result c.strip_prefix.ensures.cases (lit< tt))

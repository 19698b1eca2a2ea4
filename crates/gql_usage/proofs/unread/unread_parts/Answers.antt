use Rattle.std.proofs.Common.{rules}
use Rattle.gql_usage.proofs.unread.unread_parts.Goals as goal

pub returns : goal.returns
returns c = (c.in_ok-unread.unread.items, c.in_ok-directives.directives.items, c.in_ok-unread.ensures, c.in_ok-directives.ensures, search rules)

use Rattle.std.proofs.Common.{codes}
use Rattle.gql_wire.specs.Answer.{status_line, allow_line, body_lines, closing_line}
use Rattle.gql_wire.proofs.Phrases.{joined}
use Rattle.gql_wire.proofs.answer.answer_head.Goals as goal

pub returns-clause-ok : goal.returns-clause-ok
returns-clause-ok c =
    rw (c.append_closing.ensures.items, c.append_body_lines.ensures.items, c.append_allow.ensures.items, c.append_status.ensures.items, c.reserve.ensures.items)
    (joined c.args.out.now.items (status_line c.args.status) (allow_line c.args.allow) (body_lines c.args.length) (closing_line c.args.closing) (codes "\r\n"))

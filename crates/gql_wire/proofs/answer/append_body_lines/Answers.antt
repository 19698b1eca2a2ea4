use Rattle.std.proofs.Common.{append_assoc, refl}
use Rattle.gql_wire.proofs.answer.append_body_lines.Goals as goal

pub returns-clause-items : goal.returns-clause-items
returns-clause-items c =
    rw (c.append-3.ensures.items, c.append-2.ensures.items, c.append.ensures.items, c.as_bytes.ensures.value, c.format.ensures.text) (simp append_assoc refl)

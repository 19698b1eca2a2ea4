use Rattle.std.proofs.Common.{append_assoc, refl}
use Rattle.gql_wire.proofs.answer.append_status.Goals as goal

pub returns-clause-items : goal.returns-clause-items
returns-clause-items c =
    rw (c.append-5.ensures.items, c.append-4.ensures.items, c.append-3.ensures.items, c.append-2.ensures.items, c.append.ensures.items, c.as_bytes-2.ensures.value, c.phrase.ensures.text, c.as_bytes.ensures.value, c.as_str.ensures) (simp append_assoc refl)

use Rattle.std.proofs.Common.{arith, refl, sym, ◌∙◌}
use Rattle.gql_wire.proofs.Streams.{skip_same, still_open, head_ended, only_blank, done, body_open}
use Rattle.gql_wire.specs.Stream.{long, stops, IsHead}
use Rattle.gql_wire.proofs.stream.advance_head.Goals as goal
use Rattle.gql_wire.proofs.stream.advance_head.Goals.{In-Expects}

pub returns-then-begins_with_blank : goal.returns-then-begins_with_blank
returns-then-begins_with_blank c = only_blank _ c.args.bytes.now c.requires.1 (sym c.begins_with_blank.ensures ∙ c.if-begins_with_blank.true)

pub returns-in-Refuse : goal.returns-in-Refuse
returns-in-Refuse c = stops (head_ended _ c.args.bytes.now c.requires.1 (sym c.begins_with_blank.ensures ∙ c.if-begins_with_blank.false) (sym c.ends_with.ensures.value ∙ c.if-ends_with.true)) c.in-Refuse.ensures.outcome_is

head : (c : In-Expects) → IsHead c.args.bytes.now
head c = head_ended _ c.args.bytes.now c.requires.1 (sym c.begins_with_blank.ensures ∙ c.if-begins_with_blank.false) (sym c.ends_with.ensures.value ∙ c.if-ends_with.true)

pub returns-then-length-eq0 : goal.returns-then-length-eq0
returns-then-length-eq0 c = done c.args.bytes.now _ refl c.if-length-eq0.true (head (goal.at.returns-then-length-eq0 c).In-Expects) c.in-Expects.ensures.outcome_is c.in-Expects.ensures.within

pub returns-else-length-eq0 : goal.returns-else-length-eq0
returns-else-length-eq0 c = (body_open c.args.bytes.now _ refl c.if-length-eq0.false (head (goal.at.returns-else-length-eq0 c).In-Expects) c.in-Expects.ensures.outcome_is c.in-Expects.ensures.within, skip_same c.args.bytes.now (sym c.begins_with_blank.ensures ∙ c.if-begins_with_blank.false))

pub returns-then-bytes-eq-MAX_HEAD_BYTES : goal.returns-then-bytes-eq-MAX_HEAD_BYTES
returns-then-bytes-eq-MAX_HEAD_BYTES c = long (still_open _ c.args.bytes.now c.requires.1 (sym c.begins_with_blank.ensures ∙ c.if-begins_with_blank.false) (sym c.ends_with.ensures.value ∙ c.if-ends_with.false)) c.if-bytes-eq-MAX_HEAD_BYTES.true

pub returns-else-bytes-eq-MAX_HEAD_BYTES : goal.returns-else-bytes-eq-MAX_HEAD_BYTES
returns-else-bytes-eq-MAX_HEAD_BYTES c =
    let begun = sym c.begins_with_blank.ensures ∙ c.if-begins_with_blank.false in
    ((still_open _ c.args.bytes.now c.requires.1 begun (sym c.ends_with.ensures.value ∙ c.if-ends_with.false), omega (arith, c.requires.1.within)), skip_same c.args.bytes.now begun)

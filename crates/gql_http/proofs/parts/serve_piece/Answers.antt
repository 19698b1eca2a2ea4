use Rattle.std.proofs.Common.{rules, [], refl, sym, ◌∙◌, ◌++◌}
use Rattle.gql_http.proofs.Exchanging.{does_others, feed_connection, fed_serves, fed_breaks, none_of, some_of}
use Rattle.gql_http.proofs.Parting.{parted_init, parted_more, parted_all, parted_shut, parted_rest, parted_closed, parted_broke, fed_open, holds_left, cut_at, none_left, is_open, sends_none, sends_more, sends_part, sends_unsent}
use Rattle.gql_http.proofs.parts.serve_piece.Goals as goal

pub parts-init : goal.parts-init
parts-init g c = record {
  reads = refl;
  read_failures = refl;
  write_failures = refl;
  ended = refl;
  others = λ d apart. refl;
  served = ([], parted_init _ _ _ c.requires.held.0 c.requires.held.1, sends_none _);
}

pub feed_rest-requires : goal.feed_rest-requires
feed_rest-requires g c =
    let p = c.parts.invariant.served.1 in
    let d = c.feed-fed.ensures.does in
    let unclosed = sym c.feed-fed.ensures.closed ∙ c.if-fed.false in
    let left = some_of _ unclosed in
    let q = parted_more c.some_split.ensures c.one_split.ensures c.more_bytes.ensures p _ _ _ _ _ left.0 (cut_at _ _ _ _ c.split_at.ensures.front c.split_at.ensures.back)
    (fed_open _ _ _ _ _ _ _ _ c.feed-fed.result.memory d.0 d.1 d.2 p.stays unclosed) left.1 in
    record { held = (q.left, holds_left c.rest_is_unfinished.ensures q.serves q.stays) }

pub returns-then-fed-clause-served : goal.returns-then-fed-clause-served
returns-then-fed-clause-served g c =
    let p = c.parts.invariant.served.1 in
    let d = c.feed-fed.ensures.does in (
      p.held,
      p.holds,
      (
        c.parts.invariant.served.0 ++ c.feed-fed.result.out.items,
        sends_part _ _ _ _ _ c.parts.invariant.served.2 (rw c.as_slice.ensures.value at c.in_default.ensures.err),
        parted_shut c.some_split.ensures c.one_split.ensures c.more_bytes.ensures p c.closed_drops.ensures _ _ _ 0 _ _ _ c.feed-fed.result.memory d.0
            (cut_at _ _ _ _ c.split_at.ensures.front c.split_at.ensures.back) p.stays d.1 d.2 (sym c.feed-fed.ensures.closed ∙ c.if-fed.true),
      ),
    )

pub returns-then-fed-clause-others : goal.returns-then-fed-clause-others
returns-then-fed-clause-others g c = λ d apart.
    does_others _ _ _ _ c.feed-fed.ensures.does.0 _ d c.feed-fed.ensures.does.2 (λ is. apart (is ∙ feed_connection _ _ _ _ c.feed-fed.ensures.does.1)) ∙ c.parts.invariant.others d apart

pub returns-in_default-clause-served : goal.returns-in_default-clause-served
returns-in_default-clause-served g c =
    let p = c.parts.invariant.served.1 in
    let d = c.feed-fed.ensures.does in
    let unclosed = sym c.feed-fed.ensures.closed ∙ c.if-fed.false in
    let left = some_of _ unclosed in
    let q = parted_more c.some_split.ensures c.one_split.ensures c.more_bytes.ensures p _ _ _ _ _ left.0 (cut_at _ _ _ _ c.split_at.ensures.front c.split_at.ensures.back)
    (fed_open _ _ _ _ _ _ _ _ c.feed-fed.result.memory d.0 d.1 d.2 p.stays unclosed) left.1 in
    let r = c.feed_rest.ensures.made in (
      q.held,
      q.holds,
      (
        _,
        sends_unsent _ _ _ _ (sends_part _ _ _ _ _ c.parts.invariant.served.2 (rw c.as_slice.ensures.value at c.in_default.ensures.err)),
        parted_rest c.some_split.ensures c.one_split.ensures c.more_bytes.ensures q _ r.0 r.1 r.2 r.3,
      ),
    )

pub returns-in_default-clause-others : goal.returns-in_default-clause-others
returns-in_default-clause-others g c = λ d apart.
    c.feed_rest.ensures.others d apart ∙ does_others _ _ _ _ c.feed-fed.ensures.does.0 _ d c.feed-fed.ensures.does.2 (λ is. apart (is ∙ feed_connection _ _ _ _ c.feed-fed.ensures.does.1)) ∙ c.parts.invariant.others d apart

pub returns-then-fed-2-clause-served : goal.returns-then-fed-2-clause-served
returns-then-fed-2-clause-served g c =
    let p = c.parts.invariant.served.1 in
    let d = c.feed-fed.ensures.does in
    let broken = fed_breaks _ _ _ _ _ _ _ _ d.0 (rw c.if-fed-2.true at d.1) d.2 p.stays in (
      p.held,
      p.holds,
      (
        c.parts.invariant.served.0 ++ c.feed-fed.result.out.items,
        sends_more _ _ _ _ _ c.parts.invariant.served.2 (rw c.as_slice.ensures.value at c.in-Ok.ensures.ok),
        parted_broke c.some_split.ensures c.one_split.ensures c.more_bytes.ensures p c.closed_drops.ensures _ _ _ _ broken.0 (cut_at _ _ _ _ c.split_at.ensures.front c.split_at.ensures.back) broken.1,
      ),
    )

pub returns-then-fed-2-clause-others : goal.returns-then-fed-2-clause-others
returns-then-fed-2-clause-others g c = λ d apart.
    does_others _ _ _ _ c.feed-fed.ensures.does.0 _ d c.feed-fed.ensures.does.2 (λ is. apart (is ∙ feed_connection _ _ _ _ c.feed-fed.ensures.does.1)) ∙ c.parts.invariant.others d apart

pub returns-then-fed-3-clause-served : goal.returns-then-fed-3-clause-served
returns-then-fed-3-clause-served g c =
    let p = c.parts.invariant.served.1 in
    let d = c.feed-fed.ensures.does in
    let shut = none_of _ (sym c.feed-fed.ensures.closed ∙ c.if-fed-3.true) in (
      p.held,
      p.holds,
      (
        c.parts.invariant.served.0 ++ c.feed-fed.result.out.items,
        sends_more _ _ _ _ _ c.parts.invariant.served.2 (rw c.as_slice.ensures.value at c.in-Ok.ensures.ok),
        parted_closed c.some_split.ensures c.one_split.ensures c.more_bytes.ensures p c.closed_drops.ensures _ _ _ _ _ (cut_at _ _ _ _ c.split_at.ensures.front c.split_at.ensures.back)
            (fed_serves _ _ _ _ _ _ _ _ d.0 (rw c.if-fed-2.false at d.1) d.2 p.stays) shut,
        shut,
      ),
    )

pub returns-then-fed-3-clause-others : goal.returns-then-fed-3-clause-others
returns-then-fed-3-clause-others g c = λ d apart.
    does_others _ _ _ _ c.feed-fed.ensures.does.0 _ d c.feed-fed.ensures.does.2 (λ is. apart (is ∙ feed_connection _ _ _ _ c.feed-fed.ensures.does.1)) ∙ c.parts.invariant.others d apart

pub parts-preserved : goal.parts-preserved
parts-preserved g c =
    let p = c.parts.invariant.served.1 in
    let d = c.feed-fed.ensures.does in
    let unclosed = sym c.feed-fed.ensures.closed ∙ c.if-fed-3.false in
    let left = some_of _ unclosed in record {
      reads = c.in-Ok.ensures.others.0 ∙ c.parts.invariant.reads;
      read_failures = c.in-Ok.ensures.others.1 ∙ c.parts.invariant.read_failures;
      write_failures = c.in-Ok.ensures.failed ∙ c.parts.invariant.write_failures;
      ended = c.in-Ok.ensures.others.2 ∙ c.parts.invariant.ended;
      others = λ n apart. does_others _ _ _ _ d.0 _ n d.2 (λ is. apart (is ∙ feed_connection _ _ _ _ d.1)) ∙ c.parts.invariant.others n apart;
      served = (
        _,
        parted_more c.some_split.ensures c.one_split.ensures c.more_bytes.ensures p _ _ _ _ _ left.0 (cut_at _ _ _ _ c.split_at.ensures.front c.split_at.ensures.back)
            (fed_open _ _ _ _ _ _ _ _ c.feed-fed.result.memory d.0 d.1 d.2 p.stays unclosed) left.1,
        sends_more _ _ _ _ _ c.parts.invariant.served.2 (rw c.as_slice.ensures.value at c.in-Ok.ensures.ok),
      );
    }

pub returns-clause-served : goal.returns-clause-served
returns-clause-served g c =
    let p = c.parts.invariant.served.1 in
    (p.held, p.holds, (_, c.parts.invariant.served.2, parted_all c.some_split.ensures c.one_split.ensures c.more_bytes.ensures p (none_left _ (search rules)), is_open _ _ p.stays))

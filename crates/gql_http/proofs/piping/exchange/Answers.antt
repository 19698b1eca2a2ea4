use Rattle.std.proofs.Common.{rules, arith, refl, inl, inr, ◌∙◌}
use Rattle.gql_http.specs.Hubs.{rests_of}
use Rattle.gql_http.specs.declared.parts.Served.TheVariants as served
use Rattle.gql_http.proofs.Exchanging.{adds_nil, exchanged_init, exchanged_more, at_end, write_failed, memory_failed, closed_by, no_more, front_short}
use Rattle.gql_http.proofs.Parting.{holds_left, open_bytes, with_held}
use Rattle.gql_http.proofs.piping.exchange.Goals as goal

pub loop-turn-init : goal.loop-turn-init
loop-turn-init g c = record {
  counted = omega arith;
  bounded = λ more. absurd (omega (arith, more));
  reading = refl;
  writing = refl;
  others = λ d apart. refl;
  exchanged = exchanged_init c.some_split.ensures c.one_split.ensures c.more_bytes.ensures c.nothing_is_unfinished.ensures _ _ _ c.requires.open;
}

pub returns-in_default-clause-exchange : goal.returns-in_default-clause-exchange
returns-in_default-clause-exchange g c =
    no_more c.some_split.ensures c.one_split.ensures c.more_bytes.ensures c.loop-turn.invariant.exchanged _ _ _ c.in_default.ensures.none (inl refl)

pub returns-then-count-eq0-clause-exchange : goal.returns-then-count-eq0-clause-exchange
returns-then-count-eq0-clause-exchange g c =
    at_end c.some_split.ensures c.one_split.ensures c.more_bytes.ensures c.loop-turn.invariant.exchanged _ _ _ _ (rw c.if-count-eq0.true refl) c.in-Ok.ensures.received
    (c.in-Ok.ensures.ends c.if-count-eq0.true (search rules)) c.end_of.ensures

pub serve_piece-requires-clause-held : goal.serve_piece-requires-clause-held
serve_piece-requires-clause-held g c =
    let x = c.loop-turn.invariant.exchanged in (x.held, holds_left c.rest_is_unfinished.ensures x.serves x.stays)

pub returns-in-WriteFailed-clause-exchange : goal.returns-in-WriteFailed-clause-exchange
returns-in-WriteFailed-clause-exchange g c =
    let x = c.loop-turn.invariant.exchanged in
    let h = c.in-WriteFailed.ensures.served in
    let d = with_held served.WriteFailed _ _ _ _ _ (rests_of c.serve_piece.new.hub 0) _ x.held _ h.1 x.stays h.2 in
    write_failed c.some_split.ensures c.one_split.ensures c.more_bytes.ensures x _ _ _ _ d.0 _ (front_short _ _ (search rules)) c.in-Ok.ensures.received d.1 d.2

pub returns-in-WriteFailed-clause-others : goal.returns-in-WriteFailed-clause-others
returns-in-WriteFailed-clause-others g c = λ n apart. c.in-WriteFailed.ensures.others n apart ∙ c.loop-turn.invariant.others n apart

pub returns-in-Memory-clause-exchange : goal.returns-in-Memory-clause-exchange
returns-in-Memory-clause-exchange g c =
    let x = c.loop-turn.invariant.exchanged in
    let h = c.in-Memory.ensures.served in
    let d = with_held served.Memory _ _ _ _ _ (rests_of c.serve_piece.new.hub 0) _ x.held _ h.1 x.stays h.2 in
    memory_failed c.some_split.ensures c.one_split.ensures c.more_bytes.ensures x _ _ _ _ d.0 _ (front_short _ _ (search rules)) c.in-Ok.ensures.received d.1 d.2

pub returns-in-Memory-clause-others : goal.returns-in-Memory-clause-others
returns-in-Memory-clause-others g c = λ n apart. c.in-Memory.ensures.others n apart ∙ c.loop-turn.invariant.others n apart

pub returns-in-Closed-clause-exchange : goal.returns-in-Closed-clause-exchange
returns-in-Closed-clause-exchange g c =
    let x = c.loop-turn.invariant.exchanged in
    let h = c.in-Closed.ensures.served in
    let d = with_held served.Closed _ _ _ _ _ (rests_of c.serve_piece.new.hub 0) _ x.held _ h.1 x.stays h.2 in
    closed_by c.some_split.ensures c.one_split.ensures c.more_bytes.ensures x _ _ _ _ d.0 _ _ (front_short _ _ (search rules)) c.in-Ok.ensures.received d.1 d.2 d.3

pub returns-in-Closed-clause-others : goal.returns-in-Closed-clause-others
returns-in-Closed-clause-others g c = λ n apart. c.in-Closed.ensures.others n apart ∙ c.loop-turn.invariant.others n apart

pub loop-turn-preserved : goal.loop-turn-preserved
loop-turn-preserved g c =
    let x = c.loop-turn.invariant.exchanged in
    let h = c.in-Open.ensures.served in
    let d = with_held served.Open _ _ _ _ _ (rests_of c.serve_piece.new.hub 0) _ x.held _ h.1 x.stays h.2 in
    let left = open_bytes _ d.3 in record {
      counted = omega (arith, c.in-Ok.ensures.counted, c.in-Open.ensures.peer.0, c.loop-turn.invariant.counted);
      bounded = λ more. omega (arith, c.in-Ok.ensures.counted, c.in-Open.ensures.peer.0);
      reading = c.in-Open.ensures.peer.1 ∙ c.in-Ok.ensures.failed ∙ c.loop-turn.invariant.reading;
      writing = omega (arith, c.in-Open.ensures.failed, c.in-Ok.ensures.others, c.loop-turn.invariant.writing);
      others = λ n apart. c.in-Open.ensures.others n apart ∙ c.loop-turn.invariant.others n apart;
      exchanged = exchanged_more c.some_split.ensures c.one_split.ensures c.more_bytes.ensures x _ _ _ _ d.0 _ left.0 (front_short _ _ (search rules)) c.in-Ok.ensures.received d.1 d.2 left.1;
    }

pub returns-clause-exchange : goal.returns-clause-exchange
returns-clause-exchange g c =
    no_more c.some_split.ensures c.one_split.ensures c.more_bytes.ensures c.loop-turn.invariant.exchanged _ _ _ (adds_nil _) (inr refl)

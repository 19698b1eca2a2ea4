use Rattle.std.proofs.Common.{rules, inl, refl, sym, ◌∙◌, ◌++◌}
use Rattle.gql_http.proofs.Exchanging.{does_others, feed_connection, some_of}
use Rattle.gql_http.proofs.Parting.{parted_init, parted_more, parted_all, parted_shut, fed_open, cut_at, none_left}
use Rattle.gql_http.proofs.parts.feed_rest.Goals as goal

pub parts-init : goal.parts-init
parts-init c = record {
  others = λ d apart. refl;
  parted = (_, parted_init _ _ _ c.requires.held.0 c.requires.held.1);
}

pub returns-then-fed-clause-made : goal.returns-then-fed-clause-made
returns-then-fed-clause-made c =
    let p = c.parts.invariant.parted.1 in
    let d = c.feed-fed.ensures.does in (
      p.held,
      c.parts.invariant.parted.0 ++ c.feed-fed.result.out.items,
      p.holds,
      parted_shut c.some_split.ensures c.one_split.ensures c.more_bytes.ensures p c.closed_drops.ensures _ _ _ 0 _ _ _ c.feed-fed.result.memory d.0
          (cut_at _ _ _ _ c.split_at.ensures.front c.split_at.ensures.back) p.stays d.1 d.2 (sym c.feed-fed.ensures.closed ∙ c.if-fed.true),
    )

pub returns-then-fed-clause-others : goal.returns-then-fed-clause-others
returns-then-fed-clause-others c = λ d apart.
    does_others _ _ _ _ c.feed-fed.ensures.does.0 _ d c.feed-fed.ensures.does.2 (λ is. apart (is ∙ feed_connection _ _ _ _ c.feed-fed.ensures.does.1)) ∙ c.parts.invariant.others d apart

pub parts-preserved : goal.parts-preserved
parts-preserved c =
    let p = c.parts.invariant.parted.1 in
    let d = c.feed-fed.ensures.does in
    let unclosed = sym c.feed-fed.ensures.closed ∙ c.if-fed.false in
    let left = some_of _ unclosed in record {
      others = λ n apart. does_others _ _ _ _ d.0 _ n d.2 (λ is. apart (is ∙ feed_connection _ _ _ _ d.1)) ∙ c.parts.invariant.others n apart;
      parted = (
        _,
        parted_more c.some_split.ensures c.one_split.ensures c.more_bytes.ensures p _ _ _ _ _ left.0 (cut_at _ _ _ _ c.split_at.ensures.front c.split_at.ensures.back)
            (fed_open _ _ _ _ _ _ _ _ c.feed-fed.result.memory d.0 d.1 d.2 p.stays unclosed) left.1,
      );
    }

pub returns-clause-made : goal.returns-clause-made
returns-clause-made c =
    let p = c.parts.invariant.parted.1 in
    (p.held, _, p.holds, inl (_, parted_all c.some_split.ensures c.one_split.ensures c.more_bytes.ensures p (none_left _ (search rules))))

pub returns-clause-others : goal.returns-clause-others
returns-clause-others c = λ d apart. c.parts.invariant.others d apart

use Rattle.std.proofs.Common.{refl, ap, ◌∙◌, ◌++◌, [], ◌∷◌, ◌+◌, length-append}
use Rattle.gql_server.specs.OneByOne.{next_peer, no_peers}
use Rattle.gql_server.proofs.Adding.{adds_more, adds_none}
use Rattle.gql_server.proofs.one_by_one.serve_on.Goals as goal

pub loop-connection-init : goal.loop-connection-init
loop-connection-init g c = (
  refl,
  c.requires.none_out,
  ([], [], adds_none _ _ refl, adds_none _ _ refl, no_peers, refl),
)

pub serve_one-requires : goal.serve_one-requires
serve_one-requires g c = record {
  closed = ap (λ rests. rests 0) c.loop-connection.invariant.0 ∙ c.requires.closed;
  none_out = c.loop-connection.invariant.1;
}

pub loop-connection-preserved : goal.loop-connection-preserved
loop-connection-preserved g c =
    let before = c.loop-connection.invariant.2 in
    let served = c.in_ok-serve_one.ensures.served in (
      c.serve_one.ensures.connections ∙ c.loop-connection.invariant.0,
      c.serve_one.ensures.none_out,
      (
        before.0 ++ served.0 ∷ [],
        before.1 ++ served.1 ∷ [],
        adds_more _ _ _ before.0 _ before.2 served.2,
        adds_more _ _ _ before.1 _ before.3 served.3,
        next_peer before.4 served.4,
        length-append before.0 (served.0 ∷ []) ∙ ap (λ n. n + 1) before.5,
      ),
    )

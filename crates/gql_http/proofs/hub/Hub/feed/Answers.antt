use Rattle.std.proofs.Common.{◌≡◌, true, Some, refl, sym, ap, subst, ◌∙◌}
use Rattle.gql_http.specs.Events.{feeds}
use Rattle.gql_http.specs.Limits.{all_have_limit, body_limit_of, limit_in}
use Rattle.gql_http.proofs.Deeds.{fed, fed_last, broke, from_state, breaks_from}
use Rattle.gql_http.proofs.Framers.{limit_at, limits_set, same_has}
use Rattle.gql_http.proofs.hub.Hub.feed.Goals as goal

pub serve-requires-clause-limit : goal.serve-requires-clause-limit
serve-requires-clause-limit c =
    limit_at _ c.args.self.now.framers c.args.connection c.in-Some.framer c.args.self.now.limits (sym c.in-Some.ensures.value) ∙ sym (ap limit_in c.in-Some.ensures.same)

pub returns-then-closed-clause-does : goal.returns-then-closed-clause-does
returns-then-closed-clause-does c =
    let serves = from_state _ _ c.in-Some.ensures.same (rw c.if-closed.true at c.in-Ok.ensures.ok) in (
      feeds c.args.connection c.args.piece.now,
      refl,
      fed_last _ _ c.args.self.now.framers c.take_framer.new.self.framers c.args.connection _ c.args.piece.now _ c.in-Some.ensures.value c.in-Some.ensures.closed serves,
    )

pub returns-else-closed-clause-does : goal.returns-else-closed-clause-does
returns-else-closed-clause-does c =
    let serves = from_state _ _ c.in-Some.ensures.same (rw c.if-closed.false at c.in-Ok.ensures.ok) in (
      feeds c.args.connection c.args.piece.now,
      refl,
      fed _ _ c.args.self.now.framers c.take_framer.new.self.framers c.args.connection c.from-index.result _ _ c.args.piece.now _ c.from-index.ensures c.in-Some.ensures.value
          c.in-Some.ensures.closed serves,
    )

pub returns-in-Err-clause-does : goal.returns-in-Err-clause-does
returns-in-Err-clause-does c =
    broke _ _ c.args.self.now.framers c.take_framer.new.self.framers c.args.connection _ c.args.piece.now _ c.in-Some.ensures.value c.in-Some.ensures.closed
    (breaks_from _ _ c.in-Some.ensures.same c.in-Err.ensures.err)

pub invariant_of-self : goal.invariant_of-self
invariant_of-self c = record {
  limits = subst (λ n. all_have_limit n c.take_framer.new.self.framers ≡ true) (sym (ap body_limit_of c.serve.ensures.profile)) c.take_framer.new.self.limits;
}

pub invariant_of-self-in-Ok : goal.invariant_of-self-in-Ok
invariant_of-self-in-Ok c =
    let before = limit_at _ c.args.self.now.framers c.args.connection c.in-Some.framer c.args.self.now.limits (sym c.in-Some.ensures.value) ∙ sym (ap limit_in c.in-Some.ensures.same) in
    let after = c.serve.ensures.limit ∙ before ∙ sym (ap body_limit_of c.serve.ensures.profile) in (
      limits_set _ c.take_framer.new.self.framers c.from-index.result (Some c.serve.new.framer)
          (subst (λ n. all_have_limit n c.take_framer.new.self.framers ≡ true) (sym (ap body_limit_of c.serve.ensures.profile)) c.take_framer.new.self.limits)
          (same_has _ c.serve.new.framer after),
      tt,
    )

use Rattle.std.proofs.Common.{arith, refl, sym, ap, ◌∙◌, ◌+◌, drop}
use Rattle.gql_wire.specs.Stream.{req}
use Rattle.gql_registry.specs.State.{profile_of}
use Rattle.gql_http.proofs.KeptLimit.{step_keeps}
use Rattle.gql_http.proofs.Serving.{served_init, served_next, serves_open, serves_closed, cut_at, within_more, served_breaks, kept_breaks, on_error}
use Rattle.gql_http.proofs.serve.serve.Goals as goal

pub requests-init : goal.requests-init
requests-init c = record { within = omega arith; same = refl; limit = c.requires.limit; profile = refl; served = served_init _ _ _ _ refl c.requires.none }

pub returns-in_default-clause-ok : goal.returns-in_default-clause-ok
returns-in_default-clause-ok c =
    let unfinished = rw (c.in_default.is, c.rest_from.ensures, c.requests.invariant.limit) at c.in_ok-count.ensures.none in
    let more = rw (c.in_default.is, c.rest_from.ensures) at c.in_ok-count.ensures.more in
    serves_open c.requests.invariant.served unfinished c.take.new.self.bytes more.1

pub returns-then-closes-clause-ok : goal.returns-then-closes-clause-ok
returns-then-closes-clause-ok c =
    let found = rw (c.in-Some.is, c.rest_from.ensures, c.requests.invariant.limit) at c.in_ok-count.ensures.framed in
    let made = c.in_ok-step.ensures.ok in
    serves_closed c.requests.invariant.served _ (drop (c.requests.at + c.in_ok-count.count) c.args.piece.now) (req c.in-Some.framed) made.0 found.1 (sym c.closes.ensures ∙ c.if-closes.true)
    (cut_at c.requests.framer.bytes c.args.piece.now c.requests.at c.in_ok-count.count) made.1 made.2

pub requests-preserved-else-closes : goal.requests-preserved-else-closes
requests-preserved-else-closes c =
    let found = rw (c.in-Some.is, c.rest_from.ensures, c.requests.invariant.limit) at c.in_ok-count.ensures.framed in
    let made = c.in_ok-step.ensures.ok in
    let next = served_next c.requests.invariant.served _ (drop (c.requests.at + c.in_ok-count.count) c.args.piece.now) (req c.in-Some.framed) made.0 found.1 (sym c.closes.ensures ∙ c.if-closes.false)
    (cut_at c.requests.framer.bytes c.args.piece.now c.requests.at c.in_ok-count.count) made.1 made.2 in
    record { within = within_more c.args.piece.now c.requests.at c.in_ok-count.count c.requests.invariant.within (rw c.rest_from.ensures at c.in_ok-count.ensures.within); same = c.in_ok-count.ensures.limit ∙ c.requests.invariant.same; limit = c.in_ok-count.ensures.limit ∙ c.requests.invariant.limit; profile = step_keeps _ _ _ _ made.1 ∙ c.requests.invariant.profile; served = rw found.0 next }

pub returns-in_err-count-clause-err : goal.returns-in_err-count-clause-err
returns-in_err-count-clause-err c = on_error c.from_residual.result _ (served_breaks c.some_split.ensures c.requests.invariant.served)

pub returns-in_err-step-clause-err : goal.returns-in_err-step-clause-err
returns-in_err-step-clause-err c = on_error c.from_residual-in_err-step.result _ (kept_breaks c.some_split.ensures c.requests.invariant.served c.in_err-step.ensures.err.0 c.in_err-step.ensures.err.1)

pub returns-in_default-clause-profile : goal.returns-in_default-clause-profile
returns-in_default-clause-profile c = c.requests.invariant.profile

pub returns-then-closes-clause-profile : goal.returns-then-closes-clause-profile
returns-then-closes-clause-profile c = let made = c.in_ok-step.ensures.ok in step_keeps _ _ _ _ made.1 ∙ c.requests.invariant.profile

pub returns-in_err-count-clause-profile : goal.returns-in_err-count-clause-profile
returns-in_err-count-clause-profile c = c.requests.invariant.profile

pub returns-in_err-step-clause-profile : goal.returns-in_err-step-clause-profile
returns-in_err-step-clause-profile c = ap profile_of c.in_err-step.ensures.err.0 ∙ c.requests.invariant.profile

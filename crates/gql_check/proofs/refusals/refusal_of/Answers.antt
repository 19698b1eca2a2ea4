use Rattle.std.proofs.Common.{None, subst}
use Rattle.gql_registry.specs.Changes.{change_of, edit_of}
use Rattle.gql_registry.specs.Edits.{Accepts, IsRefused}
use Rattle.gql_registry.specs.State.{state_of}
use Rattle.gql_check.proofs.Refused.{accepted_alone, refused_alone}
use Rattle.gql_check.proofs.refusals.refusal_of.Goals as goal

pub returns : goal.returns
returns c =
    let e = c.in-Err.field-0 in
    let s = state_of c.in_ok-registry.registry in
    refused_alone c.args.profile s (change_of c.args.change.now) e c.in_ok-registry.ensures.state c.in_default.not-Memory
    (subst (λ changes. IsRefused s None (edit_of changes) e) c.from_ref.ensures.value c.in-Err.ensures.makes.0)

pub returns-in-Ok : goal.returns-in-Ok
returns-in-Ok c =
    let s = state_of c.in_ok-registry.registry in
    let t = state_of c.edit.new.self in
    accepted_alone c.args.profile s t (change_of c.args.change.now) c.in_ok-registry.ensures.state
    (subst (λ changes. Accepts s None (edit_of changes) t) c.from_ref.ensures.value c.in-Ok.ensures.makes.0)

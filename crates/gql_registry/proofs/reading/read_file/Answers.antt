use Rattle.std.proofs.Common.{◌∙◌, ◌<◌, ◌≤◌, inl, inr, rules, refl, sym, ap, subst, Err, length}
use Rattle.gql_ast.specs.declared.profile.Profile.{Profile}
use Rattle.gql_registry.proofs.FirstRefusals.{first_too_long, first_not_text, first_syntax}
use Rattle.gql_registry.proofs.Working.{err_of}
use Rattle.gql_registry.specs.Checks.{IsUnread}
use Rattle.gql_registry.specs.Sides.{limit_on}
use Rattle.gql_registry.proofs.reading.read_file.Goals as goal

pub returns-then-bytes-limit-clause-err : goal.returns-then-bytes-limit-clause-err
returns-then-bytes-limit-clause-err c = λ s p.
    let limit = c.limit_on-limit.ensures ∙ ap (λ (q : Profile). limit_on q c.args.side) (sym p) in
    inl (first_too_long s c.args.side c.args.name.now c.args.bytes.now (subst (λ n. n < length c.args.bytes.now) limit c.if-bytes-limit.true))

pub returns-in_default-clause-err : goal.returns-in_default-clause-err
returns-in_default-clause-err c = λ s p.
    let limit = c.limit_on-limit.ensures ∙ ap (λ (q : Profile). limit_on q c.args.side) (sym p) in
    inl (first_not_text s c.args.side c.args.name.now c.args.bytes.now (subst (λ n. length c.args.bytes.now ≤ n) limit c.if-bytes-limit.false) c.in_default.ensures.cases.0)

pub returns-in_err-name-clause-err : goal.returns-in_err-name-clause-err
returns-in_err-name-clause-err c =
    err_of (IsUnread c.args.profile c.args.side c.args.name.now c.args.bytes.now) _ _ c.from_residual.ensures.1 (λ s p. inr refl)

pub returns-in_err-document-clause-err : goal.returns-in_err-document-clause-err
returns-in_err-document-clause-err c =
    err_of (IsUnread c.args.profile c.args.side c.args.name.now c.args.bytes.now) _ _ c.from_residual-in_err-document.ensures.1 (λ s p.
    let limit = c.limit_on-limit.ensures ∙ ap (λ (q : Profile). limit_on q c.args.side) (sym p) in
    first_syntax s c.args.side c.args.name.now c.args.bytes.now c.in_err-document.field-0.0
    (subst (λ n. length c.args.bytes.now ≤ n) limit c.if-bytes-limit.false) (search rules)
    (λ number place is. rw (c.in_ok-name.ensures, c.in-Ok.ensures.cases.0) at (c.in_err-document.ensures.refused number place (ap Err is))))

pub returns-clause-read : goal.returns-clause-read
returns-clause-read c = record {
  short = subst (λ n. length c.args.bytes.now ≤ n) c.limit_on-limit.ensures c.if-bytes-limit.false;
  text = search rules;
  file = rw (c.in_ok-name.ensures, c.in-Ok.ensures.cases.0) at c.in_ok-document.ensures.accepted;
  placed = rw c.in_ok-name.ensures at c.in_ok-document.ensures.placed;
}

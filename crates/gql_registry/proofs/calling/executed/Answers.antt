use Rattle.std.proofs.Common.{◌≡◌, ◌<◌, ◌≤◌, Vec, Global, map, sym, ap, subst, ◌∙◌}
use Rattle.gql_stored.specs.Rooms.{effect_of}
use Rattle.gql_stored.specs.declared.effect.Effect.{Effect}
use Rattle.gql_ast.specs.declared.files.Files.{Files}
use Rattle.gql_ast.specs.declared.profile.Profile.{Profile}
use Rattle.gql_steps.specs.Requests.{IsKeptOf}
use Rattle.gql_reply.specs.ReplyText.{reply_text}
use Rattle.gql_steps.specs.Outcomes.{AnOutcome}
use Rattle.gql_registry.specs.Calls.{CallOutcome}
use Rattle.gql_registry.specs.Keeping.{IsKnownOf}
use Rattle.gql_registry.specs.declared.report.Known.{Known}
use Rattle.gql_registry.specs.declared.report.SchemaSide.{SchemaSide}
use Rattle.gql_registry.proofs.calling.executed.Goals as goal

-- what is known of files is what execution takes as kept of them
kept_of : (files : Files) (known : Known) (side : SchemaSide) → side ≡ known.schema → IsKnownOf files known
    → IsKeptOf files side.schema side.made known.index.fragments.all
kept_of files known side is h = record {
  schema = ap (λ (x : SchemaSide). x.schema) is ∙ h.schema.schema;
  made = ap (λ (x : SchemaSide). x.made) is ∙ h.schema.made;
  fragments = h.index.fragments;
}

same_call : {a b : CallOutcome} → a.text ≡ b.text → a.effects ≡ b.effects → a ≡ b
same_call {a} {b} t e = ap (λ x. let c : CallOutcome = record { text = x; effects = a.effects } in c) t
    ∙ ap (λ x. let c : CallOutcome = record { text = b.text; effects = x } in c) e

pub returns-in_ok-body-in-Ok-clause-ok : goal.returns-in_ok-body-in-Ok-clause-ok
returns-in_ok-body-in-Ok-clause-ok c = λ files known same operation is p executes.
    let kept = kept_of files c.args.known.now c.get-schema.result.now c.get-schema.ensures known in
    let h = c.in-Ok.ensures.outcome files operation kept is p executes in (
      subst (λ (q : Profile). p.weight ≤ q.limits.values) (sym same) h.0,
      same_call (c.in_ok-body-in-Ok.ensures ∙ ap reply_text h.1)
          (ap (λ (v : Vec Effect Global). map effect_of v.items) c.into_effects-effects.ensures ∙ ap (λ (o : AnOutcome). o.effects) h.1),
    )

pub returns-in-Err-TooHeavy-clause-err : goal.returns-in-Err-TooHeavy-clause-err
returns-in-Err-TooHeavy-clause-err c = λ files known same operation is p executes.
    let kept = kept_of files c.args.known.now c.get-schema.result.now c.get-schema.ensures known in
    subst (λ (q : Profile). q.limits.values < p.weight) (sym same)
    (c.in-Err-TooHeavy.ensures.heavy c.in-Err-TooHeavy.field-0-is files operation kept is p executes)

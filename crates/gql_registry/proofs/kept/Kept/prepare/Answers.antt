use Rattle.std.proofs.Common.{OnErr, OnOk, sym, subst}
use Rattle.gql_verdict.specs.DocumentEdits.{ChangesOnly}
use Rattle.gql_registry.specs.EditPlans.{IsEditPlanOf}
use Rattle.gql_registry.specs.Keeping.{IsWholeWorkOn, IsWorkOn, Keeping}
use Rattle.gql_registry.proofs.Knowing.{known, pairs_known}
use Rattle.gql_registry.proofs.kept.Kept.prepare.Goals as goal

pub examine-requires-clause-schema : goal.examine-requires-clause-schema
examine-requires-clause-schema c = c.requires.schema

pub examine-requires-clause-index : goal.examine-requires-clause-index
examine-requires-clause-index c = c.requires.index

pub examine-requires-clause-placed : goal.examine-requires-clause-placed
examine-requires-clause-placed c = c.requires.placed

pub examine-requires-clause-known : goal.examine-requires-clause-known
examine-requires-clause-known c =
    known c.self.inside.files c.args.plan.files c.self.inside.shelf.verdicts c.args.plan.touched c.requires.placed c.self.invariant.current
    (subst (λ (k : Keeping). ChangesOnly c.args.plan.touched k.files c.args.plan.files) (sym c.self.view_is) c.requires.touched)

pub examine-requires-clause-pairs : goal.examine-requires-clause-pairs
examine-requires-clause-pairs c =
    pairs_known c.self.inside.files c.args.plan.files c.self.inside.shelf.pairs c.args.plan.touched c.self.invariant.pairs
    (subst (λ (k : Keeping). ChangesOnly c.args.plan.touched k.files c.args.plan.files) (sym c.self.view_is) c.requires.touched)

pub examine-requires-clause-names : goal.examine-requires-clause-names
examine-requires-clause-names c = λ sound.
    c.keeps_sound_names-sound_names.ensures.sound sound c.self.inside.files c.self.invariant.known_of
    (subst (λ (k : Keeping). IsEditPlanOf k.files c.args.plan) (sym c.self.view_is) c.requires)

pub returns-clause-whole : goal.returns-clause-whole
returns-clause-whole c =
    subst (λ (k : Keeping). OnOk c.examine.result (IsWholeWorkOn c.args.plan.files k.shelf c.args.meter.now c.examine.new.meter)) c.self.view_is c.examine.ensures.whole

pub returns-clause-work : goal.returns-clause-work
returns-clause-work c =
    subst (λ (k : Keeping). OnErr c.examine.result (IsWorkOn c.args.plan.files k.shelf c.args.meter.now c.examine.new.meter)) c.self.view_is c.examine.ensures.work

use Rattle.std.proofs.Common.{◌∙◌, subst, sym}
use Rattle.gql_facts.specs.Members.{Lists}
use Rattle.gql_facts.specs.Worlds.{Facts}
use Rattle.gql_merge.specs.Clean.{AreClean}
use Rattle.gql_pairs.specs.Tables as of_pairs
use Rattle.gql_reads.specs.Tables.{AllHold}
use Rattle.gql_reads.specs.Readings.{answers_in, flat}
use Rattle.gql_verdict.specs.Faults.{IsFaultIn}
use Rattle.gql_verdict.specs.Verdicts.{IsFounded, Judges}
use Rattle.gql_verdict.specs.declared.verdict.Held.{Held}
use Rattle.gql_verdict.proofs.Certified.{flat_is, founded, judged}
use Rattle.gql_verdict.proofs.verdict.examine.Goals as goal

pub invariant_of-result : goal.invariant_of-result
invariant_of-result g c =
    let F = g.W.World.facts c.args.world.now in
    let d = c.args.definition.now in
    subst (λ (h : Held). IsFounded h.def h.faults.items (flat h.reading)) (sym c.in_ok-held.ensures)
    (founded F d _ c.in_ok-reading.ensures.hold c.in_ok-reading.ensures.keys _ _ c.in_ok-def.ensures
    (subst (λ f. Lists c.in_ok-found.found.faults.items (IsFaultIn f d)) c.reads_of.ensures.facts c.in_ok-found.ensures.faults))

pub returns-clause-verdict : goal.returns-clause-verdict
returns-clause-verdict g c =
    let F = g.W.World.facts c.args.world.now in
    let d = c.args.definition.now in
    subst (λ (h : Held). Judges F d (record { def = h.def; faults = h.faults.items; observations = flat h.reading; answers = answers_in h.reading })) (sym c.in_ok-held.ensures)
    (judged F d _ c.in_ok-reading.ensures.hold c.in_ok-reading.ensures.keys _ _ _ c.in_ok-def.ensures
    (subst (λ f. Lists c.in_ok-found.found.faults.items (IsFaultIn f d)) c.reads_of.ensures.facts c.in_ok-found.ensures.faults)
    (flat_is c.in_ok-reading.reading) c.in_ok-reading.ensures.led)

pub cover_definition-requires-clause-holds : goal.cover_definition-requires-clause-holds
cover_definition-requires-clause-holds g c = subst (λ (G : Facts). of_pairs.AllHold G c.args.shared.now.pairs) (sym (c.faults_in.ensures.facts ∙ c.reads_of.ensures.facts)) c.requires.holds.pairs

pub returns-in_err-cover_definition-clause-holds : goal.returns-in_err-cover_definition-clause-holds
returns-in_err-cover_definition-clause-holds g c = record {
  reads = subst (λ (G : Facts). AllHold G c.cover_definition.new.reads) (c.faults_in.ensures.facts ∙ c.reads_of.ensures.facts) c.cover_definition.ensures.reads;
  clean = subst (λ (G : Facts). AreClean G c.faults_in.new.clean) c.reads_of.ensures.facts c.faults_in.ensures.clean;
  pairs = subst (λ (G : Facts). of_pairs.AllHold G c.cover_definition.new.self) (c.faults_in.ensures.facts ∙ c.reads_of.ensures.facts) c.cover_definition.ensures.holds;
}

pub returns-in_err-cover_definition-clause-keeps : goal.returns-in_err-cover_definition-clause-keeps
returns-in_err-cover_definition-clause-keeps g c = λ n k e. c.cover_definition.ensures.reads_keep n k (c.reads_of.ensures.keeps n k e)

pub returns-in_err-def-clause-holds : goal.returns-in_err-def-clause-holds
returns-in_err-def-clause-holds g c = record {
  reads = subst (λ (G : Facts). AllHold G c.cover_definition.new.reads) (c.faults_in.ensures.facts ∙ c.reads_of.ensures.facts) c.cover_definition.ensures.reads;
  clean = subst (λ (G : Facts). AreClean G c.faults_in.new.clean) c.reads_of.ensures.facts c.faults_in.ensures.clean;
  pairs = subst (λ (G : Facts). of_pairs.AllHold G c.cover_definition.new.self) (c.faults_in.ensures.facts ∙ c.reads_of.ensures.facts) c.cover_definition.ensures.holds;
}

pub returns-in_err-def-clause-keeps : goal.returns-in_err-def-clause-keeps
returns-in_err-def-clause-keeps g c = λ n k e. c.cover_definition.ensures.reads_keep n k (c.reads_of.ensures.keeps n k e)

pub returns-in_err-held-clause-holds : goal.returns-in_err-held-clause-holds
returns-in_err-held-clause-holds g c = record {
  reads = subst (λ (G : Facts). AllHold G c.cover_definition.new.reads) (c.faults_in.ensures.facts ∙ c.reads_of.ensures.facts) c.cover_definition.ensures.reads;
  clean = subst (λ (G : Facts). AreClean G c.faults_in.new.clean) c.reads_of.ensures.facts c.faults_in.ensures.clean;
  pairs = subst (λ (G : Facts). of_pairs.AllHold G c.cover_definition.new.self) (c.faults_in.ensures.facts ∙ c.reads_of.ensures.facts) c.cover_definition.ensures.holds;
}

pub returns-in_err-held-clause-keeps : goal.returns-in_err-held-clause-keeps
returns-in_err-held-clause-keeps g c = λ n k e. c.cover_definition.ensures.reads_keep n k (c.reads_of.ensures.keeps n k e)

pub returns-in_err-id-clause-holds : goal.returns-in_err-id-clause-holds
returns-in_err-id-clause-holds g c = record {
  reads = subst (λ (G : Facts). AllHold G c.cover_definition.new.reads) (c.faults_in.ensures.facts ∙ c.reads_of.ensures.facts) c.cover_definition.ensures.reads;
  clean = subst (λ (G : Facts). AreClean G c.faults_in.new.clean) c.reads_of.ensures.facts c.faults_in.ensures.clean;
  pairs = subst (λ (G : Facts). of_pairs.AllHold G c.cover_definition.new.self) (c.faults_in.ensures.facts ∙ c.reads_of.ensures.facts) c.cover_definition.ensures.holds;
}

pub returns-in_err-id-clause-keeps : goal.returns-in_err-id-clause-keeps
returns-in_err-id-clause-keeps g c = λ n k e. c.cover_definition.ensures.reads_keep n k (c.reads_of.ensures.keeps n k e)

pub returns-in_err-add-clause-holds : goal.returns-in_err-add-clause-holds
returns-in_err-add-clause-holds g c = record {
  reads = subst (λ (G : Facts). AllHold G c.cover_definition.new.reads) (c.faults_in.ensures.facts ∙ c.reads_of.ensures.facts) c.cover_definition.ensures.reads;
  clean = subst (λ (G : Facts). AreClean G c.faults_in.new.clean) c.reads_of.ensures.facts c.faults_in.ensures.clean;
  pairs = subst (λ (G : Facts). of_pairs.AllHold G c.cover_definition.new.self) (c.faults_in.ensures.facts ∙ c.reads_of.ensures.facts) c.cover_definition.ensures.holds;
}

pub returns-in_err-add-clause-keeps : goal.returns-in_err-add-clause-keeps
returns-in_err-add-clause-keeps g c = λ n k e. c.cover_definition.ensures.reads_keep n k (c.reads_of.ensures.keeps n k e)

pub returns-clause-holds : goal.returns-clause-holds
returns-clause-holds g c = record {
  reads = subst (λ (G : Facts). AllHold G c.cover_definition.new.reads) (c.faults_in.ensures.facts ∙ c.reads_of.ensures.facts) c.cover_definition.ensures.reads;
  clean = subst (λ (G : Facts). AreClean G c.faults_in.new.clean) c.reads_of.ensures.facts c.faults_in.ensures.clean;
  pairs = subst (λ (G : Facts). of_pairs.AllHold G c.cover_definition.new.self) (c.faults_in.ensures.facts ∙ c.reads_of.ensures.facts) c.cover_definition.ensures.holds;
}

pub returns-clause-keeps : goal.returns-clause-keeps
returns-clause-keeps g c = λ n k e. c.cover_definition.ensures.reads_keep n k (c.reads_of.ensures.keeps n k e)

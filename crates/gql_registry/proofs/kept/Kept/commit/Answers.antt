use Rattle.std.proofs.Common.{rules, sym, subst}
use Rattle.gql_facts.specs.Facts.{fact_of}
use Rattle.gql_verdict.specs.Definitions.{all_definitions}
use Rattle.gql_registry.specs.Examining.{AreReadyOver}
use Rattle.gql_registry.specs.Keeping.{ArePairsOf, HasPairsDue, Keeping, KeepsPairs}
use Rattle.gql_registry.proofs.kept.Kept.commit.Goals as goal

pub commit-requires : goal.commit-requires
commit-requires c =
    let ready = subst (λ (k : Keeping). AreReadyOver k.shelf k.pairs c.args.prepared) (sym c.self.view_is) c.requires in
    (fact_of c.args.prepared.files, all_definitions c.args.prepared.files.documents, ready.planned)

pub returns-clause-files : goal.returns-clause-files
returns-clause-files c = search rules

pub returns-clause-current : goal.returns-clause-current
returns-clause-current c =
    let ready = subst (λ (k : Keeping). AreReadyOver k.shelf k.pairs c.args.prepared) (sym c.self.view_is) c.requires in
    c.commit.ensures.current (fact_of c.args.prepared.files) (all_definitions c.args.prepared.files.documents) ready.planned

pub returns-clause-pairs : goal.returns-clause-pairs
returns-clause-pairs c = subst (KeepsPairs c.args.prepared.files c.args.self.now.pairs) (sym c.commit.ensures.pairs) c.requires.keeps

pub returns-clause-walked : goal.returns-clause-walked
returns-clause-walked c = subst (HasPairsDue c.args.prepared.files c.args.self.now.shelf) (sym c.commit.ensures.pairs) c.requires.walked

pub invariant_of-self : goal.invariant_of-self
invariant_of-self c =
    let ready = subst (λ (k : Keeping). AreReadyOver k.shelf k.pairs c.args.prepared) (sym c.self.view_is) c.requires in
    record {
      placed = ready.placed;
      known_of = ready.known_of;
      current = c.commit.ensures.current (fact_of c.args.prepared.files) (all_definitions c.args.prepared.files.documents) ready.planned;
      pairs = subst (ArePairsOf c.args.prepared.files) (sym c.commit.ensures.pairs) ready.planned.pairs;
    }

use Rattle.std.proofs.Common.{sym, subst}
use Rattle.gql_ast.specs.declared.files.Files.{Files}
use Rattle.gql_registry.specs.Keeping.{HasPairsDue, IsShelfOf, KeepsPairs}
use Rattle.gql_registry.proofs.Working.{pairs_idle}
use Rattle.gql_registry.proofs.editing.commit_files.Goals as goal

pub returns-in-Some-clause-current : goal.returns-in-Some-clause-current
returns-in-Some-clause-current c =
    subst (λ (f : Files). IsShelfOf f c.commit.new.self.shelf) (sym c.commit.ensures.files) c.commit.ensures.current

pub returns-in-Some-clause-pairs : goal.returns-in-Some-clause-pairs
returns-in-Some-clause-pairs c =
    subst (λ (f : Files). KeepsPairs f c.args.kept.now.pairs c.commit.new.self.pairs) (sym c.commit.ensures.files) c.commit.ensures.pairs

pub returns-in-Some-clause-walked : goal.returns-in-Some-clause-walked
returns-in-Some-clause-walked c =
    subst (λ (f : Files). HasPairsDue f c.args.kept.now.shelf c.commit.new.self.pairs) (sym c.commit.ensures.files) c.commit.ensures.walked

pub returns-in_default-clause-walked : goal.returns-in_default-clause-walked
returns-in_default-clause-walked c =
    pairs_idle c.args.kept.now.files c.args.kept.now.shelf c.args.kept.now.pairs c.shelf-current.ensures.current

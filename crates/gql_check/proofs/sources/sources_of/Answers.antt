use Rattle.std.proofs.Common.{subst}
use Rattle.gql_check.proofs.Names.{gathered}
use Rattle.gql_check.specs.Steps.{AreNamedAll}
use Rattle.gql_ast.specs.declared.fault.FileSide.TheVariants.{Schema, Documents}
use Rattle.gql_check.proofs.sources.sources_of.Goals as goal

pub returns : goal.returns
returns c =
    gathered c.args.folder.now c.args.files.now c.args.named.now c.new-sources.result c.add_given.new.sources c.name_side.new.sources c.name_side-2.new.sources
    c.new-sources.ensures.names c.in_ok-add_given.ensures.listed c.in_ok-add_given.ensures.names
    c.in_ok-name_side.ensures.listed
    (subst (λ fs. AreNamedAll Schema fs c.add_given.new.sources c.name_side.new.sources) c.as_slice.ensures.value c.in_ok-name_side.ensures.names)
    c.in_ok-name_side-2.ensures.listed
    (subst (λ fs. AreNamedAll Documents fs c.name_side.new.sources c.name_side-2.new.sources) c.as_slice-2.ensures.value c.in_ok-name_side-2.ensures.names)

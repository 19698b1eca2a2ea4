use Rattle.std.proofs.Common.{sym}
use Rattle.gql_registry.specs.PreparedEdits.{data_after}
use Rattle.gql_registry.specs.State.{state_of}
use Rattle.gql_registry.proofs.Plans.{same_state}
use Rattle.gql_registry.proofs.registry.Registry.prepare_planned.Goals as goal

pub prepare_files-requires : goal.prepare_files-requires
prepare_files-requires c = c.requires.plan

pub count_after-faults-requires : goal.count_after-faults-requires
count_after-faults-requires c = c.in_ok-files.ensures.ready

pub returns-clause-after : goal.returns-clause-after
returns-clause-after c =
    let s = state_of c.args.self.now in
    same_state _ _ (data_after s.stored c.args.planned.new_data) _ _ c.in_ok-files.ensures.files (sym c.requires.revision)

pub returns-clause-reports : goal.returns-clause-reports
returns-clause-reports c = (c.requires.revision, c.count_after-faults.ensures)

pub returns-clause-ready : goal.returns-clause-ready
returns-clause-ready c = record { revision = c.requires.revision; files = c.in_ok-files.ensures.ready }

pub returns-clause-files : goal.returns-clause-files
returns-clause-files c = c.in_ok-files.ensures.none

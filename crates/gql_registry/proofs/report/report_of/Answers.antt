use Rattle.std.proofs.Common.{rules}
use Rattle.gql_registry.proofs.Reports.{some_if, none_if, sound_if_none}
use Rattle.gql_registry.proofs.report.report_of.Goals as goal

pub schema_report-requires : goal.schema_report-requires
schema_report-requires c = some_if c.args.schema_faults.now (search rules)

pub returns-then-not-is_empty : goal.returns-then-not-is_empty
returns-then-not-is_empty c = record { report = c.in_ok-faults.ensures c.args.files.now c.requires.schema; names = c.requires.names }

pub documents_report-requires-clause-sound : goal.documents_report-requires-clause-sound
documents_report-requires-clause-sound c = sound_if_none c.args.files.now c.args.schema_faults.now (none_if _ (search rules)) c.requires.schema

pub documents_report-requires-clause-faults : goal.documents_report-requires-clause-faults
documents_report-requires-clause-faults c = c.requires.faults (sound_if_none c.args.files.now c.args.schema_faults.now (none_if _ (search rules)) c.requires.schema)

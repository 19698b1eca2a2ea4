use Rattle.tables_rules.proofs.reports.faults_of_schema.Goals as goal

pub schema_faults-requires : goal.schema_faults-requires
schema_faults-requires c = c.in_ok-schema.ensures

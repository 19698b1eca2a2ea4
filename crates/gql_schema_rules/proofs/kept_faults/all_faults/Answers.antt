use Rattle.std.proofs.Common.{rules}
use Rattle.gql_schema_rules.proofs.ByFiles.{all_by_files}
use Rattle.gql_schema_rules.proofs.kept_faults.all_faults.Goals as goal

pub returns : goal.returns
returns c = λ files s checks others f.
    all_by_files files s c.args.checks.now c.args.others.items c.add_new.new.all.items c.node_faults_by_files.ensures others (search rules) checks f

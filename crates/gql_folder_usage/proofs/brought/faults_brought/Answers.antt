use Rattle.gql_folder_usage.proofs.Cutting.{are_brought}
use Rattle.gql_folder_usage.proofs.brought.faults_brought.Goals as goal

pub returns : goal.returns
returns c = are_brought c.args.subject.now c.args.files.now c.in_ok-left.left c.in_ok-left.ensures c.requires.sound c.in_ok-faults.faults.items c.in_ok-brought.brought.items
    c.in_ok-brought.ensures.ordered c.in_ok-brought.ensures.members c.in_ok-faults.ensures.sound c.in_ok-faults.ensures.complete

use Rattle.std.proofs.Common.{subst}
use Rattle.gql_deep.specs.Frames.{At}
use Rattle.gql_steps.specs.Objects.{basis}
use Rattle.gql_deep.proofs.machine.run_group.Goals as goal

pub returns-in-Fields-clause-does : goal.returns-in-Fields-clause-does
returns-in-Fields-clause-does c = λ whole start at. c.run_fields.ensures.does whole start (subst (λ i. At (basis c.args.setting.now) c.args.table.now i whole start c.args.run.now) c.in-Fields.is at)

pub returns-in-Nodes-clause-does : goal.returns-in-Nodes-clause-does
returns-in-Nodes-clause-does c = λ whole start at. c.run_nodes.ensures.does whole start (subst (λ i. At (basis c.args.setting.now) c.args.table.now i whole start c.args.run.now) c.in-Nodes.is at)

pub returns-in-Items-clause-does : goal.returns-in-Items-clause-does
returns-in-Items-clause-does c = λ whole start at. c.run_items.ensures.does whole start (subst (λ i. At (basis c.args.setting.now) c.args.table.now i whole start c.args.run.now) c.in-Items.is at)

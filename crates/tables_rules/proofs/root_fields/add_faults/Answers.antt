use Rattle.std.proofs.Common.{sym, subst}
use Rattle.gql_facts.specs.Members.{Lists}
use Rattle.gql_facts.specs.Reads.{Reaches}
use Rattle.gql_facts.specs.Tables.{kept_fact}
use Rattle.tables_rules.proofs.root_fields.add_faults.Goals as goal

pub single_root_faults-requires : goal.single_root_faults-requires
single_root_faults-requires c =
    subst (λ ms. Lists ms (Reaches (kept_fact c.walk_reads.new.world.schema.now c.walk_reads.new.world.fragments.now.all) c.args.definition.now)) (sym c.as_slice-members.ensures.value)
    (subst (λ f. Lists c.in-Ok.walk.members.items (Reaches f c.args.definition.now)) (sym c.walk_reads.ensures.facts) c.in-Ok.ensures.members)

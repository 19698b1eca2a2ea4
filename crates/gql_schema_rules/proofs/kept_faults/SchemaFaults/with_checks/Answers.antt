use Rattle.std.proofs.Common.{◌≡◌, [], ◌↔◌, Contains, IsTrue, subst}
use Rattle.gql_ast.specs.declared.fault.Fault.{Fault}
use Rattle.gql_iface_rules.specs.Quiet.{IsQuiet}
use Rattle.gql_node_rules.specs.FileFaults.{joint_on_types}
use Rattle.gql_schema_rules.specs.ChecksOfFiles.{AreChecksOf}
use Rattle.gql_schema_rules.specs.RuleGroups.{type_faults}
use Rattle.gql_schema_rules.specs.SchemaFaults.{FaultsBy}
use Rattle.gql_schema_rules.proofs.kept_faults.SchemaFaults.with_checks.Goals as goal

pub returns : goal.returns
returns c = λ checks ifaces enough.
    let files = c.args.files.now in record {
      checks = subst (λ s. AreChecksOf s files.schema c.args.checks) c.requires checks;
      all = subst (λ s. (f : Fault) → Contains c.in_ok-all.all.items f ↔ FaultsBy files s f) c.requires
          (c.in_ok-all.ensures files c.args.schema.now checks (c.in_ok-others.ensures.all c.requires checks (λ f. (ifaces.sound f, ifaces.complete f)) enough));
      joint = subst (λ s. IsTrue c.in_ok-others.others.are_joint_sound ↔ (joint_on_types s s.types ≡ [])) c.requires
          (subst (λ fs. IsTrue c.in_ok-others.others.are_joint_sound ↔ (fs ≡ [])) enough.joint c.in_ok-others.ensures.joint);
      sound = subst (λ s. IsTrue c.in_ok-others.others.are_types_sound ↔ (type_faults s ≡ [])) c.requires
          (subst (λ fs. IsTrue c.in_ok-others.others.are_types_sound ↔ (fs ≡ [])) enough.own c.in_ok-others.ensures.sound);
      quiet = subst (λ s. IsQuiet s c.args.found.quiet) c.requires ifaces.quiet;
    }

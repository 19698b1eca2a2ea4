use Rattle.std.proofs.Common.{◌≡◌, ◌++◌, take, map, codes}
use Rattle.std.specs.List.{flat_map}
use Rattle.gql_findings.specs.declared.finding.Finding.{Finding}
use Rattle.gql_render.specs.Texts.{fault_text}
use Rattle.gql_render.proofs.json_entries.write_faults.Given as goal

abbrev pub invariant-loop-fault : goal.invariant-loop-fault
invariant-loop-fault l = l.out.items ≡ l.initial.out.items ++ flat_map (λ (f : Finding). codes "," ++ fault_text l.sources f) (map (λ f. f.now) (take l.fault-index l.others))

use Rattle.std.proofs.Common.{◌≡◌, ◌++◌, take, map, codes}
use Rattle.std.specs.List.{flat_map}
use Rattle.gql_findings.specs.declared.finding.Affected.{Affected}
use Rattle.gql_render.specs.Texts.{affected_text}
use Rattle.gql_render.proofs.json_entries.write_operations.Given as goal

abbrev pub invariant-loop-affected : goal.invariant-loop-affected
invariant-loop-affected l = l.out.items ≡ l.initial.out.items ++ flat_map (λ (a : Affected). codes "," ++ affected_text l.sources a) (map (λ a. a.now) (take l.affected-index l.others))

use Rattle.std.proofs.Common.{◌≡◌, ◌++◌, take, codes}
use Rattle.std.specs.List.{flat_map}
use Rattle.gql_findings.specs.declared.finding.Spot.{Spot}
use Rattle.gql_render.specs.Texts.{whole_place_text}
use Rattle.gql_render.proofs.json_entries.write_places.Given as goal

abbrev pub invariant-loop-spot : goal.invariant-loop-spot
invariant-loop-spot l = l.out.items ≡ l.initial.out.items ++ flat_map (λ (p : Spot). codes "," ++ whole_place_text l.sources p) (take l.spot-index l.others)

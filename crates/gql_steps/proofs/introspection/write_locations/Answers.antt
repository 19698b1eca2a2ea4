use Rattle.std.proofs.Common.{map, codes}
use Rattle.gql_intro.specs.Introspection.{location_name}
use Rattle.gql_steps.specs.ValueParts.{names_part}
use Rattle.gql_steps.proofs.Doing.{within-done}
use Rattle.gql_steps.proofs.introspection.write_locations.Goals as goal

pub returns : goal.returns
returns c = within-done (codes "[") (codes "]") (λ p. names_part (map location_name c.args.locations.now)) c.args.run.now c.write_byte.new.run c.list_locations.new.run
    c.in_ok-write_byte.ensures.follows c.in_ok-ended.ended c.write_byte-2.new.run c.in_ok-ended.ensures c.in_ok-write_byte-2.ensures.follows

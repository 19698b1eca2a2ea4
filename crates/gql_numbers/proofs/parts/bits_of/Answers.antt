use Rattle.std.specs.Bool.{passes}
use lib.Ieee.{binary64}
use lib.Ieee.Bits.{of_bits-to_bits}
use Rattle.gql_numbers.proofs.parts.bits_of.Goals as goal

pub returns : goal.returns
returns c = record { same = of_bits-to_bits binary64 c.args.x (passes _ c.well_formed.0.1) }

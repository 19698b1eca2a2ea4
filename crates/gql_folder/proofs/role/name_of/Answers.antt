use Rattle.std.proofs.Common.{rules}
use Rattle.gql_folder.specs.Roles.{name_at}
use Rattle.gql_folder.proofs.Names.{no_name, not_ascii, too_long}
use Rattle.gql_folder.proofs.role.name_of.Goals as goal

pub returns-then-stem-most : goal.returns-then-stem-most
returns-then-stem-most c = no_name c.args.most (name_at c.args.stem.now) (too_long c.args.most c.args.stem.now c.if-stem-most.true)

pub returns-then-byte-ge128 : goal.returns-then-byte-ge128
returns-then-byte-ge128 c = no_name c.args.most (name_at c.args.stem.now) (not_ascii c.args.most c.args.stem.now c.loop-byte.byte-index (search rules) (search rules))

use Rattle.std.proofs.Common.{◌∙◌, refl}
use Rattle.gql_check.proofs.Names.{names_more, none_named}
use Rattle.gql_check.proofs.sources.name_side.Goals as goal

pub loop-file-init : goal.loop-file-init
loop-file-init c = (refl, none_named c.args.side c.args.sources.now)

pub loop-file-preserved : goal.loop-file-preserved
loop-file-preserved c = (
  c.in_ok-put_name.ensures.listed ∙ c.loop-file.invariant.0,
  names_more c.args.side c.args.named.now c.loop-file.file-index c.file-item.result c.loop-file-test.true c.file-item.is c.in_ok-copy.field-0 c.in_ok-copy.ensures
      c.args.sources.now c.loop-file.sources c.put_name.new.self c.loop-file.invariant.1 c.in_ok-put_name.ensures.names,
)

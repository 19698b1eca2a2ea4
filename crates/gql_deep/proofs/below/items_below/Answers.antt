use Rattle.std.proofs.Common.{codes, refl}
use Rattle.gql_types.specs.Written.{written}
use Rattle.gql_deep.specs.Frames.{item_parts}
use Rattle.gql_steps.specs.Plans.{types_of}
use Rattle.gql_steps.specs.States.{path_of}
use Rattle.gql_steps.specs.ValueParts.{data_items, list_part, site_of}
use Rattle.gql_steps.specs.declared.ended.Ended.TheVariants.{Written}
use Rattle.gql_deep.specs.declared.frames.ItemsFrame.{ItemsFrame}
use Rattle.gql_deep.proofs.Midway.{midway_starts}
use Rattle.gql_deep.proofs.below.items_below.Goals as goal

pub returns-clause-does : goal.returns-clause-does
returns-clause-does c = λ g t now within x asked.
    let f : ItemsFrame = record { site = c.args.site; item = c.args.item; items = c.args.items; next = 0; ended = Written } in
    let site = site_of (types_of g) c.args.site.place x in (
      refl,
      λ m opens. record {
        plan = x;
        within = within;
        asked = asked;
        midway = midway_starts (codes "[") (codes "]") (item_parts f site now) (list_part (written c.args.item.now) site (data_items c.args.items) (path_of now)) now m opens refl;
      },
    )

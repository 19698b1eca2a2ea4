use Rattle.std.proofs.Common.{subst}
use Rattle.gql_types.specs.NamePlaces.{ArePlaces}
use Rattle.gql_types.specs.declared.name_places.Places.TheVariants.{ByPrint}
use Rattle.gql_types.proofs.OwnPrints.{own_once}
use Rattle.gql_types.proofs.name_places.Places.are_once.Goals as goal

pub returns-in-ByPrint : goal.returns-in-ByPrint
returns-in-ByPrint c = λ names are once.
    let own : ArePlaces (ByPrint c.in-ByPrint.field-0) names = subst (λ places. ArePlaces places names) c.in-ByPrint.is are in
    own_once names own.1

use Rattle.std.proofs.Common.{◌-◌, ◌∙◌, ap, length, map, take}
use Rattle.std.proofs.lemmas.List.{take_rest}
use Rattle.gql_types.specs.EditedTypes.{defined_name}
use Rattle.gql_types.specs.Possible.{name_of}
use Rattle.gql_types.specs.Sites.{site}
use Rattle.gql_types.proofs.Others.{map_twice}
use Rattle.gql_types.proofs.types_around.have_names_between.Goals as goal

pub returns : goal.returns
returns c = λ same. map_twice site defined_name c.args.definitions.now ∙ c.have_same_names.ensures same
    ∙ ap (λ ts. map name_of (take (length c.args.types.now - c.args.past - c.args.until) ts)) (take_rest c.args.types.now c.args.until)

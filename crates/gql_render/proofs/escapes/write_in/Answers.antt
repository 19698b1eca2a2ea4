use Rattle.std.proofs.Common.{◌++◌, ◌∙◌, ap, sym}
use Rattle.std.specs.List.{flat_map}
use Rattle.std.specs.Prelude.{string_bytes}
use Rattle.std.proofs.lemmas.Iterator.{YieldsList-from_chars}
use Rattle.std.proofs.lemmas.Iterator.Consumers.{YieldsList-end}
use Rattle.std.proofs.lemmas.List.{map-id}
use Rattle.gql_render.specs.Escapes.{escape_in, escaped, written}
use Rattle.gql_render.proofs.escapes.write_in.Goals as goal

pub returns : goal.returns
unfolding escaped
returns c =
    let t = YieldsList-end (YieldsList-from_chars c.args.text.now c.utf8.text cc) c.loop-character.yielded _ c.loop-character.yielded_by _ _ c.in-None.is c.next.ensures.steps in
    c.loop-character.invariant ∙ ap (λ cs. string_bytes c.args.out.now ++ flat_map (λ x. written x (escape_in c.args.format x)) cs) (sym (map-id c.loop-character.yielded) ∙ t.0)

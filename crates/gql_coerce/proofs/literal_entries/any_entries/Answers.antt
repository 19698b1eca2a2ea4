use Rattle.std.proofs.Common.{◌∙◌, ap, sym, map}
use Rattle.gql_coerce.specs.Coercion.{any_entry}
use Rattle.gql_coerce.specs.Inputs.{Field, literal_field}
use Rattle.gql_coerce.proofs.Firsts.{firsts_map}
use Rattle.gql_coerce.proofs.literal_entries.any_entries.Goals as goal

pub returns : goal.returns
returns c = λ vs. c.in_ok-found.ensures vs ∙ ap (λ fs. map any_entry (map (literal_field vs) fs)) (ap (map (λ f. f.now)) c.as_slice.ensures.value ∙ c.in_ok-firsts.ensures)
    ∙ ap (map any_entry) (sym (firsts_map (literal_field vs) (λ (f : Field). f.name) c.args.fields.now))

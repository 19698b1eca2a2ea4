use Rattle.std.proofs.Common.{◌∙◌, Some, arith, ap, sym, filter, get_or, slice_get}
use Rattle.std.proofs.lemmas.Option.{get_or_from_slice_get, slice_get_within}
use Rattle.gql_types.proofs.Filtering.{at_place}
use Rattle.gql_types.proofs.defined_inputs.DefinedInputs.required_at.Goals as goal

pub offset_bounds-as_slice-index : goal.offset_bounds-as_slice-index
offset_bounds-as_slice-index g c =
    let found = at_place c.self.inside.all (filter g.T.DefinedInput.is_required c.self.inside.all) c.self.inside.required.items c.args.index c.index.result.now c.self.invariant (rw c.self.view_is c.requires) in
    let there = ap (λ i. slice_get c.self.inside.all i) c.index.ensures ∙ found.2 in
    let within = slice_get_within c.self.inside.all c.index.result.now found.0 there in
    rw c.as_slice.ensures omega (arith, within)

pub bounds-as_slice-index : goal.bounds-as_slice-index
bounds-as_slice-index g c =
    let found = at_place c.self.inside.all (filter g.T.DefinedInput.is_required c.self.inside.all) c.self.inside.required.items c.args.index c.index.result.now c.self.invariant (rw c.self.view_is c.requires) in
    let there = ap (λ i. slice_get c.self.inside.all i) c.index.ensures ∙ found.2 in
    rw c.as_slice.ensures (slice_get_within c.self.inside.all c.index.result.now found.0 there)

pub returns : goal.returns
returns g c =
    let item = c.index-as_slice-index.result in
    let found = at_place c.self.inside.all (filter g.T.DefinedInput.is_required c.self.inside.all) c.self.inside.required.items c.args.index c.index.result.now c.self.invariant (rw c.self.view_is c.requires) in
    let there = ap (λ i. slice_get c.self.inside.all i) c.index.ensures ∙ found.2 in
    ap (λ xs. slice_get (filter g.T.DefinedInput.is_required xs) c.args.index) (sym c.self.view_is) ∙ found.1
    ∙ ap Some (sym (c.index-as_slice-index.is ∙ ap (λ xs. get_or xs c.index.result.now item) c.as_slice.ensures
    ∙ get_or_from_slice_get c.self.inside.all c.index.result.now found.0 item there))

-- The order of reports ties no two faults.
use Rattle.std.proofs.Common.{◌≡◌, refl, ap, ap₂, sym, ◌∙◌, ℕ, List, ◌++◌, Option, Some, None, take, drop, take-append-drop}
use Rattle.std.specs.declared.cmp.Ordering.{Ordering}
use Rattle.std.specs.declared.cmp.Ordering.TheVariants.{Less, Equal, Greater}
use Rattle.std.specs.Ordering.{nat_cmp, ordering_then}
use Rattle.std.specs.Option.{option_cmp}
use Rattle.std.specs.Cmp.Lexicographic.{slice_cmp}
use Rattle.std.specs.FinMap.{nat_cmp-IsAntisymmetric, slice_cmp-IsAntisymmetric}
use Rattle.gql_ast.specs.Rules.{name_of}
use Rattle.gql_ast.specs.declared.fault.Fault.{Fault}
use Rattle.gql_ast.specs.declared.fault.FilePlace.{FilePlace}
use Rattle.gql_ast.specs.declared.fault.FileSide.{FileSide}
use Rattle.gql_ast.specs.declared.fault.FileSide.TheVariants.{Schema, Documents}
use Rattle.gql_report.specs.Order.{side_number, place_order, text_order, fault_order}
use Rattle.gql_report.proofs.RuleNames.{one_rule}

both : (a b : Ordering) → ordering_then a b ≡ Equal → (a ≡ Equal) × (b ≡ Equal)
both Less b e = cc
both Equal b e = (refl, e)
both Greater b e = cc

one_side : (s t : FileSide) → side_number s ≡ side_number t → s ≡ t
one_side Schema Schema e = refl
one_side Schema Documents e = cc
one_side Documents Schema e = cc
one_side Documents Documents e = refl

one_text : (s t : List ℕ) → slice_cmp nat_cmp s t ≡ Equal → s ≡ t
one_text s t e = slice_cmp-IsAntisymmetric nat_cmp-IsAntisymmetric s t e

-- the order of places ties no two
pub one_place : (p q : FilePlace) → place_order p q ≡ Equal → p ≡ q
one_place p q e =
    let a = both (nat_cmp (side_number p.side) (side_number q.side)) _ e in
    let b = both (slice_cmp nat_cmp p.file q.file) _ a.1 in
    let c = both (nat_cmp p.place.offset q.place.offset) _ b.1 in
    let d = both (nat_cmp p.place.line q.place.line) _ c.1 in
    let side = one_side p.side q.side (nat_cmp-IsAntisymmetric _ _ a.0) in
    let file = one_text p.file q.file b.0 in
    let offset = nat_cmp-IsAntisymmetric _ _ c.0 in
    let line = nat_cmp-IsAntisymmetric _ _ d.0 in
    let column = nat_cmp-IsAntisymmetric _ _ d.1 in
    λ i. record { side = side i; file = file i; place = record { line = line i; column = column i; offset = offset i } }

one_owner : (p q : Option FilePlace) → option_cmp place_order p q ≡ Equal → p ≡ q
one_owner None None e = refl
one_owner None (Some q) e = cc
one_owner (Some p) None e = cc
one_owner (Some p) (Some q) e = ap Some (one_place p q e)

pub one_fault : (f g : Fault) → fault_order f g ≡ Equal → f ≡ g
one_fault f g e =
    let a = both (slice_cmp place_order (take 1 f.places) (take 1 g.places)) _ e in
    let b = both (text_order (name_of f.rule) (name_of g.rule)) _ a.1 in
    let c = both (slice_cmp place_order (drop 1 f.places) (drop 1 g.places)) _ b.1 in
    let d = both (option_cmp place_order f.owner g.owner) _ c.1 in
    let first = slice_cmp-IsAntisymmetric one_place (take 1 f.places) (take 1 g.places) a.0 in
    let rule = one_rule f.rule g.rule (one_text _ _ b.0) in
    let rest = slice_cmp-IsAntisymmetric one_place (drop 1 f.places) (drop 1 g.places) c.0 in
    let owner = one_owner f.owner g.owner d.0 in
    let about = one_text f.about g.about d.1 in
    let places = sym (take-append-drop 1 f.places) ∙ ap₂ (λ a b. a ++ b) first rest ∙ take-append-drop 1 g.places in
    λ i. record { rule = rule i; about = about i; places = places i; owner = owner i }

-- Helper definitions: `same_place` is an equivalence, and holds of equal places alone.
use Rattle.std.specs.Prelude.{ℕ, ◌≡◌, ◌++◌, List, true}
use Rattle.std.proofs.Common.{ap}
use Rattle.std.proofs.lemmas.Map.Views.{tells_apart}
use Rattle.std.specs.Cmp.{IsEquivalence, IsPartialEquivalence, eq_by_cmp_equiv, partial_equiv_from_equiv}
use Rattle.std.specs.Hash as fed
use Rattle.gql_ast.specs.declared.fault.FilePlace.{FilePlace}
use Rattle.gql_report.proofs.Apart.{one_place}
use Rattle.gql_report.specs.Total.{place_order_total}
use Rattle.gql_serving.specs.Owners.{same_place}

-- `same_place` is an equivalence
pub same_place_equiv : IsEquivalence same_place
same_place_equiv = eq_by_cmp_equiv place_order_total

pub same_place_partial : IsPartialEquivalence same_place
same_place_partial = partial_equiv_from_equiv same_place_equiv

-- places that are the same are equal
pub same_place_equal : (p q : FilePlace) → same_place p q ≡ true → p ≡ q
same_place_equal = tells_apart one_place

-- what of a place is hashed
abbrev pub hashed : FilePlace → List (List ℕ)
hashed p = fed.str p.file ++ fed.usize p.place.offset

-- places that are the same are hashed alike
pub same_place_hashes : (p q : FilePlace) → same_place p q ≡ true → hashed p ≡ hashed q
same_place_hashes p q e = ap hashed (same_place_equal p q e)

-- Helper definitions: `is_same_field` is an equivalence, and depends on the file and the start
-- alone.
use Rattle.std.specs.Prelude.{◌≡◌, ◌++◌, ◌&&◌, Bool, true, false, refl}
use Rattle.std.proofs.Common.{ap, sym, ◌∙◌, true≢false}
use Rattle.std.proofs.lemmas.Cmp.{nat_eq_equiv}
use Rattle.std.proofs.lemmas.Slice.Eq.{bytes_eq-Decides}
use Rattle.std.specs.Cmp.{IsEquivalence, IsPartialEquivalence, and_equiv, on_equiv, partial_equiv_from_equiv, unsigned_Decides}
use Rattle.std.specs.Cmp.Lexicographic.{nat_list_eq_equiv}
use Rattle.std.specs.Hash as fed
use Rattle.gql_collect.specs.Borrowed.{node_of}
use Rattle.gql_collect.specs.Groups.{is_same_field, start_of}
use Rattle.gql_collect.specs.Nodes.{FieldNode}
use Rattle.gql_collect.specs.declared.node.FieldNode.{FieldNode as Node}

-- `is_same_field` is an equivalence of fields
pub same_field_laws : IsEquivalence is_same_field
same_field_laws = and_equiv (on_equiv (λ (n : FieldNode). n.file) nat_list_eq_equiv)
    (on_equiv start_of nat_eq_equiv)

-- `is_same_field` is an equivalence of borrowed fields
pub same_field_equiv : IsEquivalence (λ (a b : Node). is_same_field (node_of a) (node_of b))
same_field_equiv = on_equiv node_of same_field_laws

pub same_field_partial :
    IsPartialEquivalence (λ (a b : Node). is_same_field (node_of a) (node_of b))
same_field_partial = partial_equiv_from_equiv same_field_equiv

both : (x y : Bool) → x && y ≡ true → (x ≡ true) × (y ≡ true)
both true true e = (refl, refl)
both true false e = absurd (true≢false (sym e))
both false y e = absurd (true≢false (sym e))

-- equal ones are hashed alike
pub same_field_hashes : (a b : Node) → is_same_field (node_of a) (node_of b) ≡ true
    → fed.str a.file.now ++ fed.usize (start_of (node_of a))
    ≡ fed.str b.file.now ++ fed.usize (start_of (node_of b))
same_field_hashes a b same =
    let e = both _ _ same in
    ap (λ file. fed.str file ++ fed.usize (start_of (node_of a)))
    ((bytes_eq-Decides a.file.now b.file.now).0 e.0)
    ∙ ap (λ start. fed.str b.file.now ++ fed.usize start)
    ((unsigned_Decides (start_of (node_of a)) (start_of (node_of b))).0 e.1)

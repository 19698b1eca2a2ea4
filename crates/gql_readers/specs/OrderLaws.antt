-- The orders of keys and of definitions are total, and what is ordered as equal is the same.
use Rattle.std.proofs.Common.{◌≡◌, ℕ, List, refl, ap, Bool, true, ◌&&◌}
use Rattle.std.specs.Cmp.{IsTotalOrder, unsigned_Decides}
use Rattle.std.specs.Ordering.{nat_cmp, ordering_then}
use Rattle.std.specs.declared.cmp.Ordering.{Ordering}
use Rattle.std.specs.declared.cmp.Ordering.TheVariants.{Less, Equal, Greater}
use Rattle.std.proofs.lemmas.Cmp.{nat_cmp_total, nat_list_cmp_total, on_total, then_total}
use Rattle.std.proofs.lemmas.Map.Lookups.{exact_bytes, exact_pairs, exact_unsigned}
use Rattle.std.proofs.lemmas.Slice.Eq.{bytes_eq-Decides}
use Rattle.gql_ast.specs.FileMaps.{name_order}
use Rattle.gql_ast.specs.declared.definition.DefinitionId.{DefinitionId}
use Rattle.gql_facts.specs.Keys.{first_name, is_key_decides, number_of, second_name}
use Rattle.gql_facts.specs.declared.key.Key.{Key}
use Rattle.gql_readers.specs.Orders.{id_order, key_order, key_print, text_order}

pub id_total : IsTotalOrder id_order
id_total = then_total (on_total (λ (i : DefinitionId). i.file) nat_list_cmp_total) (on_total (λ (i : DefinitionId). i.offset) nat_cmp_total)

abbrev id_from : List ℕ × ℕ → DefinitionId
id_from p = record { file = p.0; offset = p.1 }

pub id_exact : (a b : DefinitionId) → id_order a b ≡ Equal → a ≡ b
id_exact a b e = ap id_from (exact_pairs name_order nat_cmp exact_bytes exact_unsigned (a.file, a.offset) (b.file, b.offset) e)

names_total : IsTotalOrder (λ (a b : Key). ordering_then (name_order (first_name a) (first_name b)) (name_order (second_name a) (second_name b)))
names_total = then_total (on_total first_name nat_list_cmp_total) (on_total second_name nat_list_cmp_total)

texts_total : IsTotalOrder text_order
texts_total = then_total (on_total number_of nat_cmp_total) names_total

pub key_total : IsTotalOrder key_order
key_total = then_total (on_total key_print nat_cmp_total) texts_total

joined : (x y : Bool) → x ≡ true → y ≡ true → x && y ≡ true
joined x y e f = rw (e, f) refl

text_exact : (a b : Key) → text_order a b ≡ Equal → a ≡ b
text_exact a b e =
    let p : (number_of a, (first_name a, second_name a)) ≡ (number_of b, (first_name b, second_name b)) =
    exact_pairs nat_cmp (λ (x y : List ℕ × List ℕ). ordering_then (name_order x.0 y.0) (name_order x.1 y.1)) exact_unsigned (exact_pairs name_order name_order exact_bytes exact_bytes)
    (number_of a, (first_name a, second_name a)) (number_of b, (first_name b, second_name b)) e in
    (is_key_decides a b).0 (joined _ _ ((unsigned_Decides (number_of a) (number_of b)).1 (ap (λ q. q.0) p))
    (joined _ _ ((bytes_eq-Decides (first_name a) (first_name b)).1 (ap (λ q. q.1.0) p))
    ((bytes_eq-Decides (second_name a) (second_name b)).1 (ap (λ q. q.1.1) p))))

then_equal : (o p : Ordering) → ordering_then o p ≡ Equal → p ≡ Equal
then_equal Less p e = absurd (let t : Less ≡ Equal = e in cc t)
then_equal Equal p e = e
then_equal Greater p e = absurd (let t : Greater ≡ Equal = e in cc t)

pub key_exact : (a b : Key) → key_order a b ≡ Equal → a ≡ b
key_exact a b e = text_exact a b (then_equal (nat_cmp (key_print a) (key_print b)) (text_order a b) e)

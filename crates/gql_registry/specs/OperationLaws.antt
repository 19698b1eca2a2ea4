-- The order of operations is total, and what is looked for rises along with it.
use Rattle.std.proofs.Common.{◌≡◌, ◌≤◌, ℕ, List, Option, Some, None, refl, arith}
use Rattle.std.specs.Cmp.{IsTotalOrder}
use Rattle.std.specs.Ordering.{ordering_index, ordering_reverse, ordering_then}
use Rattle.std.specs.declared.cmp.Ordering.{Ordering}
use Rattle.std.specs.declared.cmp.Ordering.TheVariants.{Less, Equal, Greater}
use Rattle.std.proofs.lemmas.Cmp.{nat_cmp_total, nat_list_cmp_total, on_total, then_total}
use Rattle.gql_chunks.proofs.Splitting.{rises_to}
use Rattle.gql_registry.specs.OperationOrders.{file_order, operation_order, title_order}
use Rattle.gql_registry.specs.declared.kept_operation.KeptOperation.{KeptOperation}

title_antisymm : (a b : Option (List ℕ)) → title_order a b ≡ ordering_reverse (title_order b a)
title_antisymm (Some a) (Some b) = nat_list_cmp_total.antisymm a b
title_antisymm (Some a) None = refl
title_antisymm None (Some b) = refl
title_antisymm None None = refl

title_trans : (a b c : Option (List ℕ)) → title_order a b ≡ Less → title_order b c ≡ Less → title_order a c ≡ Less
title_trans (Some a) (Some b) (Some c) p q = nat_list_cmp_total.trans a b c p q
title_trans (Some a) (Some b) None p q = refl
title_trans (Some a) None (Some c) p q = absurd (let t : Greater ≡ Less = q in cc t)
title_trans (Some a) None None p q = refl
title_trans None (Some b) c p q = absurd (let t : Greater ≡ Less = p in cc t)
title_trans None None c p q = absurd (let t : Equal ≡ Less = p in cc t)

title_congr : (a b c : Option (List ℕ)) → title_order a b ≡ Equal → title_order a c ≡ title_order b c
title_congr (Some a) (Some b) (Some c) p = nat_list_cmp_total.congr a b c p
title_congr (Some a) (Some b) None p = refl
title_congr (Some a) None c p = absurd (let t : Less ≡ Equal = p in cc t)
title_congr None (Some b) c p = absurd (let t : Greater ≡ Equal = p in cc t)
title_congr None None c p = refl

pub title_total : IsTotalOrder title_order
title_total = record { antisymm = title_antisymm; trans = title_trans; congr = title_congr }

pub file_total : IsTotalOrder file_order
file_total = then_total (on_total (λ (o : KeptOperation). o.file) nat_list_cmp_total) (on_total (λ (o : KeptOperation). o.number) nat_cmp_total)

pub operation_total : IsTotalOrder operation_order
operation_total = then_total (on_total (λ (o : KeptOperation). o.name) title_total) file_total

-- what is not after another by name is not after it in the order to a third
title_by : (o : Ordering) (f : Ordering) (a b k : Option (List ℕ)) → title_order a b ≡ o → ordering_then o f ≡ Less → ordering_index (title_order a k) ≤ ordering_index (title_order b k)
title_by Less f a b k e l = rises_to title_order title_total k a b e
title_by Equal f a b k e l = let s : title_order a k ≡ title_order b k = title_total.congr a b k e in rw s (omega arith)
title_by Greater f a b k e l = absurd (let t : Greater ≡ Less = l in cc t)

pub title_rises : (name : List ℕ) (x y : KeptOperation) → operation_order x y ≡ Less → ordering_index (title_order x.name (Some name)) ≤ ordering_index (title_order y.name (Some name))
title_rises name x y before = title_by (title_order x.name y.name) (file_order x y) x.name y.name (Some name) refl before

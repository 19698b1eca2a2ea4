-- What is said of parts that are left out is short.
use Rattle.std.proofs.Common.{ℕ, ◌+◌, ◌^◌, ◌<◌, ◌≤◌, Bool, true, false, List, [], length, codes, arith}
use Rattle.std.specs.Prelude.{decimal, ◌==◌, if◌then◌else◌}
use Rattle.std.specs.List.{count_by}
use Rattle.std.proofs.lemmas.Fmt.{length-decimal-le}
use Rattle.std.proofs.lemmas.List.{length-append}
use Rattle.gql_render.specs.Phrases.{count_text, ending}
use Rattle.gql_page.specs.Cut.{is_of_fault, is_of_operation, left_text}
use Rattle.gql_page.specs.declared.cut.Part.{Part}

short_choice : (b : Bool) → length (if b then [] else codes "s") ≤ 1
short_choice true = omega arith
short_choice false = omega arith

short_ending : (n : ℕ) → length (ending n) ≤ 1
short_ending n = short_choice (n == 1)

short_count : (n : ℕ) (noun : List ℕ) → n < 2 ^ 64 → length (count_text n noun) ≤ length noun + 22
unfolding count_text
short_count n noun h =
    let d : length (decimal n) ≤ 20 = length-decimal-le 20 n (omega arith) (omega arith) h in
    let e : length (ending n) ≤ 1 = short_ending n in
    simp length-append (omega arith)

-- what is said of parts that are left out has at most a hundred bytes
pub short_left : (parts : List Part) → count_by is_of_fault parts < 2 ^ 64 → count_by is_of_operation parts < 2 ^ 64 → length (left_text parts) ≤ 100
unfolding left_text
short_left parts h k =
    let a : length (count_text (count_by is_of_fault parts) (codes "more fault")) ≤ 32 = short_count (count_by is_of_fault parts) (codes "more fault") h in
    let b : length (count_text (count_by is_of_operation parts) (codes "more operation")) ≤ 36 = short_count (count_by is_of_operation parts) (codes "more operation") k in
    simp length-append (omega arith)

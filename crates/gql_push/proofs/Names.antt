-- The name of a file, after the front of its target.
use Rattle.std.proofs.Common.{ℕ, ◌≡◌, ◌∙◌, List, Bor, MatchOption, true, false, cond, Option, Some, None, drop, length, sym, ap, subst}
use Rattle.std.specs.Prelude.{option_map}
use Rattle.std.specs.Str.Pattern.{FindsTextPrefix, StripsPrefix}
use Rattle.std.proofs.lemmas.Str.Pattern.{starts_text}
use Rattle.gql_push.specs.Batches.{name_after}

abbrev named : (prefix target : List ℕ) → Option (List ℕ)
named prefix target = Some (drop (length prefix) target)

-- what is left of a target whose front is stripped
pub stripped : (prefix target : List ℕ) (r : Option (Bor (List ℕ)))
    → MatchOption r (FindsTextPrefix prefix target None) (λ x. StripsPrefix (FindsTextPrefix prefix) target x.now)
    → option_map (λ (x : Bor (List ℕ)). x.now) r ≡ name_after prefix target
stripped prefix target None h =
    sym (ap (λ b. cond b (named prefix target) None) (sym (starts_text false prefix target h)))
stripped prefix target (Some x) h =
    let at : h.0 ≡ length prefix = h.1.0 in
    let boundary = subst (λ n. FindsTextPrefix prefix target (Some n)) at h.1 in
    ap Some (h.2 ∙ ap (λ n. drop n target) at)
    ∙ sym (ap (λ b. cond b (named prefix target) None) (sym (starts_text true prefix target (length prefix, boundary, h.1.2))))

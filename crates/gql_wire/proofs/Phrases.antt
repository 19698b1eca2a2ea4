-- The phrases of the statuses of answers are short.
use Rattle.std.proofs.Common.{◌≡◌, ℕ, ◌≤◌, List, ◌++◌, length, Bool, true, false, ◌⊎◌, inl, inr, refl, subst, arith, eqb-true, append_assoc}
use Rattle.std.specs.Prelude.{IsTrue, ◌||◌, ◌==◌}
use Rattle.gql_wire.specs.Answer.{is_answered, phrase_of}

either : (a b : Bool) → IsTrue (a || b) → (a ≡ true) ⊎ IsTrue b
either true b h = inl refl
either false b h = inr h

abbrev IsShort : ℕ → Type 0
IsShort n = length (phrase_of n) ≤ 31

at : (m n : ℕ) → (m == n) ≡ true → IsShort m → IsShort n
at m n e h = subst IsShort (eqb-true m n e) h

pub phrase-short : (n : ℕ) → IsTrue (is_answered n) → length (phrase_of n) ≤ 31
unfolding phrase_of
phrase-short n h = elim (either (200 == n) _ h) [
  | inl e ↦ at 200 n e (omega arith)
  | inr h ↦
      elim (either (400 == n) _ h) [
        | inl e ↦ at 400 n e (omega arith)
        | inr h ↦
            elim (either (404 == n) _ h) [
              | inl e ↦ at 404 n e (omega arith)
              | inr h ↦
                  elim (either (405 == n) _ h) [
                    | inl e ↦ at 405 n e (omega arith)
                    | inr h ↦
                        elim (either (409 == n) _ h) [
                          | inl e ↦ at 409 n e (omega arith)
                          | inr h ↦
                              elim (either (413 == n) _ h) [
                                | inl e ↦ at 413 n e (omega arith)
                                | inr h ↦
                                    elim (either (422 == n) _ h) [
                                      | inl e ↦ at 422 n e (omega arith)
                                      | inr h ↦
                                          elim (either (431 == n) _ h) [
                                            | inl e ↦ at 431 n e (omega arith)
                                            | inr h ↦
                                                elim (either (501 == n) _ h) [ inl e ↦ at 501 n e (omega arith) | inr h ↦ absurd (let bad : false ≡ true = h in cc) ]
                                          ]
                                    ]
                              ]
                        ]
                  ]
            ]
      ]
]

-- five parts appended to a text
pub joined : (out s a b c e : List ℕ) → ((((out ++ s) ++ a) ++ b) ++ c) ++ e ≡ out ++ ((((s ++ a) ++ b) ++ c) ++ e)
joined out s a b c e = simp append_assoc refl

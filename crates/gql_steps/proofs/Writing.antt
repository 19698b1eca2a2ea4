-- The text of lists and objects, one part after the other.
use Rattle.std.proofs.Common.{◌≡◌, ℕ, List, [], ◌∷◌, ◌++◌, Bool, Float, Option, Some, None, Vec, Global, false, true, reverse, refl, sym, ap, ◌∙◌, append_assoc, append-nil}
use Rattle.std.proofs.lemmas.List.{reverse-append}
use Rattle.std.specs.Float.{float_is_finite}
use Rattle.std.specs.Float.Ieee.{nan, inf, fin}
use Rattle.gql_numbers.specs.Doubles.{double_text}
use Rattle.json.specs.Print.{quoted}
use Rattle.serde_json.specs.Data.{Data, Num, unsigned, negative, float, Members, member}
use Rattle.serde_json.specs.Find.{as_i64, as_u64, to_float}
use Rattle.serde_json.specs.Written.{comma_if}
use Rattle.gql_steps.specs.JsonText.{json_text, members_text, number_text}
use Rattle.gql_steps.specs.WriteFrames.{inner_text, rest_text, step_text, waiting_text}
use Rattle.gql_steps.specs.declared.values.TextFrame.{TextFrame}
use Rattle.gql_steps.specs.declared.values.TextStep.{TextStep}
use Rattle.gql_steps.specs.declared.values.TextStep.TheVariants as step

-- a double that is not finite has no text
pub no_double : (out : List ℕ) (x : Float) → float_is_finite x ≡ false → out ≡ out ++ double_text x
unfolding float_is_finite
no_double out nan e = sym (append-nil out)
no_double out (inf s) e = sym (append-nil out)
no_double out (fin s m k) e = absurd (cc e)

-- a number that is no integer is a double
pub real_text : (n : Num) → as_u64 n ≡ None → as_i64 n ≡ None → number_text n ≡ double_text (to_float n)
real_text (unsigned n) e h = absurd (cc e)
real_text (negative z) e h = absurd (cc h)
real_text (float x) e h = refl

-- one frame more on the stack
one_more_waits : (fs : List TextFrame) (f : TextFrame) → waiting_text (reverse (fs ++ f ∷ [])) ≡ rest_text true f ++ waiting_text (reverse fs)
one_more_waits fs f = ap waiting_text (reverse-append fs (f ∷ []))

-- a part is written in front of what comes after it
written_before : (out new part rest after : List ℕ) → new ++ rest ≡ out ++ part → new ++ (rest ++ after) ≡ out ++ (part ++ after)
written_before out new part rest after e = sym (append_assoc new rest after) ∙ ap (λ t. t ++ after) e ∙ append_assoc out part after

pub part_begun : (out new part : List ℕ) (o : Option TextFrame) (f : TextFrame) (after : List ℕ) → o ≡ Some f → new ++ inner_text o ≡ out ++ part
    → new ++ (rest_text false f ++ after) ≡ out ++ (part ++ after)
part_begun out new part o f after is e = written_before out new part (rest_text false f) after (ap (λ x. new ++ inner_text x) (sym is) ∙ e)

module _ (old new : List TextFrame) where
  -- a list or an object is entered, and the one around it waits
  pub part_entered : (outer inner : TextFrame) (s t u : TextStep) (whole : List ℕ) (before after out : Vec ℕ Global)
      → s ≡ step.Within outer inner → t ≡ u → after ≡ out → before.items ++ (step_text s ++ waiting_text (reverse old)) ≡ whole → new ≡ old ++ outer ∷ []
      → out.items ++ step_text u ≡ before.items ++ rest_text false inner
      → after.items ++ (step_text t ++ waiting_text (reverse new)) ≡ whole
  part_entered outer inner s t u whole before after out was is here inv more e =
      ap (λ (o : Vec ℕ Global). o.items ++ (step_text t ++ waiting_text (reverse new))) here
      ∙ ap (λ x. out.items ++ (step_text x ++ waiting_text (reverse new))) is
      ∙ written_before before.items out.items (rest_text false inner) (step_text u) (waiting_text (reverse new)) e
      ∙ ap (λ fs. before.items ++ (rest_text false inner ++ waiting_text (reverse fs))) more
      ∙ ap (λ w. before.items ++ (rest_text false inner ++ w)) (one_more_waits old outer)
      ∙ ap (λ w. before.items ++ w) (sym (append_assoc (rest_text false inner) (rest_text true outer) (waiting_text (reverse old))))
      ∙ ap (λ x. before.items ++ (step_text x ++ waiting_text (reverse old))) (sym was)
      ∙ inv

  -- a list or an object is written, and the one around it goes on
  pub part_written : (f : TextFrame) (s t u : TextStep) (whole : List ℕ) (before after out : Vec ℕ Global)
      → s ≡ step.Written → t ≡ u → after ≡ out → before.items ++ (step_text s ++ waiting_text (reverse old)) ≡ whole → old ≡ new ++ f ∷ []
      → out.items ++ step_text u ≡ before.items ++ rest_text true f
      → after.items ++ (step_text t ++ waiting_text (reverse new)) ≡ whole
  part_written f s t u whole before after out was is here inv more e =
      ap (λ (o : Vec ℕ Global). o.items ++ (step_text t ++ waiting_text (reverse new))) here
      ∙ ap (λ x. out.items ++ (step_text x ++ waiting_text (reverse new))) is
      ∙ written_before before.items out.items (rest_text true f) (step_text u) (waiting_text (reverse new)) e
      ∙ ap (λ w. before.items ++ w) (sym (ap (λ fs. waiting_text (reverse fs)) more ∙ one_more_waits new f))
      ∙ ap (λ x. before.items ++ (step_text x ++ waiting_text (reverse old))) (sym was)
      ∙ inv

-- the name of a member is written
pub member_begun : (later : Bool) (k : List ℕ) (d : Data) (ms : Members) (out a b c : List ℕ) → a ≡ out ++ comma_if later → b ≡ a ++ quoted k → c ≡ b ++ 58 ∷ []
    → c ++ (json_text d ++ members_text true ms) ≡ out ++ members_text later (member k d ms)
member_begun later k d ms out a b c first second third =
    ap (λ x. x ++ (json_text d ++ members_text true ms)) third ∙ append_assoc b (58 ∷ []) (json_text d ++ members_text true ms)
    ∙ ap (λ x. x ++ 58 ∷ (json_text d ++ members_text true ms)) second ∙ append_assoc a (quoted k) (58 ∷ (json_text d ++ members_text true ms))
    ∙ ap (λ x. x ++ (quoted k ++ 58 ∷ (json_text d ++ members_text true ms))) first
    ∙ append_assoc out (comma_if later) (quoted k ++ 58 ∷ (json_text d ++ members_text true ms))

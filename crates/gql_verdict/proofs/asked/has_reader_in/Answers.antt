use Rattle.std.proofs.Common.{◌≡◌, ◌∙◌, Contains, List, false, inl, inr, refl, subst, sym, true}
use Rattle.gql_readers.specs.Indexes.{Reading}
use Rattle.gql_verdict.proofs.AskedKeys.{asked_read, read_asked}
use Rattle.gql_verdict.proofs.asked.has_reader_in.Goals as goal

pub returns-then-is_asked_itself : goal.returns-then-is_asked_itself
returns-then-is_asked_itself c =
    let e = c.is_asked_itself.ensures.0 c.if-is_asked_itself.true in
    (λ t. asked_read c.args.slots.now c.args.index.now c.requires c.args.key.now e.0 e.1 e.3, λ h. refl)

pub returns-then-not-is_about_type : goal.returns-then-not-is_about_type
returns-then-not-is_about_type c = (
  λ t. let z : false ≡ true = t in cc z,
  λ h. let e = read_asked c.args.slots.now c.args.index.now c.requires c.args.key.now h.0 h.1 h.2 in elim e.3 [
    | inl a ↦ let z : true ≡ false = sym (c.is_about_type.ensures ∙ a) ∙ c.if-not-is_about_type.true in cc z
    | inr s ↦ let z : true ≡ false = sym (c.is_asked_itself.ensures.1 (e.0, e.1, s, e.2)) ∙ c.if-is_asked_itself.false in cc z
  ],
)

pub returns : goal.returns
returns c = (
  λ t. let e = c.is_one_asked.ensures.0 t in asked_read c.args.slots.now c.args.index.now c.requires c.args.key.now e.0 (subst (λ (es : List Reading). Contains es e.0) c.entries.ensures e.1) e.2,
  λ h. let e = read_asked c.args.slots.now c.args.index.now c.requires c.args.key.now h.0 h.1 h.2 in
      c.is_one_asked.ensures.1 (e.0, subst (λ (es : List Reading). Contains es e.0) (sym c.entries.ensures) e.1, e.2),
)

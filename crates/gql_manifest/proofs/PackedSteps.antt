-- Pieces that are put together in files, one after the other.
use Rattle.std.proofs.Common.{◌≡◌, ◌<◌, ◌≤◌, ◌+◌, ◌++◌, ◌∷◌, ◌∙◌, ◌⊎◌, inl, inr, [], ℕ, List, All, Bor, Vec, get_or, take, refl, sym, ap, subst, length, map, append_assoc, append-nil, length-append, arith}
use Rattle.std.proofs.lemmas.Bool.{cases_lt}
use Rattle.std.proofs.lemmas.List.Concat.{flat_map-append}
use Rattle.std.proofs.lemmas.List.{map-append, map_more, take_all}
use Rattle.std.proofs.lemmas.List.Elements.{All-nil, All-push}
use Rattle.std.specs.declared.alloc.Global.{Global}
use Rattle.gql_manifest.specs.Packing.{Fits, IsPacked, IsTextFor, joined, pieces_of, text_of, texts_of, with_empty_line}

-- These texts and the one that is begun are those of groups of the pieces that are done. Of what is
-- begun it holds, too, that it is not too long or a single piece.
pub record Packs (most : ℕ) (done texts : List (List ℕ)) (text : List ℕ) : Type 0 where
  pub groups : List (List (List ℕ))
  pub group : List (List ℕ)
  pub all : joined groups ++ group ≡ done
  pub texts_are : texts ≡ map text_of groups
  pub text_is : text ≡ text_of group
  pub fit : All (Fits most) groups
  pub begun : (length text ≤ most) ⊎ (length group ≤ 1)

-- a text that is not full is empty or has room
pub not_full : (n m most : ℕ) → ((0 < n) × (most ≤ n + m) → ⊥) → (n ≡ 0) ⊎ (n + m + 1 ≤ most)
not_full n m most none = elim (cases_lt 0 n) [
  | inl some ↦ elim (cases_lt (n + m) most) [
    | inl low ↦ inr (omega arith)
    | inr high ↦ absurd (none (some, high))
  ]
  | inr zero ↦ inl (omega arith)
]

-- nothing is done
pub packs_none : (most : ℕ) → Packs most [] [] []
packs_none most = record {
  groups = [];
  group = [];
  all = refl;
  texts_are = refl;
  text_is = refl;
  fit = All-nil (Fits most);
  begun = inl (omega arith);
}

-- the text of one more piece
text_more : (group : List (List ℕ)) (piece : List ℕ) → text_of (group ++ piece ∷ []) ≡ text_of group ++ with_empty_line piece
text_more group piece = flat_map-append with_empty_line group (piece ∷ []) ∙ ap (λ t. text_of group ++ t) (append-nil (with_empty_line piece))

-- a text is empty where nothing is in it
no_text : (group : List (List ℕ)) → length (text_of group) ≡ 0 → group ≡ []
no_text [] none = refl
no_text (piece ∷ group) none = absurd (omega (arith, none, length-append (with_empty_line piece) (text_of group), length-append piece (10 ∷ [])))

-- where there is text, there is a piece
some_piece : (group : List (List ℕ)) → 0 < length (text_of group) → 0 < length group
some_piece [] some = some
some_piece (piece ∷ group) some = omega arith

-- one more piece in the text that is begun, where there is room for it or nothing yet
pub packs_more : (most : ℕ) (done texts : List (List ℕ)) (text piece : List ℕ) → Packs most done texts text
    → (length text ≡ 0) ⊎ (length text + length piece + 1 ≤ most)
    → Packs most (done ++ piece ∷ []) texts ((text ++ piece) ++ 10 ∷ [])
packs_more most done texts text piece old room = record {
  groups = old.groups;
  group = old.group ++ piece ∷ [];
  all = sym (append_assoc (joined old.groups) old.group (piece ∷ [])) ∙ ap (λ d. d ++ piece ∷ []) old.all;
  texts_are = old.texts_are;
  text_is = append_assoc text piece (10 ∷ []) ∙ ap (λ t. t ++ with_empty_line piece) old.text_is ∙ sym (text_more old.group piece);
  fit = old.fit;
  begun = elim room [
    | inl none ↦ let empty : old.group ≡ [] = no_text old.group (sym (ap length old.text_is) ∙ none) in
        inr (subst (λ g. length (g ++ piece ∷ []) ≤ 1) (sym empty) (omega arith))
    | inr short ↦ inl (omega (arith, short, length-append (text ++ piece) (10 ∷ []), length-append text piece))
  ];
}

-- the text that is begun is done
pub packs_next : (most : ℕ) (done texts : List (List ℕ)) (text : List ℕ) → Packs most done texts text → 0 < length text
    → Packs most done (texts ++ text ∷ []) []
packs_next most done texts text old some = record {
  groups = old.groups ++ old.group ∷ [];
  group = [];
  all = append-nil _ ∙ flat_map-append (λ g. g) old.groups (old.group ∷ []) ∙ ap (λ g. joined old.groups ++ g) (append-nil old.group) ∙ old.all;
  texts_are = ap (λ ts. ts ++ text ∷ []) old.texts_are ∙ ap (λ t. map text_of old.groups ++ t ∷ []) old.text_is ∙ sym (map-append text_of old.groups (old.group ∷ []));
  text_is = refl;
  fit = All-push (Fits most) old.groups old.group old.fit fits;
  begun = inl (omega arith);
}
  where
    one : 0 < length old.group
    one = some_piece old.group (subst (λ t. 0 < length t) old.text_is some)

    fits : Fits most old.group
    fits = (
      one,
      elim old.begun [
        | inl short ↦ inl (subst (λ t. length t ≤ most) old.text_is short)
        | inr few ↦ inr (omega (arith, few, one))
      ],
    )

-- one more piece, in the text that is for it
pub packs_step : (most : ℕ) (pieces : List (Bor (List ℕ))) (i : ℕ) (piece : Bor (List ℕ)) (texts new : List (Vec ℕ Global)) (begun text : Vec ℕ Global) (t u : List ℕ) → i < length pieces
    → piece ≡ get_or pieces i piece → Packs most (pieces_of (take i pieces)) (texts_of texts) begun.items → IsTextFor most piece.now texts begun new text → t ≡ text.items ++ piece.now → u ≡ t ++ 10 ∷ []
    → Packs most (pieces_of (take (i + 1) pieces)) (texts_of new) u
packs_step most pieces i piece texts new begun text t u within here old is_for added ended = subst (λ d. Packs most d (texts_of new) u) (sym more) (subst (Packs most (done ++ piece.now ∷ []) (texts_of new)) (sym last) next)
  where
    done : List (List ℕ)
    done = pieces_of (take i pieces)

    more : pieces_of (take (i + 1) pieces) ≡ done ++ piece.now ∷ []
    more = map_more (λ (p : Bor (List ℕ)). p.now) pieces i piece within ∙ ap (λ (p : Bor (List ℕ)). done ++ p.now ∷ []) (sym here)

    last : u ≡ (text.items ++ piece.now) ++ 10 ∷ []
    last = ended ∙ ap (λ x. x ++ 10 ∷ []) added

    next : Packs most (done ++ piece.now ∷ []) (texts_of new) ((text.items ++ piece.now) ++ 10 ∷ [])
    next = elim is_for [
      | inl same ↦
          let before : Packs most done (texts_of new) text.items = subst (λ (v : Vec ℕ Global). Packs most done (texts_of new) v.items) (sym same.1) (subst (λ ts. Packs most done (texts_of ts) begun.items) (sym same.0) old) in
          packs_more most done (texts_of new) text.items piece.now before
          (subst (λ (v : Vec ℕ Global). (length v.items ≡ 0) ⊎ (length v.items + length piece.now + 1 ≤ most)) (sym same.1) same.2)
      | inr full ↦
          let texts_are : texts_of new ≡ texts_of texts ++ begun.items ∷ [] = ap texts_of full.0 ∙ map-append (λ (v : Vec ℕ Global). v.items) texts (begun ∷ []) in
          let before : Packs most done (texts_of new) [] = subst (λ ts. Packs most done ts []) (sym texts_are) (packs_next most done (texts_of texts) begun.items old full.2) in
          packs_more most done (texts_of new) text.items piece.now (subst (Packs most done (texts_of new)) (sym full.1) before) (inl (ap length full.1))
    ]

-- all is done, where the text that is begun is empty
packs_end : (most : ℕ) (done texts : List (List ℕ)) (text : List ℕ) → Packs most done texts text → length text ≡ 0 → IsPacked most done texts
packs_end most done texts text old none = record {
  groups = old.groups;
  all = sym (append-nil (joined old.groups)) ∙ ap (λ g. joined old.groups ++ g) (sym (no_text old.group (sym (ap length old.text_is) ∙ none))) ∙ old.all;
  texts_are = old.texts_are;
  fit = old.fit;
}

-- all is done, with the text that is begun
packs_last : (most : ℕ) (done : List (List ℕ)) (texts new : List (Vec ℕ Global)) (text : Vec ℕ Global) → Packs most done (texts_of texts) text.items → 0 < length text.items → new ≡ texts ++ text ∷ []
    → IsPacked most done (texts_of new)
packs_last most done texts new text old some is =
    let texts_are : texts_of new ≡ texts_of texts ++ text.items ∷ [] = ap texts_of is ∙ map-append (λ (v : Vec ℕ Global). v.items) texts (text ∷ []) in
    packs_end most done (texts_of new) [] (subst (λ ts. Packs most done ts []) (sym texts_are) (packs_next most done (texts_of texts) text.items old some)) refl

-- all pieces are done, and the text that is begun is empty
pub packs_end_all : (most : ℕ) (pieces : List (Bor (List ℕ))) (i : ℕ) (texts : List (Vec ℕ Global)) (text : Vec ℕ Global) → Packs most (pieces_of (take i pieces)) (texts_of texts) text.items
    → length pieces ≤ i → length text.items ≡ 0 → IsPacked most (pieces_of pieces) (texts_of texts)
packs_end_all most pieces i texts text old past none =
    subst (λ (ps : List (Bor (List ℕ))). IsPacked most (pieces_of ps) (texts_of texts)) (take_all i pieces past) (packs_end most (pieces_of (take i pieces)) (texts_of texts) text.items old none)

-- all pieces are done, with the text that is begun
pub packs_last_all : (most : ℕ) (pieces : List (Bor (List ℕ))) (i : ℕ) (texts new : List (Vec ℕ Global)) (text : Vec ℕ Global) → Packs most (pieces_of (take i pieces)) (texts_of texts) text.items
    → length pieces ≤ i → 0 < length text.items → new ≡ texts ++ text ∷ [] → IsPacked most (pieces_of pieces) (texts_of new)
packs_last_all most pieces i texts new text old past some is =
    subst (λ (ps : List (Bor (List ℕ))). IsPacked most (pieces_of ps) (texts_of new)) (take_all i pieces past) (packs_last most (pieces_of (take i pieces)) texts new text old some is)

-- What a network reports, some of it after other.
use Rattle.std.proofs.Common.{◌≡◌, ◌∙◌, inl, inr, List, [], ◌++◌, Option, Some, None, refl, sym, ap, subst, append_assoc, append-nil}
use Rattle.gql_server.specs.Rooms.{taken_back}
use Rattle.gql_server.specs.Traffic.{Grows, Line, Traffic, accepts, joined, no_traffic, returns}
use Rattle.gql_server.specs.Turns.{Talk}
use Rattle.gql_server.specs.declared.report.Report.{Report}

pub same_traffic : (a b c d : List Line) (e f : List Report) → a ≡ b → c ≡ d → e ≡ f
    → ◌≡◌ {A = Traffic} (record { accepted = a; returned = c; reports = e }) (record { accepted = b; returned = d; reports = f })
same_traffic a b c d e f p q r = λ i. record { accepted = p i; returned = q i; reports = r i }

-- nothing comes after it
pub joined_nothing : (t : Traffic) → joined t no_traffic ≡ t
joined_nothing t =
    same_traffic _ _ _ _ _ _ (append-nil t.accepted) (append-nil t.returned) (append-nil t.reports)

pub joined_assoc : (s t u : Traffic) → joined (joined s t) u ≡ joined s (joined t u)
joined_assoc s t u =
    same_traffic _ _ _ _ _ _ (append_assoc s.accepted t.accepted u.accepted)
    (append_assoc s.returned t.returned u.returned) (append_assoc s.reports t.reports u.reports)

-- a connection leaves its seat to one that was accepted before
pub replaced : (old : Option Talk) (line : Line)
    → joined (taken_back old) (accepts line) ≡ joined (accepts line) (taken_back old)
replaced None line = refl
replaced (Some talk) line = refl

-- a connection leaves its seat to one that was accepted before and is turned away
pub refused : (old : Option Talk) (line : Line)
    → joined (taken_back old) (joined (accepts line) (returns line))
    ≡ joined (accepts line) (joined (taken_back old) (returns line))
refused None line = refl
refused (Some talk) line = refl

pub grows_nothing : (a b : Option Traffic) → b ≡ a → Grows a b no_traffic
grows_nothing None b e = e
grows_nothing (Some old) b e =
    inl (e ∙ ap (λ (t : Traffic). Some t) (sym (joined_nothing old)))

after_known : (old s t : Traffic) (c : Option Traffic) → Grows (Some (joined old s)) c t
    → Grows (Some old) c (joined s t)
after_known old s t c (inl e) = inl (e ∙ ap (λ (u : Traffic). Some u) (joined_assoc old s t))
after_known old s t c (inr e) = inr e

pub grows_join : (a b c : Option Traffic) (s t : Traffic) → Grows a b s → Grows b c t
    → Grows a c (joined s t)
grows_join None b c s t p q = subst (λ (x : Option Traffic). Grows x c t) p q
grows_join (Some old) b c s t (inl p) q =
    after_known old s t c (subst (λ (x : Option Traffic). Grows x c t) p q)
grows_join (Some old) b c s t (inr p) q = inr (subst (λ (x : Option Traffic). Grows x c t) p q)

-- before or after a step that reports nothing
pub grows_from : (a b c : Option Traffic) (t : Traffic) → b ≡ a → Grows b c t → Grows a c t
grows_from a b c t e g = subst (λ (x : Option Traffic). Grows x c t) e g

pub grows_until : (a b c : Option Traffic) (t : Traffic) → Grows a b t → c ≡ b → Grows a c t
grows_until a b c t g e = subst (λ (x : Option Traffic). Grows a x t) (sym e) g

-- the same of what is equal
pub grows_as : (a b : Option Traffic) (s t : Traffic) → s ≡ t → Grows a b s → Grows a b t
grows_as a b s t e g = subst (λ (x : Traffic). Grows a b x) e g

-- a socket is taken back as it was handed out
pub grows_same : (a b c : Option Traffic) (x y : Line) → b ≡ a → y ≡ x → Grows b c (returns y)
    → Grows a c (returns x)
grows_same a b c x y same line g =
    grows_as a c (returns y) (returns x) (ap returns line) (grows_from a b c (returns y) same g)

-- no connection is accepted by either
pub none_more : (s t : Traffic) → s.accepted ≡ [] → t.accepted ≡ [] → s.accepted ++ t.accepted ≡ []
none_more s t p q = rw p q

-- What a network in memory reports, some of it after other.
use Rattle.std.proofs.Common.{◌≡◌, ◌∙◌, inl, inr, ℕ, List, [], ◌∷◌, ◌++◌, Bool, true, false, Some, None, map, refl, sym, ap, append-nil}
use Rattle.std.proofs.lemmas.List.{map-append}
use Rattle.gql_server.proofs.Growing.{same_traffic}
use Rattle.gql_server.specs.MemNetwork.{known, line_in, new_line}
use Rattle.gql_server.specs.Traffic.{Grows, Traffic, accepts, reports_one, returns}
use Rattle.gql_server.specs.declared.mem_socket.MemSocket.{MemSocket}
use Rattle.gql_server.specs.declared.report.Report.{Report}

-- nothing is reported any more
pub known_lost : (b : Bool) (places : List ℕ) (sockets : List MemSocket) (reports : List Report)
    (t : Traffic) → Grows (known b places sockets reports) None t
known_lost false places sockets reports t = refl
known_lost true places sockets reports t = inr refl

pub known_accepts : (b : Bool) (places new : List ℕ) (place : ℕ) (sockets : List MemSocket)
    (reports : List Report) → new ≡ places ++ place ∷ []
    → Grows (known b places sockets reports) (known b new sockets reports) (accepts new_line)
known_accepts false places new place sockets reports is = refl
known_accepts true places new place sockets reports is =
    inl (ap (λ (t : Traffic). Some t) (same_traffic _ _ _ _ _ _
    (ap (map (λ (p : ℕ). new_line)) is ∙ map-append (λ (p : ℕ). new_line) places (place ∷ []))
    (sym (append-nil (map line_in sockets))) (sym (append-nil reports))))

pub known_returns : (b : Bool) (places : List ℕ) (sockets new : List MemSocket) (socket : MemSocket)
    (reports : List Report) → new ≡ sockets ++ socket ∷ []
    → Grows (known b places sockets reports) (known b places new reports) (returns (line_in socket))
known_returns false places sockets new socket reports is = refl
known_returns true places sockets new socket reports is =
    inl (ap (λ (t : Traffic). Some t) (same_traffic _ _ _ _ _ _
    (sym (append-nil (map (λ (p : ℕ). new_line) places)))
    (ap (map line_in) is ∙ map-append line_in sockets (socket ∷ [])) (sym (append-nil reports))))

pub known_reports : (b : Bool) (places : List ℕ) (sockets : List MemSocket) (reports new : List Report)
    (report : Report) → new ≡ reports ++ report ∷ []
    → Grows (known b places sockets reports) (known b places sockets new) (reports_one report)
known_reports false places sockets reports new report is = refl
known_reports true places sockets reports new report is =
    inl (ap (λ (t : Traffic). Some t) (same_traffic _ _ _ _ _ _
    (sym (append-nil (map (λ (p : ℕ). new_line) places))) (sym (append-nil (map line_in sockets))) is))

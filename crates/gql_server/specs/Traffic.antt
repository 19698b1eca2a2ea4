-- What a network reports: the sockets that it hands out and takes back, and which may be ready.
use Rattle.std.specs.Prelude.{ℕ, ◌≡◌, ◌⊎◌, List, [], ◌∷◌, ◌++◌, Bool, Option, Some, None}
use Rattle.gql_wire.specs.Peer.{Passage}
use Rattle.gql_server.specs.declared.report.Report.{Report}

-- what is known of a socket: what passed so far, if it reports that, whether a read or a write has
-- failed, whether the input is at its end, and how many reads and writes could move nothing
pub record Line : Type 0 where
  pub transcript : Option (List Passage)
  pub has_failed : Bool
  pub ended : Bool
  pub waits : ℕ

-- What a network did, each in order: what was known of the sockets whose connections it accepted,
-- what was known of those that it took back, and what its waits reported.
pub record Traffic : Type 0 where
  pub accepted : List Line
  pub returned : List Line
  pub reports : List Report

-- nothing was done
abbrev pub no_traffic : Traffic
no_traffic = record { accepted = []; returned = []; reports = [] }

-- one after the other
abbrev pub joined : Traffic → Traffic → Traffic
joined s t = record {
  accepted = s.accepted ++ t.accepted;
  returned = s.returned ++ t.returned;
  reports = s.reports ++ t.reports;
}

-- a connection was accepted
abbrev pub accepts : Line → Traffic
accepts line = record { accepted = line ∷ []; returned = []; reports = [] }

-- a socket was taken back
abbrev pub returns : Line → Traffic
returns line = record { accepted = []; returned = line ∷ []; reports = [] }

-- a wait reported this
abbrev pub reports_one : Report → Traffic
reports_one report = record { accepted = []; returned = []; reports = report ∷ [] }

-- The network reports that it did this after what it did before. One that reports nothing goes on
-- so, and any may report nothing from then on.
abbrev pub Grows : Option Traffic → Option Traffic → Traffic → Type 0
Grows None new more = new ≡ None
Grows (Some old) new more = (new ≡ Some (joined old more)) ⊎ (new ≡ None)

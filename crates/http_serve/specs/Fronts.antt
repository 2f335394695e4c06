-- What a request asks for, as its first bytes show.
use Rattle.std.specs.Prelude.{◌≡◌, ◌≢◌, ℕ, ◌<◌, List, ◌++◌, length, slice_index, codes, nat_eq, None, IsTrue}
use Rattle.std.specs.List.{ends_with}
use Rattle.site_ids.specs.declared.Ticket.{Ticket}
use Rattle.http_read.specs.Progress as reading
use Rattle.http_serve.specs.ConnectionSteps.{MayAnswer}
use Rattle.http_serve.specs.Paths.{IsTicketPath}
use Rattle.http_serve.specs.declared.connection.Connection.{Connection}

-- between its method, GET, and the next space is this target
pub record Gets (bytes target : List ℕ) : Type 0 where
  pub rest : List ℕ
  pub spelled : bytes ≡ codes "GET " ++ (target ++ (codes " " ++ rest))
  pub plain : (k : ℕ) → k < length target → slice_index target k ≢ 32

-- the target is the path of this ticket's receipt, nothing of it encoded
pub record GetsReceipt (bytes : List ℕ) (ticket : Ticket) : Type 0 where
  pub target : List ℕ
  pub gets : Gets bytes target
  pub path : IsTicketPath (codes "/_ticket/") target ticket

-- the next request may be answered, is held as it came, and asks for this receipt
pub record AsksReceipt (connection : Connection) (ticket : Ticket) : Type 0 where
  pub may : MayAnswer connection
  pub unused : reading.awaited_of connection.progress ≡ None
  pub gets : GetsReceipt connection.inbox ticket

-- and all of it seems to be there: a blank line ends what came
abbrev pub HasAsked : Connection → Type 0
HasAsked connection =
    IsTrue (ends_with nat_eq connection.inbox (codes "\r\n\r\n"))
    × ((ticket : Ticket) × AsksReceipt connection ticket)

-- What the options ask a server to be.
use Rattle.std.specs.Prelude.{ℕ, List, length}
use Rattle.std.specs.Net.Grammar.{IsSocketText}
use Rattle.std.specs.declared.net.socket_addr.SocketAddr.{SocketAddr}
use Rattle.site_ids.specs.Ids.{IsNode}
use Rattle.site_ids.specs.Lists.{In}
use Rattle.server_faults.specs.declared.serve_options.ServeOptions.{ServeOptions}

-- the text is an address and a port, as std reads them
abbrev pub IsAddress : List ℕ → Type 0
IsAddress text = (at : SocketAddr) × IsSocketText text at

-- each of these is such a text
abbrev pub AreAddresses : {X : Type 0} → List X → (X → List ℕ) → Type 0
AreAddresses {X} texts text_of = (x : X) → In texts x → IsAddress (text_of x)

-- there are one to nine nodes, and the server is one of them. Each has an address, and so have its requests
pub record IsPlaced (o : ServeOptions) : Type 0 where
  pub cluster : IsNode 9 (length o.peers.items)
  pub me : IsNode (length o.peers.items) o.id
  pub peers : AreAddresses o.peers.items (λ text. text.now)
  pub http : IsAddress o.http.now

-- POST is taken for submissions alone.
use Rattle.std.proofs.Common.{◌≡◌, ◌⊎◌, ℕ, List, codes, refl, inl, inr, Bor}
use Rattle.site_ids.specs.declared.Ticket.{Ticket}
use Rattle.http_serve.specs.declared.resource.Resource.{Resource as Lent}
use Rattle.http_serve.specs.declared.resource.Resource.TheVariants as lent
use Rattle.http_serve.specs.Resources.{resource_shown}
use Rattle.http_serve.specs.Responses.{wrong_method, RepliesToPost}
use Rattle.http_serve.specs.Services.{Offered}

pub elsewhere : {S : Type 0} (service : Offered S) (now : S) (body : List ℕ) (resource : Lent)
    → ((ticket : Ticket) × (resource ≡ lent.Receipt ticket)) ⊎ ((resource ≡ lent.Newest)
    ⊎ (((n : ℕ) × (rest : Bor (List ℕ)) × (resource ≡ lent.Release n rest)) ⊎ (resource ≡ lent.Page)))
    → RepliesToPost service now body (resource_shown resource) now (wrong_method (codes "GET, HEAD"))
elsewhere service now body resource (inl (ticket, is)) = rw is (refl, refl)
elsewhere service now body resource (inr (inl is)) = rw is (refl, refl)
elsewhere service now body resource (inr (inr (inl (n, rest, is)))) = rw is (refl, refl)
elsewhere service now body resource (inr (inr (inr is))) = rw is (refl, refl)

-- What a link in memory holds.
use Rattle.std.specs.Prelude.{ℕ, List, map, take, drop}
use Rattle.site_drive.specs.declared.mem_link.MemLink.{MemLink}

-- what was taken from the queue, and what waits there
abbrev pub received_of : MemLink → List (List ℕ)
received_of l = take l.taken (map (λ d. d.items) l.queue.items)

abbrev pub waiting_of : MemLink → List (List ℕ)
waiting_of l = drop l.taken (map (λ d. d.items) l.queue.items)

-- what was given to send, and kept
abbrev pub kept_of : MemLink → List (ℕ × List ℕ)
kept_of l = map (λ x. (x.0, x.1.items)) l.sent.items

-- What a ledger says.
use Rattle.std.specs.Prelude.{ℕ, List, []}
use Rattle.editor_ledger.specs.declared.released.Released.{Released}

-- a ticket's number, and the one text that it has
pub record Given : Type 0 where
  pub number : ℕ
  pub text : List ℕ

pub record Book : Type 0 where
  pub editor : ℕ
  -- the number of the next ticket
  pub next : ℕ
  -- the ticket of the last release that has its receipt; 0 for none
  pub last_release : ℕ
  -- the texts that the group has, the last about each kind and name
  pub kept : List (List ℕ)
  -- what is on its way
  pub sent : List Given
  pub log : List Released
  -- of each plan the number of its first ticket, with what the group had before each of its texts
  pub past : List Given
  -- what was said of releases, by their numbers
  pub messages : List Given

-- of an editor that has published nothing
abbrev pub fresh : ℕ → Book
fresh editor = record {
  editor = editor;
  next = 1;
  last_release = 0;
  kept = [];
  sent = [];
  log = [];
  past = [];
  messages = [];
}

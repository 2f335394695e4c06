-- An input without a byte.
use Rattle.std.proofs.Common.{◌≡◌, ℕ, zero, suc, ◌<◌, [], ◌∷◌, length, slice_index, arith, sym, ap, subst, refl, append-nil, length-append, inl, IsTrue}
use Rattle.std.proofs.lemmas.List.{take_all}
use Rattle.std.proofs.lemmas.List.Elements.{All-cons, All-nil}
use Rattle.std.proofs.lemmas.Str.{IsUtf8-from_ascii}
use Rattle.httparse.specs.Ascii.{line_feed}
use Rattle.httparse.specs.Grammar.{LineEnd, RequestHead, print_request, IsRequestHead, HasNoRequest, MayBecomeRequest, IsField, is_token_byte, is_uri_byte}
use Rattle.http_read.specs.declared.heads.TheConstants.{HEAD_LIMIT}
use Rattle.http_read.specs.Heads.{ended, window, ReadsHead}
use Rattle.http_read.specs.Requests.{IsCutShort}
use Rattle.http_read.proofs.Candidates.{head_line}

-- it holds no head, as each has a line break
pub no_request : HasNoRequest []
no_request h rest reads =
    let l = head_line h in
    absurd (omega (
      arith,
      ap length reads.1,
      length-append (print_request h) rest,
      ap length l.1,
      length-append l.0 (line_feed ∷ []),
    ))

slash_ascii : (i : ℕ) → slice_index (47 ∷ []) i < 128
slash_ascii zero = omega arith
slash_ascii (suc i) = omega arith

-- a head: `G / HTTP/1.1`
abbrev a_head : RequestHead
a_head = record { blank = []; method = 71 ∷ []; target = 47 ∷ []; minor = 1; line_end = LineEnd.lf; fields = []; last = LineEnd.lf }

is_a_head : IsRequestHead a_head
unfolding is_token_byte
is_a_head = record {
  method = (omega arith, All-cons (λ b. IsTrue (is_token_byte b)) 71 [] refl (All-nil (λ b. IsTrue (is_token_byte b))));
  target = (omega arith, All-cons (λ b. IsTrue (is_uri_byte b)) 47 [] refl (All-nil (λ b. IsTrue (is_uri_byte b))));
  target_text = IsUtf8-from_ascii (47 ∷ []) slash_ascii;
  minor = omega arith;
  fields = All-nil IsField;
}

-- and may become one
pub may_become : MayBecomeRequest []
may_become = inl (print_request a_head, a_head, (is_a_head, sym (append-nil (print_request a_head))))

window_nothing : window [] ≡ []
window_nothing = take_all HEAD_LIMIT [] (omega arith)

-- so it ends within its head
pub nothing_ended : ReadsHead [] ended
nothing_ended = (
  record {
    none = subst HasNoRequest (sym window_nothing) no_request;
    mendable = subst MayBecomeRequest (sym window_nothing) may_become;
  },
  omega arith,
)

pub nothing_cut : IsCutShort []
nothing_cut = inl nothing_ended

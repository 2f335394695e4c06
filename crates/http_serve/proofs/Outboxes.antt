-- What waits to be written: some bytes, and perhaps a long response after them.
use Rattle.std.proofs.Common.{◌≡◌, ◌∙◌, ◌+◌, ◌≤◌, ◌<◌, ◌-◌, ℕ, List, ◌++◌, length, take, drop, Option, Some, None, arith, refl, sym, ap, append_assoc, append-nil, length-append}
use Rattle.std.proofs.lemmas.List.{drop-append-le, length-drop, take-append-drop}
use Rattle.std.proofs.Math.Seq.{drop-append-add, take-length}
use Rattle.std.specs.Prelude.{Vec}
use Rattle.std.specs.declared.alloc.Global.{Global}
use Rattle.http_serve.specs.Outboxes.{behind, IsBehind}
use Rattle.http_serve.specs.declared.outbox.TheConstants.{WAITING}

-- how many bytes wait
pub counted : (waits : List ℕ) (long : Option (Vec ℕ Global)) → length (waits ++ behind long) ≡ length waits + length (behind long)
counted waits long = length-append waits (behind long)

-- no long response waits after nothing
pub none_first : (waits : List ℕ) (long : Option (Vec ℕ Global)) → IsBehind waits long → length waits ≡ 0 → long ≡ None
none_first waits None is none = refl
none_first waits (Some long) is none = absurd (omega (arith, is.0, none))

-- nor if few bytes wait
pub none_long : (waits : List ℕ) (long : Option (Vec ℕ Global)) → IsBehind waits long → length (waits ++ behind long) < WAITING → long ≡ None
none_long waits None is few = refl
none_long waits (Some long) is few = absurd (omega (arith, counted waits (Some long), few, is.1))

-- without one these bytes are all
pub alone : (waits : List ℕ) (long : Option (Vec ℕ Global)) → long ≡ None → waits ++ behind long ≡ waits
alone waits long none = ap (λ l. waits ++ behind l) none ∙ append-nil waits

-- so many of the first bytes were written
pub passes_on : (waits : List ℕ) (long : Option (Vec ℕ Global)) (n : ℕ) → n ≤ length waits
    → drop n (waits ++ behind long) ≡ drop n waits ++ behind long
passes_on waits long n within = drop-append-le n waits (behind long) within

-- all of them, and some of the long response
pub passes_over : (waits long : List ℕ) (n : ℕ) → length waits ≤ n → drop n (waits ++ long) ≡ drop (n - length waits) long
passes_over waits long n all =
    let at : n ≡ length waits + (n - length waits) = omega (arith, all) in
    ap (λ k. drop k (waits ++ long)) at ∙ drop-append-add waits long (n - length waits)

-- what is left of these bytes
rest_of : (bytes : List ℕ) (sent : ℕ) → take (length bytes - sent) (drop sent bytes) ≡ drop sent bytes
rest_of bytes sent = ap (λ n. take n (drop sent bytes)) (sym (length-drop sent bytes)) ∙ take-length (drop sent bytes)

-- a response after all that waits
pub joined_is : (joined lent bytes lent_text text all : List ℕ) (sent : ℕ) → joined ≡ take (length lent - sent) (drop sent lent) ++ lent_text
    → lent ≡ bytes → lent_text ≡ text → drop sent bytes ≡ all → joined ≡ all ++ text
joined_is joined lent bytes lent_text text all sent is same same_text waits =
    let front : take (length lent - sent) (drop sent lent) ≡ all = rest_of lent sent ∙ ap (λ b. drop sent b) same ∙ waits in
    is ∙ ap (λ w. w ++ lent_text) front ∙ ap (λ t. all ++ t) same_text

-- the first of the bytes at hand were written, and the others wait
pub written_first : (all front rest : List ℕ) (n : ℕ) → all ≡ front ++ rest → n ≤ length front → all ≡ take n front ++ drop n all
written_first all front rest n is within =
    let parts : front ++ rest ≡ take n front ++ (drop n front ++ rest) =
    ap (λ f. f ++ rest) (sym (take-append-drop n front)) ∙ append_assoc (take n front) (drop n front) rest in
    let left : drop n front ++ rest ≡ drop n all = sym (drop-append-le n front rest within) ∙ ap (λ a. drop n a) (sym is) in
    is ∙ parts ∙ ap (λ l. take n front ++ l) left

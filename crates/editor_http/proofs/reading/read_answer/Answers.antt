use Rattle.std.proofs.Common.{ℕ, List, ◌++◌, take, drop, Option, Some, None, ap, sym, subst, ◌∙◌, ◌≤◌, length, append_assoc}
use Rattle.std.proofs.lemmas.List.{take-append-drop}
use Rattle.std.specs.Io.KnownBytes.{prepend_known, Keeps, Consumes}
use Rattle.http_read.specs.Counted.{inside}
use Rattle.editor_http.specs.Answers.{IsOf, HasNone}
use Rattle.editor_http.specs.declared.reading.TheConstants.{MOST}
use Rattle.editor_http.proofs.Nothing.{known_none, ended_none, long_none}
use Rattle.editor_http.proofs.reading.read_answer.Goals as goal

-- what is taken from the front of what is held is taken from what there is to read
taken : (known rest : Option (List ℕ)) (held : List ℕ) (n : ℕ) → Keeps known (prepend_known held rest) → Consumes known (prepend_known (drop n held) rest) (take n held)
taken None rest held n same = tt
taken (Some xs) None held n same = absurd same
taken (Some xs) (Some ys) held n same = sym same ∙ ap (λ (zs : List ℕ). zs ++ ys) (sym (take-append-drop n held)) ∙ append_assoc (take n held) (drop n held) ys

pub returns-in-Whole-clause-ok : goal.returns-in-Whole-clause-ok
returns-in-Whole-clause-ok g c =
    let held : List ℕ = c.loop-answer.feed in
    let n : ℕ = c.in-Whole.length in
    let seen = rw c.in-Whole.is at c.in_ok-answer.ensures in
    record {
      bytes = take n held;
      taken = subst (λ (now : List ℕ). Consumes (prepend_known c.args.feed.now (g.R.Read.remaining (inside c.args.reader.now))) (prepend_known now (g.R.Read.remaining (inside c.loop-answer.reader))) (take n held))
          (sym c.pass.ensures) (taken _ _ held n c.loop-answer.invariant.0);
      is = subst (λ (bytes : List ℕ). IsOf (take n bytes) c.in-Whole.answer) c.held.ensures seen.1;
    }

pub returns-in-Never-clause-never : goal.returns-in-Never-clause-never
returns-in-Never-clause-never g c _ =
    let seen = rw c.in-Never.is at c.in_ok-answer.ensures in
    known_none _ _ c.loop-answer.feed c.loop-answer.invariant.0 (subst (λ (held : List ℕ). (more : List ℕ) → HasNone (held ++ more)) c.held.ensures seen)

pub returns-then-held-ge-MOST-clause-never : goal.returns-then-held-ge-MOST-clause-never
returns-then-held-ge-MOST-clause-never g c _ =
    let seen = rw c.in-Open.is at c.in_ok-answer.ensures in
    let none : HasNone c.loop-answer.feed = subst HasNone c.held.ensures seen in
    let long : MOST ≤ length c.loop-answer.feed = subst (λ (held : List ℕ). MOST ≤ length held) c.held-in-loop-answer.ensures c.if-held-ge-MOST.true in
    known_none _ _ c.loop-answer.feed c.loop-answer.invariant.0 (long_none c.loop-answer.feed long none)

pub returns-then-not-branch-clause-ended : goal.returns-then-not-branch-clause-ended
returns-then-not-branch-clause-ended g c _ =
    let seen = rw c.in-Open.is at c.in_ok-answer.ensures in
    let none : HasNone c.loop-answer.feed = subst HasNone c.held.ensures seen in
    let read = rw (c.in_ok-read_more.was, c.if-not-branch.true) at c.read_more.ensures in (
      read.2,
      ended_none _ _ _ c.loop-answer.feed read.0.more c.loop-answer.invariant.0 read.0.taken read.2 (sym read.3 ∙ read.0.longer) none,
    )

-- What reading on shows of a request.
use Rattle.std.proofs.Common.{◌≡◌, ℕ, ◌+◌, ◌≤◌, Bool, true, false, true≢false, List, [], ◌++◌, length, drop, arith, sym, ap, subst, refl, ◌∙◌, append_assoc, append-nil, length-append, inl, inr, Option, Some, None, IfSome, ◌≢◌}
use Rattle.std.specs.Io.KnownBytes.{Keeps, Consumes}
use Rattle.std.proofs.KnownBytes.{Consumes-trans, Consumes-kept}
use Rattle.std.specs.Option.{option_map}
use Rattle.std.specs.String.{string_bytes}
use Rattle.httparse.specs.declared.spans.HeaderSpan.{HeaderSpan}
use Rattle.httparse.specs.declared.spans.RequestSpans.{RequestSpans}
use Rattle.httparse.specs.Grammar.{RequestHead, print_request}
use Rattle.httparse.specs.Spans.{IsRequestAt}
use Rattle.http_read.specs.declared.lengths.TheConstants.{BODY_LIMIT}
use Rattle.http_read.specs.declared.heads.Found.TheVariants as found
use Rattle.http_read.specs.declared.judging.Judged.TheVariants as judged
use Rattle.http_read.specs.declared.body.Body.{Body}
use Rattle.http_read.specs.declared.body.BodyRead.TheVariants as body
use Rattle.http_read.specs.declared.incoming.Incoming.{Incoming}
use Rattle.http_read.specs.declared.incoming.Incoming.TheVariants as came
use Rattle.http_read.specs.declared.opening.Opened.{Opened}
use Rattle.http_read.specs.declared.opening.Opened.TheVariants as opened
use Rattle.http_read.specs.declared.progress.Begun.{Begun}
use Rattle.http_read.specs.declared.progress.Progress.{Progress}
use Rattle.http_read.specs.declared.progress.Progress.TheVariants as progress
use Rattle.http_read.specs.Heads.{window, got, refused, ended, ReadsHead}
use Rattle.http_read.specs.Looks.{Finds}
use Rattle.http_read.specs.Bodies.{ReadsBody}
use Rattle.http_read.specs.BodyProgress.{IsUsed, ShowsRead, left_of, chunks_left}
use Rattle.http_read.specs.BodyProgress as so_far
use Rattle.http_read.specs.Framings.{Judges, framing_meant, stated}
use Rattle.http_read.specs.Opened.{ShowsHead}
use Rattle.http_read.specs.Requests.{Heard, Answers, IsCutShort, asks, refuses, stops, ends, is_head}
use Rattle.http_read.specs.Incoming.{Shows, request_of}
use Rattle.http_read.specs.Input.{input_of, StopsAt}
use Rattle.http_read.specs.Progress.{Resumes, asks_of, Advances, Waits, ShowsOpened}
use Rattle.http_read.proofs.Longer.{got_still, stands}

-- ---- heads

-- a head that passes its tests
pub head_opened : (held left : List ℕ) (spans : List HeaderSpan) (f : RequestSpans) (b : Begun)
    → Finds held spans (found.At f) → left ≡ drop f.len held
    → ((head : RequestHead) → IsRequestAt (window held) spans f head → Judges head (judged.Asks b.passed b.path))
    → ((head : RequestHead) → IsRequestAt (window held) spans f head → b.of_head ≡ is_head head)
    → IsUsed (framing_meant b.passed.cut) b.body [] → (stated b.passed.cut ≤ BODY_LIMIT → left_of b.body ≤ chunks_left 0)
    → ShowsHead (opened.Head b) held left
head_opened held left spans f b (within, (h, at, reads)) is judges named starts small =
    let text : List ℕ = print_request h in
    let whole : held ≡ text ++ left = reads.reads.1 ∙ ap (λ t. text ++ t) (sym is) in (
      text,
      whole,
      (
        h,
        [],
        record { reads = (reads.reads.0, sym (append-nil text)); short = reads.short },
        judges h at,
        named h at,
        starts,
      ),
      omega (arith, reads.short, small (judges h at).0.small),
    )

-- ---- a request whose head is read, now or earlier

pub opened_now : (o : Opened) (held left : List ℕ) → ShowsHead o held left → ShowsOpened o progress.Head held left
opened_now opened.Open held left (cut, same) = record {
  advances = λ used is. ([], sym same, ap (λ t. t ++ []) is);
  short = λ used is. inl (subst (λ t. ReadsHead (t ++ held) ended) (sym is) cut);
  bound = omega (arith, ap length same);
  room = omega (arith, cut.1, ap length same);
  wanted = omega (arith, cut.1, ap length same);
}
opened_now (opened.Head b) held left (front, whole, resumes, few) = (
  λ used is. (front, whole, subst (λ t. Resumes (progress.Body b) (t ++ front)) (sym is) resumes),
  omega (arith, few, ap length whole, length-append front left),
)
opened_now (opened.Refused status of_head) held left answers =
    λ used is. subst (λ t. Answers (t ++ held) (refuses status of_head)) (sym is) answers

pub opened_before : (b : Begun) (held : List ℕ) → ShowsOpened (opened.Head b) (progress.Body b) held held
opened_before b held = (
  λ used is. ([], refl, subst (λ t. Resumes (progress.Body b) t) (sym (append-nil used)) is),
  omega arith,
)

-- ---- its body

-- reading on in the body, after a head
body_advances : (p : Progress) (b : Begun) (new : Body) (held mid left : List ℕ) → Advances p (progress.Body b) held mid
    → so_far.GoesOn b.body new mid left
    → Advances p (progress.Body (record { passed = b.passed; path = b.path; of_head = b.of_head; body = new })) held left
body_advances p b new held mid left first on = λ used is.
    let f = first used is in
    let r = f.2 in
    let s = on (framing_meant b.passed.cut) r.1 r.5 in (
      f.0 ++ s.0,
      f.1 ∙ ap (λ t. f.0 ++ t) s.1 ∙ sym (append_assoc f.0 s.0 left),
      (
        r.0,
        r.1 ++ s.0,
        subst (λ t. ReadsHead t (got r.0 (r.1 ++ s.0))) (append_assoc used f.0 s.0) (got_still (used ++ f.0) s.0 r.0 r.1 r.2),
        r.3,
        r.4,
        s.2,
      ),
    )

pub body_kept : (p : Progress) (b : Begun) (new : Body) (held mid left : List ℕ) → ShowsOpened (opened.Head b) p held mid
    → so_far.GoesOn b.body new mid left
    → Advances p (progress.Body (record { passed = b.passed; path = b.path; of_head = b.of_head; body = new })) held left
body_kept p b new held mid left opens on = body_advances p b new held mid left opens.0 on

-- the head of an input and what follows it
head_with : (b : Begun) (used front held mid : List ℕ) → (held ≡ front ++ mid) → (r : Resumes (progress.Body b) (used ++ front))
    → ReadsHead (used ++ held) (got r.0 (r.1 ++ mid))
head_with b used front held mid whole r =
    subst (λ t. ReadsHead t (got r.0 (r.1 ++ mid))) (append_assoc used front mid ∙ ap (λ t. used ++ t) (sym whole))
    (got_still (used ++ front) mid r.0 r.1 r.2)

pub body_open : (p : Progress) (b : Begun) (new : Body) (held mid left : List ℕ) → ShowsOpened (opened.Head b) p held mid
    → ShowsRead body.Open b.body new mid left
    → Waits p (progress.Body (record { passed = b.passed; path = b.path; of_head = b.of_head; body = new })) held left
body_open p b new held mid left (first, bound) waits = record {
  advances = body_advances p b new held mid left first waits.goes_on;
  short = λ used is.
      let f = first used is in
      let r = f.2 in
      inr (
        r.0,
        r.1 ++ mid,
        head_with b used f.0 held mid f.1 r,
        (
          r.3.0.sound,
          (string_bytes b.path, r.3.1),
          subst (λ x. ReadsBody x (r.1 ++ mid) ended) r.3.0.framed
              (waits.short (framing_meant b.passed.cut) r.1 r.5),
        ),
      );
  bound = omega (arith, bound, waits.bound);
  room = waits.room;
  wanted = waits.wanted;
}

pub body_whole : (p : Progress) (b : Begun) (new : Body) (held mid left : List ℕ) → ShowsOpened (opened.Head b) p held mid
    → ShowsRead body.Whole b.body new mid left
    → (used : List ℕ) → Resumes p used
    → Shows (came.Request (asks_of record { passed = b.passed; path = b.path; of_head = b.of_head; body = new })) (Some left) (used ++ held)
body_whole p b new held mid left (first, bound) whole = λ used is.
    let f = first used is in
    let r = f.2 in (
      left,
      (
        r.0,
        r.1 ++ mid,
        head_with b used f.0 held mid f.1 r,
        (
          r.3.0.sound,
          r.3.0.named,
          r.3.1,
          r.3.0.keep,
          subst (λ x. ReadsBody x (r.1 ++ mid) (got new.bytes.items left)) r.3.0.framed (whole (framing_meant b.passed.cut) r.1 r.5),
        ),
      ),
      refl,
    )

pub body_refused : (p : Progress) (b : Begun) (new : Body) (status : ℕ) (held mid left : List ℕ) → ShowsOpened (opened.Head b) p held mid
    → ShowsRead (body.Refused status) b.body new mid left
    → (used : List ℕ) → Resumes p used → Shows (came.Refused status b.of_head) (Some left) (used ++ held)
body_refused p b new status held mid left (first, bound) refuses_it = λ used is.
    let f = first used is in
    let r = f.2 in
    inr (
      r.0,
      r.1 ++ mid,
      head_with b used f.0 held mid f.1 r,
      (
        r.4,
        inr (inr (
          r.3.0.sound,
          (string_bytes b.path, r.3.1),
          subst (λ x. ReadsBody x (r.1 ++ mid) (refused status)) r.3.0.framed
              (refuses_it (framing_meant b.passed.cut) r.1 r.5),
        )),
      ),
    )

-- ---- over a reader

-- so far these bytes of the input were used, and now is what follows them
abbrev pub HasUsed : Option (List ℕ) → Option (List ℕ) → Progress → Type 0
HasUsed first now p = (used : List ℕ) × Resumes p used × Consumes first now used

-- what is used of what is held is used of the input
held_consumes : (held left front : List ℕ) (rest : Option (List ℕ)) → held ≡ front ++ left → Consumes (input_of held rest) (input_of left rest) front
held_consumes held left front None same = tt
held_consumes held left front (Some more) same = ap (λ t. t ++ more) same ∙ append_assoc front left more

pub used_none : (first : Option (List ℕ)) → HasUsed first first progress.Head
used_none None = ([], refl, tt)
used_none (Some xs) = ([], refl, refl)

-- reading on, and then one more reading
pub used_more : (first now : Option (List ℕ)) (p q : Progress) (held left : List ℕ) (rest : Option (List ℕ))
    → HasUsed first (input_of held rest) p → Waits p q held left → Keeps (input_of left rest) now → HasUsed first now q
used_more first now p q held left rest (used, resumes, taken) waits kept =
    let a = waits.advances used resumes in (
      used ++ a.0,
      a.2,
      Consumes-kept first (input_of left rest) now (used ++ a.0)
          (Consumes-trans first (input_of held rest) (input_of left rest) used a.0 taken (held_consumes held left a.0 rest a.1)) kept,
    )

-- an answer that the input ended
abbrev is_end : Heard → Bool
is_end (asks request left) = false
is_end (refuses status of_head) = false
is_end stops = true
is_end ends = true

-- what is shown of what came is shown of the whole input
pub shown_of_all : (first : Option (List ℕ)) (incoming : Incoming) (p : Progress) (held left : List ℕ) (rest : Option (List ℕ))
    → HasUsed first (input_of held rest) p
    → ((used : List ℕ) → Resumes p used → Shows incoming (Some left) (used ++ held)) → incoming ≢ came.Ended
    → IfSome first (Shows incoming (input_of left rest))
shown_of_all None incoming p held left rest (used, resumes, taken) shows more = tt
shown_of_all (Some xs) incoming p held left None (used, resumes, taken) shows more = absurd taken
shown_of_all (Some xs) incoming p held left (Some rest) (used, resumes, taken) shows more =
    by_case incoming (shows used resumes) more
  where
    whole : (used ++ held) ++ rest ≡ xs
    whole = append_assoc used held rest ∙ sym taken

    no_end : (h : Heard) → is_end h ≡ false → (h ≢ stops) × (h ≢ ends)
    no_end h not = ((λ e. true≢false (sym (ap is_end e) ∙ not)), (λ e. true≢false (sym (ap is_end e) ∙ not)))

    by_case : (i : Incoming) → Shows i (Some left) (used ++ held) → i ≢ came.Ended → Shows i (Some (left ++ rest)) xs
    by_case (came.Request r) (after, answers, is) other = (
      after ++ rest,
      subst (λ t. Answers t (asks (request_of r) (after ++ rest))) whole (stands (used ++ held) rest (asks (request_of r) after) (no_end (asks (request_of r) after) refl).0 (no_end (asks (request_of r) after) refl).1 answers),
      ap (option_map (λ t. t ++ rest)) is,
    )
    by_case (came.Refused status head) answers other =
        subst (λ t. Answers t (refuses status head)) whole (stands (used ++ held) rest (refuses status head) (no_end (refuses status head) refl).0 (no_end (refuses status head) refl).1 answers)
    by_case came.Ended shown other = absurd (other refl)

-- where a reading failed, what was used and what is held is all that was taken
pub stops_short : (first : Option (List ℕ)) (p q : Progress) (held left after : List ℕ) (rest now : Option (List ℕ))
    → HasUsed first (input_of held rest) p → Waits p q held left → Keeps (input_of left rest) (input_of after now) → after ≡ left
    → StopsAt first now IsCutShort
stops_short None p q held left after rest now (used, resumes, taken) waits kept same = tt
stops_short (Some xs) p q held left after None now (used, resumes, taken) waits kept same = absurd taken
stops_short (Some xs) p q held left after (Some rest) None (used, resumes, taken) waits kept same = absurd kept
stops_short (Some xs) p q held left after (Some rest) (Some now) (used, resumes, taken) waits kept same =
    let a = waits.advances used resumes in (
      used ++ held,
      taken ∙ ap (λ t. used ++ t) (ap (λ t. t ++ rest) a.1 ∙ append_assoc a.0 left rest ∙ ap (λ t. a.0 ++ t) (sym kept ∙ ap (λ t. t ++ now) same)
          ∙ sym (append_assoc a.0 left now) ∙ ap (λ t. t ++ now) (sym a.1)) ∙ sym (append_assoc used held now),
      waits.short used resumes,
    )

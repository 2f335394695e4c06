-- Whole runs of a script.
use Rattle.std.proofs.Common.{◌≡◌, ◌≢◌, ◌⊎◌, ℕ, ◌+◌, List, [], ◌∷◌, ◌++◌, length, Option, Some, None, is_some, true≢false, Result, Ok, Err, Vec, Global, codes, refl, sym, ap, ◌∙◌, subst, inl, inr, arith, append_assoc, append-nil, length-append}
use Rattle.std.specs.List.{flat_map, AllByRecursion}
use Rattle.std.specs.Io.KnownBytes.{Consumes, Appends, IsAtEnd}
use Rattle.std.proofs.KnownBytes.{Consumes-trans, Consumes-nil, Appends-trans, Appends-nil}
use Rattle.std.proofs.lemmas.List.Concat.{flat_map-append}
use Rattle.http_read.specs.Bytes.{End, IsSound, IsSilent, IsWritten, IsBroken, IsGiven}
use Rattle.http_read.specs.Counted.{RoseByOne}
use Rattle.engine_script.specs.declared.cluster.ScriptFault.{ScriptFault}
use Rattle.engine_script.specs.declared.cluster.ScriptFault.TheVariants as script
use Rattle.engine_common.specs.declared.ends.InputFault.{InputFault}
use Rattle.engine_common.specs.declared.ends.InputFault.TheVariants as input
use Rattle.engine_script.specs.ScriptEnds.{Prints, PrintsAll, HasDone, HasRun, HasBadLine, IsFault}
use Rattle.engine_script.specs.ScriptSteps.{HasStepped, HappenEnds, NextEnds, IsSaid, of_input, of_servers}
use Rattle.engine_script.specs.declared.loopback_fault.LoopbackFault.{LoopbackFault}
use Rattle.engine_script.specs.declared.loopback_fault.LoopbackFault.TheVariants as loopback
use Rattle.engine_common.specs.Founds.{HasNoLine, GetsNoLine, IsDecided}
use Rattle.engine_common.proofs.Founds as founds
use Rattle.engine_common.proofs.Texts.{lacks-codes}
use Rattle.engine_script.proofs.ScriptLemmas.{no_line_yet}
use Rattle.engine_script.specs.Script.{Line, turns_line, spelled, Fits}
use Rattle.engine_common.specs.Feeds.{Grown, ReadEnds}

-- ---- one line more

all_more : (lines : List Line) (line : Line) → AllByRecursion Fits lines → Fits line → AllByRecursion Fits (lines ++ line ∷ [])
all_more [] line each ok = (ok, tt)
all_more (x ∷ lines) line each ok = (each.0, all_more lines line each.1 ok)

prints_more : (lines : List Line) (line : Line) (printed text : List ℕ) → PrintsAll lines printed → Prints line text → PrintsAll (lines ++ line ∷ []) (printed ++ text)
prints_more [] line printed text all one = (text, [], one, ap (λ t. t ++ text) all ∙ sym (append-nil text), refl)
prints_more (x ∷ lines) line printed text (first, later, here, whole, rest) one = (first, later ++ text, here, ap (λ t. t ++ text) whole ∙ append_assoc first later text, prints_more lines line later text rest one)

pub done_read : (taken more : List ℕ) (lines : List Line) (printed rest held : List ℕ) → HasDone taken lines printed rest → held ≡ rest ++ more → HasDone (taken ++ more) lines printed held
done_read taken more lines printed rest held d longer = record {
  fits = d.fits;
  whole = ap (λ t. t ++ more) d.whole ∙ (append_assoc (flat_map spelled lines) rest more ∙ ap (λ t. flat_map spelled lines ++ t) (sym longer));
  prints = d.prints;
}

pub done_more : (taken : List ℕ) (lines : List Line) (printed held rest : List ℕ) (line : Line) (text : List ℕ) → HasDone taken lines printed held → Fits line → held ≡ spelled line ++ rest → Prints line text
    → HasDone taken (lines ++ line ∷ []) (printed ++ text) rest
done_more taken lines printed held rest line text d ok whole one =
    let more : flat_map spelled (lines ++ line ∷ []) ≡ flat_map spelled lines ++ spelled line = flat_map-append spelled lines (line ∷ []) ∙ ap (λ xs. flat_map spelled lines ++ xs) (append-nil (spelled line)) in
    record {
      fits = all_more lines line d.fits ok;
      whole = d.whole ∙ (ap (λ t. flat_map spelled lines ++ t) whole ∙ (sym (append_assoc (flat_map spelled lines) (spelled line) rest) ∙ ap (λ t. t ++ rest) (sym more)));
      prints = prints_more lines line printed text d.prints one;
    }

-- ---- what a run has done so far

pub record SoFar (reader out : End) (k : ℕ) (feed : List ℕ) : Type 0 where
  pub lines : List Line
  pub printed : List ℕ
  pub taken : List ℕ
  pub count : k ≡ length lines + 1
  pub done : HasDone taken lines printed feed
  pub read : Consumes reader.before reader.after taken
  pub sound : IsSound reader
  pub written : IsWritten out printed

pub so_far_first : (a : Option (List ℕ)) (f : ℕ) (c : Option (List ℕ)) (h : ℕ) (feed : List ℕ) → feed ≡ []
    → SoFar (record { before = a; after = a; failures = f; failures_after = f }) (record { before = c; after = c; failures = h; failures_after = h }) 1 feed
so_far_first a f c h feed none = record {
  lines = [];
  printed = [];
  taken = [];
  count = refl;
  done = record { fits = tt; whole = sym none; prints = refl };
  read = Consumes-nil a;
  sound = refl;
  written = record { whole = Appends-nil c; sound = refl };
}

pub so_far_more : (a b d : Option (List ℕ)) (f g h : ℕ) (p q r : Option (List ℕ)) (x y z : ℕ) (k next : ℕ) (feed new text written : List ℕ) → next ≡ k + 1 → written ≡ text
    → SoFar (record { before = a; after = b; failures = f; failures_after = g }) (record { before = p; after = q; failures = x; failures_after = y }) k feed
    → HasStepped (record { before = b; after = d; failures = g; failures_after = h }) feed new text
    → IsWritten (record { before = q; after = r; failures = y; failures_after = z }) written
    → SoFar (record { before = a; after = d; failures = f; failures_after = h }) (record { before = p; after = r; failures = x; failures_after = z }) next new
so_far_more a b d f g h p q r x y z k next feed new text written is same so step out = record {
  lines = so.lines ++ step.line ∷ [];
  printed = so.printed ++ text;
  taken = so.taken ++ step.grown.more;
  count = omega (arith, is, so.count, length-append so.lines (step.line ∷ []));
  done = done_more _ so.lines so.printed step.held new step.line text (done_read so.taken step.grown.more so.lines so.printed feed step.held so.done step.grown.longer) step.fits step.whole step.prints;
  read = Consumes-trans a b d so.taken step.grown.more so.read step.grown.taken;
  sound = step.sound ∙ so.sound;
  written = record { whole = Appends-trans p q r so.printed text so.written.whole (subst (λ w. Appends q r w) same out.whole); sound = out.sound ∙ so.written.sound };
}

pub stepped : (reader : End) (feed new : List ℕ) (o : Option (Vec ℕ Global)) (text : Vec ℕ Global) → o ≡ Some text → NextEnds reader feed new (Ok o) → HasStepped reader feed new text.items
stepped reader feed new o text is ends = subst (λ x. NextEnds reader feed new (Ok x)) is ends

-- ---- ends

finished_so : (a b d : Option (List ℕ)) (f g h : ℕ) (out err : End) (k : ℕ) (feed : List ℕ)
    → SoFar (record { before = a; after = b; failures = f; failures_after = g }) out k feed → Grown (record { before = b; after = d; failures = g; failures_after = h }) feed [] → h ≡ g → IsAtEnd d → IsSilent err
    → HasRun (record { before = a; after = d; failures = f; failures_after = h }) out err 0
finished_so a b d f g h out err k feed so grown sound at_end silent = inl (record {
  input = so.taken ++ grown.more;
  read = record { taken = Consumes-trans a b d so.taken grown.more so.read grown.taken; at_end = at_end; sound = sound ∙ so.sound };
  lines = so.lines;
  printed = so.printed;
  done = done_read so.taken grown.more so.lines so.printed feed [] so.done grown.longer;
  written = so.written;
  silent = silent;
  status_is = refl;
})

pub finished : (a b d : Option (List ℕ)) (f g h : ℕ) (out err : End) (k : ℕ) (feed new : List ℕ) (o : Option (Vec ℕ Global)) → o ≡ None
    → SoFar (record { before = a; after = b; failures = f; failures_after = g }) out k feed → NextEnds (record { before = b; after = d; failures = g; failures_after = h }) feed new (Ok o) → IsSilent err
    → HasRun (record { before = a; after = d; failures = f; failures_after = h }) out err 0
finished a b d f g h out err k feed new (Some text) is so ends silent = absurd (true≢false (ap is_some is))
finished a b d f g h out err k feed new None is so (grown, sound, at_end) silent = finished_so a b d f g h out err k feed so grown sound at_end silent

-- a run that stops after the bytes that were read
stopped_behind : (a b d : Option (List ℕ)) (f g h : ℕ) (out err : End) (k status : ℕ) (feed held more said : List ℕ)
    → (so : SoFar (record { before = a; after = b; failures = f; failures_after = g }) out k feed) → Consumes b d more → held ≡ feed ++ more
    → IsFault (record { before = a; after = d; failures = f; failures_after = h }) (length so.lines + 1) held said → IsGiven err said → status ≡ 1
    → HasRun (record { before = a; after = d; failures = f; failures_after = h }) out err status
stopped_behind a b d f g h out err k status feed held more said so taken longer why given is = inr (inl (record {
  taken = so.taken ++ more;
  read = Consumes-trans a b d so.taken more so.read taken;
  lines = so.lines;
  printed = so.printed;
  rest = held;
  done = done_read so.taken more so.lines so.printed feed held so.done longer;
  said = said;
  why = why;
  written = so.written;
  given = given;
  status_is = is;
}))

pub stopped : (a b d : Option (List ℕ)) (f g h : ℕ) (out err : End) (k status : ℕ) (feed new said : List ℕ) (e : ScriptFault)
    → SoFar (record { before = a; after = b; failures = f; failures_after = g }) out k feed → NextEnds (record { before = b; after = d; failures = g; failures_after = h }) feed new (Err e)
    → IsSaid k e said → IsGiven err said → status ≡ 1 → HasRun (record { before = a; after = d; failures = f; failures_after = h }) out err status
stopped a b d f g h out err k status feed new said script.BadLine so (held, grown, bad) (inl is) given one =
    stopped_behind a b d f g h out err k status feed held grown.more said so grown.taken grown.longer (inl (rw (← so.count) is, bad)) given one
stopped a b d f g h out err k status feed new said script.BadLine so (held, grown, bad) (inr is) given one =
    stopped_behind a b d f g h out err k status feed held grown.more said so grown.taken grown.longer (inr (inr (inr is))) given one
stopped a b d f g h out err k status feed new said script.Socket so (held, grown, there) is given one =
    stopped_behind a b d f g h out err k status feed held grown.more said so grown.taken grown.longer (inr (inr (inl (is, there)))) given one
stopped a b d f g h out err k status feed new said script.OutOfMemory so (more, taken) is given one =
    stopped_behind a b d f g h out err k status feed (feed ++ more) more said so taken refl (inr (inr (inr is))) given one
stopped a b d f g h out err k status feed new said script.Read so ((more, taken), failed) is given one =
    stopped_behind a b d f g h out err k status feed (feed ++ more) more said so taken refl (inr (inl (is, subst (λ x. RoseByOne x h) so.sound failed))) given one

-- the run's lines don't end below 2^64
pub endless : (a b : Option (List ℕ)) (f g : ℕ) (out err : End) (k status : ℕ) (feed : List ℕ) → SoFar (record { before = a; after = b; failures = f; failures_after = g }) out k feed → IsGiven err (codes "out of memory\n") → status ≡ 1
    → HasRun (record { before = a; after = b; failures = f; failures_after = g }) out err status
endless a b f g out err k status feed so given one = stopped_behind a b b f g g out err k status feed feed [] _ so (Consumes-nil b) (sym (append-nil feed)) (inr (inr (inr refl))) given one

pub broken : (a b d : Option (List ℕ)) (f g h : ℕ) (p q r : Option (List ℕ)) (x y z : ℕ) (err : End) (k status : ℕ) (feed new text written : List ℕ) → written ≡ text
    → SoFar (record { before = a; after = b; failures = f; failures_after = g }) (record { before = p; after = q; failures = x; failures_after = y }) k feed
    → HasStepped (record { before = b; after = d; failures = g; failures_after = h }) feed new text
    → IsBroken (record { before = q; after = r; failures = y; failures_after = z }) written → IsGiven err (codes "write failed\n") → status ≡ 1
    → HasRun (record { before = a; after = d; failures = f; failures_after = h }) (record { before = p; after = r; failures = x; failures_after = z }) err status
broken a b d f g h p q r x y z err k status feed new text written same so step out given one =
    let front = out.part.0 in
    let rest = out.part.1 in
    inr (inr (record {
      taken = so.taken ++ step.grown.more;
      read = Consumes-trans a b d so.taken step.grown.more so.read step.grown.taken;
      lines = so.lines ++ step.line ∷ [];
      printed = so.printed ++ text;
      rest = new;
      done = done_more _ so.lines so.printed step.held new step.line text (done_read so.taken step.grown.more so.lines so.printed feed step.held so.done step.grown.longer) step.fits step.whole step.prints;
      broken = record {
        part = (so.printed ++ front, rest, ap (λ w. so.printed ++ w) (sym same ∙ out.part.2) ∙ sym (append_assoc so.printed front rest), Appends-trans p q r so.printed front so.written.whole out.part.3);
        failed = subst (λ u. RoseByOne u z) so.written.sound out.failed;
      };
      given = given;
      status_is = one;
    }))

-- ---- a line that is read and done

-- a reading that fails
pub read_fault : (reader : End) (old new : List ℕ) (e : InputFault) (r : Result (Option (Vec ℕ Global)) ScriptFault) → r ≡ Err (of_input e) → ReadEnds reader old new (Err e) → NextEnds reader old new r
read_fault reader old new input.Read r is h = rw is h
read_fault reader old new input.OutOfMemory r is h = rw is h

-- with nothing held the input is at its end
pub at_end : (reader : End) (held : List ℕ) → IsDecided Fits spelled held ⊎ IsAtEnd reader.after → held ≡ [] → IsAtEnd reader.after
at_end reader held = founds.at_end Fits spelled held (turns_line 0) (omega arith) (no_line_yet [] (lacks-codes 10 [] refl))

-- with something held that is no line there is a bad line
pub bad_line : (reader : End) (held : List ℕ) → (IsAtEnd reader.after × HasNoLine Fits spelled held) ⊎ GetsNoLine Fits spelled held → held ≢ [] → HasBadLine reader held
bad_line reader held (inl (ended, none)) some = inl (ended, none, some)
bad_line reader held (inr never) some = inr never

-- a fault of the line that was found
pub line_fault : (reader : End) (old held new : List ℕ) (line : Line) (rest : List ℕ) (e : LoopbackFault) (r : Result (Option (Vec ℕ Global)) ScriptFault) → r ≡ Err (of_servers e) → Grown reader old held → Fits line
    → held ≡ spelled line ++ rest → HappenEnds line (Err e) → NextEnds reader old new r
line_fault reader old held new line rest loopback.Socket r is grown fits whole asks = rw is (held, grown, (line, rest, fits, whole, asks))
line_fault reader old held new line rest loopback.OutOfMemory r is grown fits whole h = rw is (grown.more, grown.taken)

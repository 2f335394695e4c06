-- Whole runs of the simulator.
use Rattle.std.proofs.Common.{◌≡◌, ℕ, ◌+◌, List, [], ◌∷◌, ◌++◌, length, Option, Some, None, Ok, Err, String, Global, string_bytes, codes, refl, sym, ap, ◌∙◌, subst, inl, inr, arith, append_assoc, append-nil, length-append}
use Rattle.std.specs.List.{flat_map, AllByRecursion}
use Rattle.std.specs.Io.KnownBytes.{Consumes, Appends, IsAtEnd}
use Rattle.std.proofs.KnownBytes.{Consumes-trans, Consumes-nil, Appends-trans, Appends-nil}
use Rattle.std.proofs.lemmas.List.Concat.{flat_map-append}
use Rattle.http_read.specs.Bytes.{End, IsSound, IsSilent, IsWritten, IsBroken, IsGiven}
use Rattle.http_read.specs.Counted.{RoseByOne}
use Rattle.world.specs.declared.event.Event.{Event}
use Rattle.engine_schedule.specs.declared.simulator.SimFault.{SimFault}
use Rattle.engine_schedule.specs.declared.simulator.SimFault.TheVariants as sim
use Rattle.engine_schedule.specs.declared.simulator.Simulation.{Simulation}
use Rattle.engine_schedule.specs.Schedule.{Line, spelled, Fits, spelled_nodes}
use Rattle.engine_schedule.specs.Simulation.{Moment, IsMoment, Does, DoesAll}
use Rattle.engine_schedule.specs.SimulationEnds.{HasDone, HasSimulated, HasBadLine, IsFault}
use Rattle.engine_schedule.specs.Stepping.{moment_of, HasStepped, HasBegun, NextEnds, BeginEnds, IsSaid}
use Rattle.engine_common.specs.Feeds.{Grown}

-- ---- one line more

all_more : (lines : List Line) (line : Line) → AllByRecursion Fits lines → Fits line → AllByRecursion Fits (lines ++ line ∷ [])
all_more [] line each ok = (ok, tt)
all_more (x ∷ lines) line each ok = (each.0, all_more lines line each.1 ok)

does_more : (n : ℕ) (old mid new : Moment) (lines : List Line) (line : Line) (printed text : List ℕ) → DoesAll n old lines printed mid → Does n mid line text new → DoesAll n old (lines ++ line ∷ []) (printed ++ text) new
does_more n old mid new [] line printed text all one =
    (new, text, [], subst (λ m. Does n m line text new) all.1 one, ap (λ t. t ++ text) all.0 ∙ sym (append-nil text), (refl, refl))
does_more n old mid new (x ∷ lines) line printed text (next, first, later, here, whole, rest) one =
    (next, first, later ++ text, here, ap (λ t. t ++ text) whole ∙ append_assoc first later text, does_more n next mid new lines line later text rest one)

pub done_read : (taken more : List ℕ) (n : ℕ) (lines : List Line) (printed : List ℕ) (last : Moment) (rest held : List ℕ) → HasDone taken n lines printed last rest → held ≡ rest ++ more → HasDone (taken ++ more) n lines printed last held
done_read taken more n lines printed last rest held d longer = record {
  node = d.node;
  fits = d.fits;
  whole = ap (λ t. t ++ more) d.whole ∙ (append_assoc (spelled_nodes n) (flat_map spelled lines ++ rest) more ∙ ap (λ t. spelled_nodes n ++ t) (append_assoc (flat_map spelled lines) rest more ∙ ap (λ t. flat_map spelled lines ++ t) (sym longer)));
  start = d.start;
  fresh = d.fresh;
  does = d.does;
}

pub done_more : (taken : List ℕ) (n : ℕ) (lines : List Line) (printed : List ℕ) (last new : Moment) (held rest : List ℕ) (line : Line) (text : List ℕ) → HasDone taken n lines printed last held → Fits line → held ≡ spelled line ++ rest → Does n last line text new
    → HasDone taken n (lines ++ line ∷ []) (printed ++ text) new rest
done_more taken n lines printed last new held rest line text d ok whole one =
    let more : flat_map spelled (lines ++ line ∷ []) ≡ flat_map spelled lines ++ spelled line = flat_map-append spelled lines (line ∷ []) ∙ ap (λ xs. flat_map spelled lines ++ xs) (append-nil (spelled line)) in
    record {
      node = d.node;
      fits = all_more lines line d.fits ok;
      whole = d.whole ∙ ap (λ t. spelled_nodes n ++ t) (ap (λ t. flat_map spelled lines ++ t) whole ∙ (sym (append_assoc (flat_map spelled lines) (spelled line) rest) ∙ ap (λ t. t ++ rest) (sym more)));
      start = d.start;
      fresh = d.fresh;
      does = does_more n d.start last new lines line printed text d.does one;
    }

-- ---- what a run has done so far

pub record SoFar (reader out : End) (k : ℕ) (s : Simulation) (feed : List ℕ) : Type 0 where
  pub n : ℕ
  pub lines : List Line
  pub printed : List ℕ
  pub events : List Event
  pub taken : List ℕ
  pub count : k ≡ length lines + 2
  pub moment : IsMoment n (moment_of s events)
  pub done : HasDone taken n lines printed (moment_of s events) feed
  pub read : Consumes reader.before reader.after taken
  pub sound : IsSound reader
  pub written : IsWritten out printed

pub so_far_first : (a b : Option (List ℕ)) (f g : ℕ) (c : Option (List ℕ)) (h : ℕ) (s : Simulation) (held new : List ℕ) → held ≡ [] → HasBegun (record { before = a; after = b; failures = f; failures_after = g }) s held new
    → SoFar (record { before = a; after = b; failures = f; failures_after = g }) (record { before = c; after = c; failures = h; failures_after = h }) 2 s new
so_far_first a b f g c h s held new none begun = record {
  n = begun.n;
  lines = [];
  printed = [];
  events = [];
  taken = begun.held;
  count = refl;
  moment = begun.fresh.moment;
  done = record { node = begun.node; fits = tt; whole = begun.whole; start = moment_of s []; fresh = begun.fresh; does = (refl, refl) };
  read = subst (λ t. Consumes a b t) (sym (begun.grown.longer ∙ ap (λ t. t ++ begun.grown.more) none)) begun.grown.taken;
  sound = begun.sound;
  written = record { whole = Appends-nil c; sound = refl };
}

pub so_far_more : (a b d : Option (List ℕ)) (f g h : ℕ) (p q r : Option (List ℕ)) (x y z : ℕ) (k next : ℕ) (s t : Simulation) (feed new text written : List ℕ) → next ≡ k + 1 → written ≡ text
    → SoFar (record { before = a; after = b; failures = f; failures_after = g }) (record { before = p; after = q; failures = x; failures_after = y }) k s feed
    → HasStepped (record { before = b; after = d; failures = g; failures_after = h }) s t feed new text
    → IsWritten (record { before = q; after = r; failures = y; failures_after = z }) written
    → SoFar (record { before = a; after = d; failures = f; failures_after = h }) (record { before = p; after = r; failures = x; failures_after = z }) next t new
so_far_more a b d f g h p q r x y z k next s t feed new text written is same so step out =
    let to = step.does so.n so.events so.moment in record {
      n = so.n;
      lines = so.lines ++ step.line ∷ [];
      printed = so.printed ++ text;
      events = to.0;
      taken = so.taken ++ step.grown.more;
      count = omega (arith, is, so.count, length-append so.lines (step.line ∷ []));
      moment = to.1;
      done = done_more _ so.n so.lines so.printed _ _ step.held new step.line text (done_read so.taken step.grown.more so.n so.lines so.printed _ feed step.held so.done step.grown.longer) step.fits step.whole to.2;
      read = Consumes-trans a b d so.taken step.grown.more so.read step.grown.taken;
      sound = step.sound ∙ so.sound;
      written = record { whole = Appends-trans p q r so.printed text so.written.whole (subst (λ w. Appends q r w) same out.whole); sound = out.sound ∙ so.written.sound };
    }

pub stepped : (reader : End) (s t : Simulation) (feed new : List ℕ) (o : Option (String Global)) (text : String Global) → o ≡ Some text → NextEnds reader s t feed new (Ok o) → HasStepped reader s t feed new (string_bytes text)
stepped reader s t feed new o text is ends = subst (λ x. NextEnds reader s t feed new (Ok x)) is ends

pub at_the_end : (reader : End) (s t : Simulation) (feed new : List ℕ) (o : Option (String Global)) → o ≡ None → NextEnds reader s t feed new (Ok o) → Grown reader feed [] × IsSound reader × IsAtEnd reader.after × (t ≡ s)
at_the_end reader s t feed new o is ends = subst (λ x. NextEnds reader s t feed new (Ok x)) is ends

-- ---- ends

pub finished : (a b d : Option (List ℕ)) (f g h : ℕ) (out err : End) (k : ℕ) (s t : Simulation) (feed : List ℕ)
    → SoFar (record { before = a; after = b; failures = f; failures_after = g }) out k s feed → Grown (record { before = b; after = d; failures = g; failures_after = h }) feed [] → h ≡ g → IsAtEnd d → IsSilent err
    → HasSimulated (record { before = a; after = d; failures = f; failures_after = h }) out err 0
finished a b d f g h out err k s t feed so grown sound at_end silent = inl (record {
  input = so.taken ++ grown.more;
  read = record { taken = Consumes-trans a b d so.taken grown.more so.read grown.taken; at_end = at_end; sound = sound ∙ so.sound };
  n = so.n;
  lines = so.lines;
  printed = so.printed;
  last = moment_of s so.events;
  done = done_read so.taken grown.more so.n so.lines so.printed _ feed [] so.done grown.longer;
  written = so.written;
  silent = silent;
  status_is = refl;
})

-- a run that stops after the bytes that were read
stopped_behind : (a b d : Option (List ℕ)) (f g h : ℕ) (out err : End) (k status : ℕ) (s : Simulation) (feed held more said : List ℕ)
    → (so : SoFar (record { before = a; after = b; failures = f; failures_after = g }) out k s feed) → Consumes b d more → held ≡ feed ++ more
    → IsFault (record { before = a; after = d; failures = f; failures_after = h }) so.n (moment_of s so.events) (length so.lines + 2) held said → IsGiven err said → status ≡ 1
    → HasSimulated (record { before = a; after = d; failures = f; failures_after = h }) out err status
stopped_behind a b d f g h out err k status s feed held more said so taken longer why given is = inr (inr (inl (record {
  taken = so.taken ++ more;
  read = Consumes-trans a b d so.taken more so.read taken;
  n = so.n;
  lines = so.lines;
  printed = so.printed;
  last = moment_of s so.events;
  rest = held;
  done = done_read so.taken more so.n so.lines so.printed _ feed held so.done longer;
  said = said;
  why = why;
  written = so.written;
  given = given;
  status_is = is;
})))

pub stopped : (a b d : Option (List ℕ)) (f g h : ℕ) (out err : End) (k status : ℕ) (s t : Simulation) (feed new said : List ℕ) (e : SimFault)
    → SoFar (record { before = a; after = b; failures = f; failures_after = g }) out k s feed → NextEnds (record { before = b; after = d; failures = g; failures_after = h }) s t feed new (Err e)
    → IsSaid k e said → IsGiven err said → status ≡ 1 → HasSimulated (record { before = a; after = d; failures = f; failures_after = h }) out err status
stopped a b d f g h out err k status s t feed new said sim.BadLine so (held, grown, bad) (inl is) given one =
    stopped_behind a b d f g h out err k status s feed held grown.more said so grown.taken grown.longer (inl (rw (← so.count) is, subst (λ n. HasBadLine (record { before = a; after = d; failures = f; failures_after = h }) n held) so.moment.whose bad)) given one
stopped a b d f g h out err k status s t feed new said sim.BadLine so (held, grown, bad) (inr is) given one =
    stopped_behind a b d f g h out err k status s feed held grown.more said so grown.taken grown.longer (inr (inr (inr is))) given one
stopped a b d f g h out err k status s t feed new said sim.BadEvent so (held, grown, bad) (inl is) given one =
    stopped_behind a b d f g h out err k status s feed held grown.more said so grown.taken grown.longer (inr (inl (rw (← so.count) is, bad so.n so.events so.moment))) given one
stopped a b d f g h out err k status s t feed new said sim.BadEvent so (held, grown, bad) (inr is) given one =
    stopped_behind a b d f g h out err k status s feed held grown.more said so grown.taken grown.longer (inr (inr (inr is))) given one
stopped a b d f g h out err k status s t feed new said sim.OutOfMemory so (more, taken) is given one =
    stopped_behind a b d f g h out err k status s feed (feed ++ more) more said so taken refl (inr (inr (inr is))) given one
stopped a b d f g h out err k status s t feed new said sim.Read so ((more, taken), failed) is given one =
    stopped_behind a b d f g h out err k status s feed (feed ++ more) more said so taken refl (inr (inr (inl (is, subst (λ x. RoseByOne x h) so.sound failed)))) given one

-- the run's lines don't end below 2^64
pub endless : (a b : Option (List ℕ)) (f g : ℕ) (out err : End) (k status : ℕ) (s : Simulation) (feed : List ℕ) → SoFar (record { before = a; after = b; failures = f; failures_after = g }) out k s feed → IsGiven err (codes "out of memory\n") → status ≡ 1
    → HasSimulated (record { before = a; after = b; failures = f; failures_after = g }) out err status
endless a b f g out err k status s feed so given one = stopped_behind a b b f g g out err k status s feed feed [] _ so (Consumes-nil b) (sym (append-nil feed)) (inr (inr (inr refl))) given one

pub broken : (a b d : Option (List ℕ)) (f g h : ℕ) (p q r : Option (List ℕ)) (x y z : ℕ) (err : End) (k status : ℕ) (s t : Simulation) (feed new text written : List ℕ) → written ≡ text
    → SoFar (record { before = a; after = b; failures = f; failures_after = g }) (record { before = p; after = q; failures = x; failures_after = y }) k s feed
    → HasStepped (record { before = b; after = d; failures = g; failures_after = h }) s t feed new text
    → IsBroken (record { before = q; after = r; failures = y; failures_after = z }) written → IsGiven err (codes "write failed\n") → status ≡ 1
    → HasSimulated (record { before = a; after = d; failures = f; failures_after = h }) (record { before = p; after = r; failures = x; failures_after = z }) err status
broken a b d f g h p q r x y z err k status s t feed new text written same so step out given one =
    let to = step.does so.n so.events so.moment in
    let front = out.part.0 in
    let rest = out.part.1 in
    inr (inr (inr (record {
      taken = so.taken ++ step.grown.more;
      read = Consumes-trans a b d so.taken step.grown.more so.read step.grown.taken;
      n = so.n;
      lines = so.lines ++ step.line ∷ [];
      printed = so.printed ++ text;
      last = moment_of t to.0;
      rest = new;
      done = done_more _ so.n so.lines so.printed _ _ step.held new step.line text (done_read so.taken step.grown.more so.n so.lines so.printed _ feed step.held so.done step.grown.longer) step.fits step.whole to.2;
      broken = record {
        part = (so.printed ++ front, rest, ap (λ w. so.printed ++ w) (sym same ∙ out.part.2) ∙ sym (append_assoc so.printed front rest), Appends-trans p q r so.printed front so.written.whole out.part.3);
        failed = subst (λ u. RoseByOne u z) so.written.sound out.failed;
      };
      given = given;
      status_is = one;
    })))

-- a first line that is none
pub not_begun : (reader out err : End) (status : ℕ) (old new said : List ℕ) (e : SimFault) → old ≡ [] → BeginEnds reader old new (Err e) → IsSaid 1 e said → IsSilent out → IsGiven err said → status ≡ 1 → HasSimulated reader out err status
not_begun reader out err status old new said sim.BadLine none (held, grown, bad) (inl is) silent given one =
    inr (inl (record { taken = held; read = subst (λ t. Consumes reader.before reader.after t) (sym (grown.longer ∙ ap (λ t. t ++ grown.more) none)) grown.taken; said = said; why = inl (is, bad); silent = silent; given = given; status_is = one }))
not_begun reader out err status old new said sim.BadLine none (held, grown, bad) (inr is) silent given one =
    inr (inl (record { taken = held; read = subst (λ t. Consumes reader.before reader.after t) (sym (grown.longer ∙ ap (λ t. t ++ grown.more) none)) grown.taken; said = said; why = inr (inr is); silent = silent; given = given; status_is = one }))
not_begun reader out err status old new said sim.BadEvent none ends is silent given one = absurd ends
not_begun reader out err status old new said sim.OutOfMemory none (more, taken) is silent given one = inr (inl (record { taken = more; read = taken; said = said; why = inr (inr is); silent = silent; given = given; status_is = one }))
not_begun reader out err status old new said sim.Read none ((more, taken), failed) is silent given one = inr (inl (record { taken = more; read = taken; said = said; why = inr (inl (is, failed)); silent = silent; given = given; status_is = one }))

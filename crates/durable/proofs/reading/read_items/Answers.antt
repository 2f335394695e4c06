use Rattle.std.proofs.Common.{◌≡◌, ◌⊎◌, ⊎_elim, ◌+◌, ◌-◌, ◌≤◌, ◌<◌, ◌++◌, ◌∷◌, [], ℕ, List, Option, Some, Err, length, drop, take, max, min, MatchOption, refl, sym, ◌∙◌, ap, subst, rules, arith, length-drop, length-take}
use Rattle.std.specs.Prelude.{⊤}
use Rattle.std.proofs.lemmas.Grind.{common_steps}
use Rattle.std.proofs.lemmas.Bool.{leb-true, leb-false}
use Rattle.durable.specs.declared.fault.RecordFault.TheVariants.{Damaged}
use Rattle.durable.proofs.Piece.{ended, next_piece, damaged_there}
use Rattle.durable.proofs.Results.{passed_on}
use Rattle.durable.proofs.reading.read_items.Goals as goal

empty_of : (xs : List ℕ) → length xs ≡ 0 → xs ≡ []
empty_of [] is = refl
empty_of (x ∷ xs) is = absurd (omega (arith, is))

-- a piece is as long as what is left, up to the room for it
piece_size : (left n size : ℕ) (buffer : List ℕ) → length buffer ≡ size → n ≡ min left size → length (take n buffer) ≡ min left size
piece_size left n size buffer room is = omega (arith, length-take n buffer, room, is)

-- what a piece that was cut off asks for
asks : (P : ℕ → Type 0) (o : Option ℕ) (least : ℕ) → MatchOption o ⊤ P → o ≡ Some least → P least
asks P o least holds is = subst (λ (x : Option ℕ). MatchOption x ⊤ P) is holds

-- the gate moves, or the next piece is longer
less : (len gate next room more least size : ℕ) → gate < len → room ≤ len → gate ≤ next → next < len → more ≡ max room (min least len) → size ≡ min (len - gate) room → size < len - gate
    → (gate < next) ⊎ (size < least) → (len - next) + (len - more) < (len - gate) + (len - room)
less len gate next room more least size in_file bounded onward within is size_is cut goes = ⊎_elim
    (λ moved. omega (arith, in_file, bounded, moved, within, is, size_is, cut))
    (λ longer. omega (arith, in_file, bounded, onward, within, is, size_is, cut, longer))
    goes

pub loop-buffer-init : goal.loop-buffer-init
loop-buffer-init g c =
    let fresh = c.requires.fresh in
    record {
      within = omega (arith, fresh.gate, c.requires.goes_on);
      room = grind (arith, common_steps, c.in_ok-resize.ensures.len);
      bounded = grind (arith, common_steps, c.in_ok-resize.ensures.len);
      none_failed = refl;
      state = λ d stands. stands;
      read = ([], fresh, λ d stands size. ap (λ (k : ℕ). drop k d.seen) (sym fresh.gate));
    }

pub returns-in_err-take_piece-clause-damaged : goal.returns-in_err-take_piece-clause-damaged
returns-in_err-take_piece-clause-damaged g c = λ is d stands size.
    let fault = c.in_err-take_piece.field-0.0 in
    let gate = c.loop-buffer.recorded.gate in
    let inside = c.loop-buffer.invariant in
    let n = length (take c.min-size.result c.deref_mut.result.now) in
    let room = length c.loop-buffer.buffer.items in
    let n_is : n ≡ min (c.args.len - gate) room = piece_size (c.args.len - gate) c.min-size.result room c.deref_mut.result.now (c.deref_mut.ensures.len ∙ (search rules)) (search rules) in
    let piece = c.in_ok-read_at.ensures.read d (inside.state d stands) (omega (arith, n_is, size, inside.within)) in
    let before = inside.read in
    let off = c.in_err-take_piece.ensures.damaged (ap Err (passed_on _ fault Damaged c.from_residual-in_err-take_piece.ensures.1 is)) in
    damaged_there c.args.cluster d.seen c.read_at.new.buf gate n before.0 (before.2 d stands size) piece _ c.loop-buffer.recorded _ before.1
    (λ last. empty_of _ (omega (arith, length-drop n (drop gate d.seen), length-drop gate d.seen, n_is, size, leb-true _ _ last))) off

pub returns-in-None-clause-read : goal.returns-in-None-clause-read
returns-in-None-clause-read g c =
    let gate = c.loop-buffer.recorded.gate in
    let inside = c.loop-buffer.invariant in
    let n = length (take c.min-size.result c.deref_mut.result.now) in
    let room = length c.loop-buffer.buffer.items in
    let n_is : n ≡ min (c.args.len - gate) room = piece_size (c.args.len - gate) c.min-size.result room c.deref_mut.result.now (c.deref_mut.ensures.len ∙ (search rules)) (search rules) in
    let before = inside.read in
    let t = c.in_ok-take_piece.ensures.taken before.0 before.1 in (
      before.0 ++ t.0,
      t.2,
      λ d stands size.
          let piece = c.in_ok-read_at.ensures.read d (inside.state d stands) (omega (arith, n_is, size, inside.within)) in
          ended c.args.cluster d.seen c.read_at.new.buf gate n before.0 (before.2 d stands size) piece t.0 t.1 t.3 t.4 (t.5 c.in-None.is),
    )

pub loop-buffer-preserved : goal.loop-buffer-preserved
loop-buffer-preserved g c =
    let gate = c.loop-buffer.recorded.gate in
    let inside = c.loop-buffer.invariant in
    let n = length (take c.min-size.result c.deref_mut.result.now) in
    let room = length c.loop-buffer.buffer.items in
    let n_is : n ≡ min (c.args.len - gate) room = piece_size (c.args.len - gate) c.min-size.result room c.deref_mut.result.now (c.deref_mut.ensures.len ∙ (search rules)) (search rules) in
    let made : length c.make_room.new.buffer.items ≡ max room (min c.in-Some.least c.args.len) = grind (arith, common_steps, c.in_ok-make_room-in-Some.ensures) in
    record {
      within = omega (arith, c.in_ok-take_piece.ensures.within.1, n_is, inside.within);
      room = grind (arith, common_steps, made, inside.room);
      bounded = grind (arith, common_steps, made, inside.bounded);
      none_failed = c.in_ok-read_at.ensures.cause.none ∙ inside.none_failed;
      state = λ d stands. c.read_at.ensures.state d (inside.state d stands);
      read =
          let before = inside.read in
          let t = c.in_ok-take_piece.ensures.taken before.0 before.1 in (
            before.0 ++ t.0,
            t.2,
            λ d stands size.
                let piece = c.in_ok-read_at.ensures.read d (inside.state d stands) (omega (arith, n_is, size, inside.within)) in
                next_piece c.args.cluster d.seen c.read_at.new.buf gate n before.0 (before.2 d stands size) piece t.0 t.1 _ t.3 t.2.gate,
          );
    }

pub loop-buffer-smaller : goal.loop-buffer-smaller
loop-buffer-smaller g c =
    let gate = c.loop-buffer.recorded.gate in
    let inside = c.loop-buffer.invariant in
    let n = length (take c.min-size.result c.deref_mut.result.now) in
    let room = length c.loop-buffer.buffer.items in
    let n_is : n ≡ min (c.args.len - gate) room = piece_size (c.args.len - gate) c.min-size.result room c.deref_mut.result.now (c.deref_mut.ensures.len ∙ (search rules)) (search rules) in
    let asked = asks _ c.in_ok-take_piece.field-0 c.in-Some.least c.in_ok-take_piece.ensures.onward c.in-Some.is in
    let within = c.in_ok-take_piece.ensures.within in
    let made : length c.make_room.new.buffer.items ≡ max room (min c.in-Some.least c.args.len) = grind (arith, common_steps, c.in_ok-make_room-in-Some.ensures) in
    let size = length c.read_at.new.buf in
    let size_is : c.min-size.result ≡ min (c.args.len - gate) room = search rules in
    let same_size : size ≡ min (c.args.len - gate) room = (search rules) ∙ n_is in
    less c.args.len gate c.take_piece.new.recorded.gate room (length c.make_room.new.buffer.items) c.in-Some.least size inside.within inside.bounded within.0 (omega (arith, within.1, n_is, inside.within))
    made same_size (omega (arith, leb-false _ _ asked.0, same_size, size_is)) asked.1

-- Two lists of frames at the front of the same bytes.
use Rattle.std.proofs.Common.{◌≡◌, ℕ, ◌<◌, ◌≤◌, ◌⊎◌, List, [], ◌∷◌, ◌++◌, length, decimal, refl, sym, ap, ap₂, ◌∙◌, inl, inr, arith, append_assoc, length-append}
use Rattle.std.proofs.lemmas.Fmt.{decimal_injective}
use Rattle.std.specs.List.{flat_map, AllByRecursion}
use Rattle.engine_page.specs.declared.input.TheConstants.{MAX_COMMANDS}
use Rattle.engine_page.specs.Framed.{FramedCommand, frame, Fits, HasNoFrame, Splits}
use Rattle.engine_page.proofs.WordLemmas.{one_words}
use Rattle.engine_page.proofs.Frames.{framed_words, frame_has_words}
use Rattle.engine_common.proofs.Texts.{one_text}

-- no frame is the beginning of another
pub one_frame : (e f : FramedCommand) (rest others : List ℕ) → Fits e → Fits f → frame e ++ rest ≡ frame f ++ others → (e ≡ f) × (rest ≡ others)
one_frame e f rest others he hf is =
    let same : framed_words e rest ≡ framed_words f others = one_words (frame e ++ rest) (framed_words e rest) (framed_words f others) (frame_has_words e rest he) (rw is (frame_has_words f others hf)) in
    let editor : e.ticket.editor ≡ f.ticket.editor = decimal_injective _ _ (omega arith) (omega arith) (ap (λ w. w.editor) same) in
    let number : e.ticket.number ≡ f.ticket.number = decimal_injective _ _ (omega arith) (omega arith) (ap (λ w. w.number) same) in
    let len : length e.text ≡ length f.text = decimal_injective _ _ (omega arith) (omega arith) (ap (λ w. w.length_word) same) in
    let text = one_text e.text f.text rest others len (ap (λ w. w.after) same) in
    (λ i. record { ticket = record { editor = editor i; number = number i }; text = text.0 i }, text.1)

-- the second list goes on where the first ends
pub record GoesOn (es fs : List FramedCommand) (rest others : List ℕ) : Type 0 where
  pub command : FramedCommand
  pub later : List FramedCommand
  pub longer : fs ≡ es ++ command ∷ later
  pub here : rest ≡ frame command ++ (flat_map frame later ++ others)

pub record Same (es fs : List FramedCommand) (rest others : List ℕ) : Type 0 where
  pub framed : es ≡ fs
  pub left : rest ≡ others

abbrev pub Compared : List FramedCommand → List FramedCommand → List ℕ → List ℕ → Type 0
Compared es fs rest others = Same es fs rest others ⊎ GoesOn es fs rest others ⊎ GoesOn fs es others rest

with_front : (e f : FramedCommand) (es fs : List FramedCommand) (rest others : List ℕ) → e ≡ f → Compared es fs rest others → Compared (e ∷ es) (f ∷ fs) rest others
with_front e f es fs rest others is (inl s) = inl (record { framed = ap₂ (λ x xs. x ∷ xs) is s.framed; left = s.left })
with_front e f es fs rest others is (inr (inl g)) = inr (inl (record { command = g.command; later = g.later; longer = ap₂ (λ x xs. x ∷ xs) (sym is) g.longer; here = g.here }))
with_front e f es fs rest others is (inr (inr g)) = inr (inr (record { command = g.command; later = g.later; longer = ap₂ (λ x xs. x ∷ xs) is g.longer; here = g.here }))

pub compared : (es fs : List FramedCommand) (rest others : List ℕ) → AllByRecursion Fits es → AllByRecursion Fits fs → flat_map frame es ++ rest ≡ flat_map frame fs ++ others → Compared es fs rest others
compared [] [] rest others he hf is = inl (record { framed = refl; left = is })
compared [] (f ∷ fs) rest others he hf is = inr (inl (record { command = f; later = fs; longer = refl; here = is ∙ append_assoc (frame f) (flat_map frame fs) others }))
compared (e ∷ es) [] rest others he hf is = inr (inr (record { command = e; later = es; longer = refl; here = sym is ∙ append_assoc (frame e) (flat_map frame es) rest }))
compared (e ∷ es) (f ∷ fs) rest others he hf is =
    let apart = sym (append_assoc (frame e) (flat_map frame es) rest) ∙ is ∙ append_assoc (frame f) (flat_map frame fs) others in
    let one = one_frame e f _ _ he.0 hf.0 apart in with_front e f es fs rest others one.0 (compared es fs rest others he.1 hf.1 one.1)

-- ---- where the second list goes on

pub each_there : (P : FramedCommand → Type 0) (es : List FramedCommand) (e : FramedCommand) (later : List FramedCommand) → AllByRecursion P (es ++ e ∷ later) → P e
each_there P [] e later each = each.0
each_there P (x ∷ es) e later each = each_there P es e later each.1

pub fits_there : (es fs : List FramedCommand) (rest others : List ℕ) (g : GoesOn es fs rest others) → AllByRecursion Fits fs → Fits g.command
fits_there es fs rest others g each = each_there Fits es g.command g.later (rw g.longer at each)

pub longer_there : (es fs : List FramedCommand) (rest others : List ℕ) → GoesOn es fs rest others → length es < length fs
longer_there es fs rest others g = omega (arith, ap length g.longer, length-append es (g.command ∷ g.later))

pub bytes_there : (es fs : List FramedCommand) (rest others : List ℕ) → GoesOn es fs rest others → 0 < length rest
bytes_there es fs rest others g = some (decimal g.command.ticket.editor) rest _ (g.here ∙ append_assoc (decimal g.command.ticket.editor) _ _)
  where
    some : (xs rest ys : List ℕ) → rest ≡ xs ++ 32 ∷ ys → 0 < length rest
    some xs rest ys is = omega (arith, ap length is, length-append xs (32 ∷ ys))

-- nothing goes on where no frame stands, or a million were read
pub stopped : (es fs : List FramedCommand) (rest others : List ℕ) → (length es ≡ MAX_COMMANDS) ⊎ HasNoFrame rest → AllByRecursion Fits fs → length fs ≤ MAX_COMMANDS → GoesOn es fs rest others → ⊥
stopped es fs rest others (inl full) each few g = let more = longer_there es fs rest others g in omega arith
stopped es fs rest others (inr none) each few g = none g.command _ (fits_there es fs rest others g each) g.here

-- an input is split into frames in at most one way
pub one_split : (input : List ℕ) (es fs : List FramedCommand) (rest others : List ℕ) → Splits input es rest → Splits input fs others → (es ≡ fs) × (rest ≡ others)
one_split input es fs rest others p q = elim (compared es fs rest others p.each q.each (sym p.whole ∙ q.whole)) [
  | inl s ↦ (s.framed, s.left)
  | inr (inl g) ↦ absurd (stopped es fs rest others p.stops q.each q.few g)
  | inr (inr g) ↦ absurd (stopped fs es others rest q.stops p.each p.few g)
]

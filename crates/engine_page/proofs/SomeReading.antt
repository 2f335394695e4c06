-- Every input has a reading.
use Rattle.std.proofs.Common.{◌≡◌, ◌≢◌, ℕ, zero, suc, ◌<◌, ◌≤◌, ◌+◌, ◌^◌, ◌⊎◌, Bool, true, false, List, [], ◌∷◌, ◌++◌, length, take, drop, decimal, Result, Ok, Err, codes, refl, sym, ap, ◌∙◌, inl, inr, arith, length-append, Decides, true≢false}
use Rattle.std.proofs.lemmas.Bool.{cases_order}
use Rattle.std.proofs.lemmas.Fmt.{decimal_injective}
use Rattle.std.proofs.lemmas.List.{take-append-drop, length-take}
use Rattle.std.proofs.lemmas.Slice.Eq.{bytes_eq-Decides}
use Rattle.std.specs.Str.{bytes_eq}
use Rattle.command.specs.Action.{Order}
use Rattle.command.specs.Written.{line_of}
use Rattle.command.specs.declared.fault.CommandFault.{CommandFault}
use Rattle.engine_common.specs.declared.cutting.TheConstants.{MAX_TEXT}
use Rattle.engine_page.specs.declared.input.TheConstants.{MAX_COMMANDS}
use Rattle.engine_page.specs.Framed.{FramedCommand, frame, Fits, HasNoFrame}
use Rattle.engine_page.specs.Reading.{framed_reading, fault_at, Begins, HasReading}
use Rattle.engine_common.specs.Cuts.{Lacks, IsCut}
use Rattle.engine_page.specs.Words.{Words, HasWords}
use Rattle.engine_common.proofs.CutLemmas.{lacks-cons}
use Rattle.engine_page.proofs.WordLemmas.{no_line, no_first, no_second}
use Rattle.engine_page.proofs.Frames.{no_words, words_are, frame_from_words}
use Rattle.engine_page.proofs.Inputs.{begins_with_frame, begins_more}

-- ---- the words of a line

abbrev Parted : ℕ → List ℕ → Type 0
Parted b bytes = (front : List ℕ) × (back : List ℕ) × IsCut b bytes front back

one_more : (b x : ℕ) (xs : List ℕ) → x ≢ b → Lacks b xs ⊎ Parted b xs → Lacks b (x ∷ xs) ⊎ Parted b (x ∷ xs)
one_more b x xs other (inl none) = inl (lacks-cons b x xs other none)
one_more b x xs other (inr p) = inr (x ∷ p.0, p.1, record { whole = ap (λ ys. x ∷ ys) p.2.whole; first = lacks-cons b x p.0 other p.2.first })

parted : (b : ℕ) (bytes : List ℕ) → Lacks b bytes ⊎ Parted b bytes
parted b [] = inl (λ i l. absurd (omega arith))
parted b (x ∷ xs) = elim (cases_order x b) [
  | inl same ↦ inr ([], xs, record { whole = ap (λ y. y ∷ xs) same; first = λ i l. absurd (omega arith) })
  | inr (inl low) ↦ one_more b x xs (λ e. omega arith) (parted b xs)
  | inr (inr high) ↦ one_more b x xs (λ e. omega arith) (parted b xs)
]

abbrev SomeWords : List ℕ → Type 0
SomeWords bytes = ((w : Words) → ¬ HasWords bytes w) ⊎ ((w : Words) × HasWords bytes w)

second_words : (bytes line after editor others : List ℕ) → IsCut 10 bytes line after → IsCut 32 line editor others → Lacks 32 others ⊎ Parted 32 others → SomeWords bytes
second_words bytes line after editor others ends first (inl none) = inl (λ w. no_second bytes line after editor others w ends first none)
second_words bytes line after editor others ends first (inr p) = inr (
  record { editor = editor; number = p.0; length_word = p.1; after = after },
  record { line = line; others = others; ends = ends; first = first; second = p.2 },
)

first_words : (bytes line after : List ℕ) → IsCut 10 bytes line after → Lacks 32 line ⊎ Parted 32 line → SomeWords bytes
first_words bytes line after ends (inl none) = inl (λ w. no_first bytes line after w ends none)
first_words bytes line after ends (inr p) = second_words bytes line after p.0 p.1 ends p.2 (parted 32 p.1)

line_words : (bytes : List ℕ) → Lacks 10 bytes ⊎ Parted 10 bytes → SomeWords bytes
line_words bytes (inl none) = inl (λ w. no_line bytes w none)
line_words bytes (inr p) = first_words bytes p.0 p.1 p.2 (parted 32 p.0)

-- ---- the numbers

abbrev SomeNumber : ℕ → List ℕ → Type 0
SomeNumber bound word = ((n : ℕ) → n < bound → word ≢ decimal n) ⊎ ((n : ℕ) × (n < bound) × (word ≡ decimal n))

number_or : (bound : ℕ) (word : List ℕ) (b : Bool) → Decides b (word ≡ decimal bound) → SomeNumber bound word → SomeNumber (suc bound) word
number_or bound word true d below = inr (bound, omega arith, d.0 refl)
number_or bound word false d (inr found) = inr (found.0, omega (arith, found.1), found.2)
number_or bound word false d (inl none) = inl (λ n low is. elim (cases_order n bound) [
  | inl same ↦ true≢false (sym (d.1 (is ∙ ap decimal same)))
  | inr (inl less) ↦ none n less is
  | inr (inr more) ↦ omega arith
])

some_number : (bound : ℕ) (word : List ℕ) → SomeNumber bound word
some_number zero word = inl (λ n low. absurd (omega arith))
some_number (suc bound) word = number_or bound word (bytes_eq word (decimal bound)) (bytes_eq-Decides word (decimal bound)) (some_number bound word)

-- ---- the frame at the front

abbrev SomeFrame : List ℕ → Type 0
SomeFrame bytes = HasNoFrame bytes ⊎ ((e : FramedCommand) × (rest : List ℕ) × Fits e × (bytes ≡ frame e ++ rest))

long_enough : (bytes : List ℕ) (w : Words) (editor number len : ℕ) → HasWords bytes w → editor < 4294967296 → number < 2 ^ 64 → len ≤ MAX_TEXT
    → w.editor ≡ decimal editor → w.number ≡ decimal number → w.length_word ≡ decimal len → len ≤ length w.after → SomeFrame bytes
long_enough bytes w editor number len words e_low n_low l_low e_is n_is l_is fits =
    let text = take len w.after in
    let size : length text ≡ len = omega (arith, length-take len w.after) in
    let command : FramedCommand = record { ticket = record { editor = editor; number = number }; text = text } in
    inr (command, drop len w.after, (e_low, n_low, omega arith), frame_from_words bytes w command (drop len w.after) words e_is n_is (l_is ∙ ap decimal (sym size)) (sym (take-append-drop len w.after)))

too_short : (bytes : List ℕ) (w : Words) (len : ℕ) → HasWords bytes w → len ≤ MAX_TEXT → w.length_word ≡ decimal len → length w.after < len → HasNoFrame bytes
too_short bytes w len words low is short e rest ok here =
    let same = words_are bytes w e rest words ok here in
    let size : len ≡ length e.text = decimal_injective len (length e.text) (omega arith) (omega arith) (sym is ∙ ap (λ v. v.length_word) same) in
    let after : length w.after ≡ length e.text + length rest = ap (λ v. length v.after) same ∙ length-append e.text rest in
    omega arith

frame_of_words : (bytes : List ℕ) (w : Words) → HasWords bytes w → SomeNumber 4294967296 w.editor → SomeNumber (2 ^ 64) w.number → SomeNumber 1_000_001 w.length_word → SomeFrame bytes
frame_of_words bytes w words (inl none) number len = inl (λ e rest ok is. none e.ticket.editor (omega arith) (ap (λ v. v.editor) (words_are bytes w e rest words ok is)))
frame_of_words bytes w words (inr editor) (inl none) len = inl (λ e rest ok is. none e.ticket.number (omega arith) (ap (λ v. v.number) (words_are bytes w e rest words ok is)))
frame_of_words bytes w words (inr editor) (inr number) (inl none) =
    inl (λ e rest ok is. none (length e.text) (omega arith) (ap (λ v. v.length_word) (words_are bytes w e rest words ok is)))
frame_of_words bytes w words (inr editor) (inr number) (inr len) =
    let low : len.0 ≤ MAX_TEXT = omega (arith, len.1) in
    let fits = long_enough bytes w editor.0 number.0 len.0 words editor.1 number.1 low editor.2 number.2 len.2 in
    elim (cases_order (length w.after) len.0) [
      | inl same ↦ fits (omega arith)
      | inr (inl short) ↦ inl (too_short bytes w len.0 words low len.2 short)
      | inr (inr long) ↦ fits (omega arith)
    ]

frame_or_none : (bytes : List ℕ) → SomeWords bytes → SomeFrame bytes
frame_or_none bytes (inl none) = inl (no_words bytes none)
frame_or_none bytes (inr w) = frame_of_words bytes w.0 w.1 (some_number 4294967296 w.0.editor) (some_number (2 ^ 64) w.0.number) (some_number 1_000_001 w.0.length_word)

some_frame : (bytes : List ℕ) → SomeFrame bytes
some_frame bytes = frame_or_none bytes (line_words bytes (parted 10 bytes))

frame_some : (e : FramedCommand) → 0 < length (frame e)
frame_some e = omega (arith, length-append (decimal e.ticket.editor) (32 ∷ (decimal e.ticket.number ++ (32 ∷ (decimal (length e.text) ++ (10 ∷ e.text))))))

-- ---- the reading

abbrev SomeReading : List ℕ → Type 0
SomeReading input = (reading : Result (List Order) (List ℕ)) × HasReading input reading

framing : (input : List ℕ) (framed : List FramedCommand) (orders : List Order) (rest : List ℕ) → Begins input framed orders rest → length framed ≤ MAX_COMMANDS → 0 < length rest
    → (length framed ≡ MAX_COMMANDS) ⊎ HasNoFrame rest → SomeReading input
framing input framed orders rest begins few some stops = (
  Err (fault_at (length framed + 1) (codes "framing")),
  inr (record { framed = framed; orders = orders; rest = rest; begins = begins; few = few; some = some; stops = stops; line_is = refl }),
)

module _ (input : List ℕ) where
  -- a reading for what is left, where that is shorter
  abbrev Onward : ℕ → Type 0
  Onward bound = (framed : List FramedCommand) (orders : List Order) (rest : List ℕ) → length rest < bound → Begins input framed orders rest → length framed ≤ MAX_COMMANDS → SomeReading input

  of_command : (bound : ℕ) (framed : List FramedCommand) (orders : List Order) (e : FramedCommand) (after : List ℕ) (r : Result Order CommandFault) → framed_reading e ≡ r → Onward bound
      → length after < bound → Begins input framed orders (frame e ++ after) → length framed < MAX_COMMANDS → Fits e → SomeReading input
  of_command bound framed orders e after (Ok order) is onward less begins few ok =
      let longer = length-append framed (e ∷ []) in onward (framed ++ e ∷ []) (orders ++ order ∷ []) after less (begins_more input framed orders (frame e ++ after) e after order begins refl ok is) (omega arith)
  of_command bound framed orders e after (Err fault) is onward less begins few ok = (
    Err (fault_at (length framed + 1) (line_of fault)),
    inl (record { framed = framed; orders = orders; command = e; rest = after; fault = fault; begins = begins; few = few; fits = ok; is = is; line_is = refl }),
  )

  of_frame : (bound : ℕ) (framed : List FramedCommand) (orders : List Order) (rest : List ℕ) → SomeFrame rest → Onward bound → length rest < suc bound → 0 < length rest
      → Begins input framed orders rest → length framed < MAX_COMMANDS → SomeReading input
  of_frame bound framed orders rest (inl none) onward less some begins few = framing input framed orders rest begins (omega arith) some (inr none)
  of_frame bound framed orders rest (inr f) onward less some begins few =
      let longer : length rest ≡ length (frame f.0) + length f.1 = ap length f.3 ∙ length-append (frame f.0) f.1 in
      of_command bound framed orders f.0 f.1 (framed_reading f.0) refl onward (let front : 0 < length (frame f.0) = frame_some f.0 in omega arith) (begins_with_frame input framed orders rest (frame f.0 ++ f.1) begins f.3) few f.2

  onward : (bound : ℕ) → Onward bound
  onward zero framed orders rest less begins few = absurd (omega arith)
  onward (suc bound) framed orders [] less begins few = (Ok orders, record { framed = framed; begins = begins; few = few })
  onward (suc bound) framed orders (x ∷ xs) less begins few = elim (cases_order (length framed) MAX_COMMANDS) [
    | inl full ↦ framing input framed orders (x ∷ xs) begins few (omega arith) (inl full)
    | inr (inl less_than) ↦ of_frame bound framed orders (x ∷ xs) (some_frame (x ∷ xs)) (onward bound) less (omega arith) begins less_than
    | inr (inr more) ↦ absurd (omega arith)
  ]

pub some_reading : (input : List ℕ) → SomeReading input
some_reading input = onward input (suc (length input)) [] [] input (omega arith) (record { whole = refl; each = tt; commands = tt }) (omega arith)

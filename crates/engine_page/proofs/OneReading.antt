-- An input has at most one reading.
use Rattle.std.proofs.Common.{◌≡◌, ℕ, ◌≤◌, ◌+◌, List, [], ◌∷◌, ◌++◌, length, Result, Ok, Err, codes, refl, sym, ap, ap₂, ◌∙◌, inl, inr, arith}
use Rattle.std.specs.List.{flat_map, AllByRecursion, AllZip}
use Rattle.command.specs.Action.{Order}
use Rattle.command.specs.Written.{line_of}
use Rattle.command.specs.declared.fault.CommandFault.{CommandFault}
use Rattle.engine_page.specs.declared.input.TheConstants.{MAX_COMMANDS}
use Rattle.engine_page.specs.Framed.{FramedCommand, frame, Fits}
use Rattle.engine_page.specs.Reading.{framed_reading, HasOrder, fault_at, IsCommandFault, IsFramingFault, IsWhole, HasReading}
use Rattle.engine_page.proofs.Splitting.{one_frame, GoesOn, Same, compared, each_there, fits_there, bytes_there, stopped}

one_order : (r : Result Order CommandFault) (a b : Order) → r ≡ Ok a → r ≡ Ok b → a ≡ b
one_order r a b p q = cc

same_orders : (es : List FramedCommand) (os ps : List Order) → AllZip HasOrder es os → AllZip HasOrder es ps → os ≡ ps
same_orders [] [] [] p q = refl
same_orders [] [] (b ∷ ps) p q = absurd q
same_orders [] (a ∷ os) ps p q = absurd p
same_orders (e ∷ es) [] ps p q = absurd p
same_orders (e ∷ es) (a ∷ os) [] p q = absurd q
same_orders (e ∷ es) (a ∷ os) (b ∷ ps) p q = ap₂ (λ x xs. x ∷ xs) (one_order (framed_reading e) a b p.0 q.0) (same_orders es os ps p.1 q.1)

abbrev IsCommand : FramedCommand → Type 0
IsCommand e = (order : Order) × HasOrder e order

all_commands : (es : List FramedCommand) (orders : List Order) → AllZip HasOrder es orders → AllByRecursion IsCommand es
all_commands [] [] zip = tt
all_commands [] (o ∷ os) zip = tt
all_commands (e ∷ es) [] zip = absurd zip
all_commands (e ∷ es) (o ∷ os) zip = ((o, zip.0), all_commands es os zip.1)

no_command : (e : FramedCommand) (fault : CommandFault) → framed_reading e ≡ Err fault → IsCommand e → ⊥
no_command e fault bad good = let order = good.0 in let h = good.1 in cc

-- where a fault stands, no command does
no_more : (es fs : List FramedCommand) (orders : List Order) (e : FramedCommand) (after others : List ℕ) (fault : CommandFault) → Fits e → framed_reading e ≡ Err fault
    → AllByRecursion Fits fs → AllZip HasOrder fs orders → GoesOn es fs (frame e ++ after) others → ⊥
no_more es fs orders e after others fault fits bad each zip g =
    let same : e ≡ g.command = (one_frame e g.command after _ fits (fits_there es fs _ others g each) g.here).0 in
    no_command g.command fault (rw same at bad) (each_there IsCommand es g.command g.later (rw g.longer at (all_commands fs orders zip)))

-- ---- a reading's framed commands, and what is left, which no other reading goes on from

record Stops (input : List ℕ) (framed : List FramedCommand) (rest : List ℕ) : Type 0 where
  whole : input ≡ flat_map frame framed ++ rest
  each : AllByRecursion Fits framed
  orders : List Order
  commands : AllZip HasOrder framed orders
  few : length framed ≤ MAX_COMMANDS
  last : (fs : List FramedCommand) (others : List ℕ) (orders : List Order) → AllByRecursion Fits fs → AllZip HasOrder fs orders → length fs ≤ MAX_COMMANDS → GoesOn framed fs rest others → ⊥

of_whole : (input : List ℕ) (orders : List Order) (w : IsWhole input orders) → Stops input w.framed []
of_whole input orders w = record {
  whole = w.begins.whole;
  each = w.begins.each;
  orders = orders;
  commands = w.begins.commands;
  few = w.few;
  last = λ fs others _ each zip few g. omega (arith, bytes_there w.framed fs [] others g);
}

of_fault : (input line : List ℕ) (f : IsCommandFault input line) → Stops input f.framed (frame f.command ++ f.rest)
of_fault input line f = record {
  whole = f.begins.whole;
  each = f.begins.each;
  orders = f.orders;
  commands = f.begins.commands;
  few = omega arith;
  last = λ fs others orders each zip few g. no_more f.framed fs orders f.command f.rest others f.fault f.fits f.is each zip g;
}

of_framing : (input line : List ℕ) (f : IsFramingFault input line) → Stops input f.framed f.rest
of_framing input line f = record {
  whole = f.begins.whole;
  each = f.begins.each;
  orders = f.orders;
  commands = f.begins.commands;
  few = f.few;
  last = λ fs others orders each zip few g. stopped f.framed fs f.rest others f.stops each few g;
}

met : (input : List ℕ) (es fs : List FramedCommand) (rest others : List ℕ) → Stops input es rest → Stops input fs others → Same es fs rest others
met input es fs rest others p q = elim (compared es fs rest others p.each q.each (sym p.whole ∙ q.whole)) [
  | inl s ↦ s
  | inr (inl g) ↦ absurd (p.last fs others q.orders q.each q.commands q.few g)
  | inr (inr g) ↦ absurd (q.last es rest p.orders p.each p.commands p.few g)
]

-- ---- the readings, by kind

no_frame_left : (e : FramedCommand) (after : List ℕ) → [] ≡ frame e ++ after → ⊥
no_frame_left e after is = omega (arith, bytes_there [] (e ∷ []) [] after (record { command = e; later = []; longer = refl; here = is }))

whole_or_fault : (input line : List ℕ) (orders : List Order) → IsWhole input orders → IsCommandFault input line → ⊥
whole_or_fault input line orders w f = no_frame_left f.command f.rest (met input _ _ _ _ (of_whole input orders w) (of_fault input line f)).left

whole_or_framing : (input line : List ℕ) (orders : List Order) → IsWhole input orders → IsFramingFault input line → ⊥
whole_or_framing input line orders w f = let left = ap length (met input _ _ _ _ (of_whole input orders w) (of_framing input line f)).left in omega (arith, f.some)

fault_or_framing : (input k l : List ℕ) → IsCommandFault input k → IsFramingFault input l → ⊥
fault_or_framing input k l f g =
    let m = met input _ _ _ _ (of_fault input k f) (of_framing input l g) in
    elim g.stops [
      | inl full ↦ omega (arith, ap length m.framed, f.few)
      | inr none ↦ none f.command f.rest f.fits (sym m.left)
    ]

same_wholes : (input : List ℕ) (os ps : List Order) → IsWhole input os → IsWhole input ps → os ≡ ps
same_wholes input os ps v w =
    let m = met input _ _ _ _ (of_whole input os v) (of_whole input ps w) in same_orders w.framed os ps (rw m.framed at v.begins.commands) w.begins.commands

one_fault : (e f : FramedCommand) (a b : CommandFault) → e ≡ f → framed_reading e ≡ Err a → framed_reading f ≡ Err b → a ≡ b
one_fault e f a b same p q = let moved = ap framed_reading same in cc

same_faults : (input k l : List ℕ) → IsCommandFault input k → IsCommandFault input l → k ≡ l
same_faults input k l f g =
    let m = met input _ _ _ _ (of_fault input k f) (of_fault input l g) in
    let fault = one_fault f.command g.command f.fault g.fault (one_frame f.command g.command f.rest g.rest f.fits g.fits m.left).0 f.is g.is in
    f.line_is ∙ ap₂ (λ n t. fault_at (n + 1) (line_of t)) (ap length m.framed) fault ∙ sym g.line_is

same_framings : (input k l : List ℕ) → IsFramingFault input k → IsFramingFault input l → k ≡ l
same_framings input k l f g =
    let m = met input _ _ _ _ (of_framing input k f) (of_framing input l g) in
    f.line_is ∙ ap (λ n. fault_at (n + 1) (codes "framing")) (ap length m.framed) ∙ sym g.line_is

pub one_reading : (input : List ℕ) (one other : Result (List Order) (List ℕ)) → HasReading input one → HasReading input other → one ≡ other
one_reading input (Ok os) (Ok ps) p q = ap Ok (same_wholes input os ps p q)
one_reading input (Ok os) (Err l) p (inl q) = absurd (whole_or_fault input l os p q)
one_reading input (Ok os) (Err l) p (inr q) = absurd (whole_or_framing input l os p q)
one_reading input (Err k) (Ok ps) (inl p) q = absurd (whole_or_fault input k ps q p)
one_reading input (Err k) (Ok ps) (inr p) q = absurd (whole_or_framing input k ps q p)
one_reading input (Err k) (Err l) (inl p) (inl q) = ap Err (same_faults input k l p q)
one_reading input (Err k) (Err l) (inl p) (inr q) = absurd (fault_or_framing input k l p q)
one_reading input (Err k) (Err l) (inr p) (inl q) = absurd (fault_or_framing input l k q p)
one_reading input (Err k) (Err l) (inr p) (inr q) = ap Err (same_framings input k l p q)

pub same_framed : (input : List ℕ) (os ps : List Order) (v : IsWhole input os) (w : IsWhole input ps) → v.framed ≡ w.framed
same_framed input os ps v w = (met input _ _ _ _ (of_whole input os v) (of_whole input ps w)).framed

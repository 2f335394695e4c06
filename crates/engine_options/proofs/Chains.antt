-- A command made of a list of arguments: a required one of them has a value, and its text passed its parser.
use Rattle.std.proofs.Common.{◌≡◌, ◌∙◌, ◌++◌, ◌<◌, ◌≤◌, ◌||◌, ◌&&◌, ℕ, zero, suc, Bool, true, false, not, List, [], ◌∷◌, length, Some, None, is_some, refl, sym, ap, ap₂, subst, inl, inr, arith, codes}
use Rattle.std.specs.Prelude.{⊤}
use Rattle.std.specs.List.{All, slice_index_or, list_any, list_all}
use Rattle.std.specs.Str.{bytes_eq}
use Rattle.std.proofs.lemmas.List.{append-nil, append_assoc}
use Rattle.std.proofs.lemmas.List.Elements.{All-nil}
use Rattle.std.proofs.lemmas.Slice.Eq.{bytes_eq-Decides}
use Rattle.clap.specs.Words.{App, Rule, app_of, args_of, groups_of, rule_of, with_rule, found_of, first_value, one_text, read_as, reading_of, IsParsedFrom, IsPlain, IsPlainArg, AddsArg, SameRules, Accepts}
use Rattle.clap.specs.Built.{FitsChain, TakesValue, HasDistinctIds, AddsInTurn, KeepsList, IsAuto}
use Rattle.clap.specs.declared.builder.arg.Arg.{Arg}
use Rattle.clap.specs.declared.builder.action.ArgAction.TheVariants.{Set}
use Rattle.clap.specs.declared.builder.command.Command.{Command}
use Rattle.clap.specs.declared.builder.command.Command.TheViews.{out-Command}
use Rattle.clap.specs.declared.builder.value_parser.ValueParser.{ValueParser}
use Rattle.clap.specs.declared.parser.matches.ArgMatches.{ArgMatches}
use Rattle.clap.specs.Facts.{least_values}
use Rattle.clap.proofs.CallerLemmas.{required_in_chain, added_plain}
use Rattle.clap.proofs.CallerReads.{required_reads}
use Rattle.clap.specs.declared.builder.value_parser.Reading.TheVariants.{AsWritten}
use Rattle.engine_options.proofs.OptionValues.{IsAlone, text_accepted}

-- a command that has nothing yet
pub record IsBare (c : Command) : Type 0 where
  pub args : args_of c ≡ []
  pub groups : groups_of c ≡ []
  pub globals : (out-Command c).has_globals ≡ false
  pub negates : (out-Command c).subcommand_negates_reqs ≡ false

-- an argument with that id, which excludes nothing and is of its command alone
pub record IsNamed (a : Arg) (id : List ℕ) : Type 0 where
  pub is : a.id.now ≡ id
  pub plain : IsPlainArg a
  pub local : a.global ≡ false

abbrev pub AreNamed : List Arg → List (List ℕ) → Type 0
AreNamed [] [] = ⊤
AreNamed [] (w ∷ ws) = ⊥
AreNamed (x ∷ xs) [] = ⊥
AreNamed (x ∷ xs) (w ∷ ws) = IsNamed x w × AreNamed xs ws

-- no word stands twice
abbrev pub are_different : List (List ℕ) → Bool
are_different [] = true
are_different (w ∷ ws) = not (list_any (λ v. bytes_eq v w) ws) && are_different ws

-- a word that may be an id of a caller's
abbrev pub is_own : List ℕ → Bool
is_own w = not (bytes_eq w [] || (bytes_eq w (codes "help") || bytes_eq w (codes "version")))

-- the command that arguments of these ids make of a bare one
pub record IsChain (start command : Command) (xs : List Arg) (ids : List (List ℕ)) : Type 0 where
  pub bare : IsBare start
  pub added : AddsInTurn AddsArg start xs command
  pub named : AreNamed xs ids
  pub different : are_different ids ≡ true
  pub own : list_all is_own ids ≡ true

-- ---- their ids

pub and_left : (a b : Bool) → (a && b) ≡ true → a ≡ true
and_left true b e = refl
and_left false b e = e

and_right : (a b : Bool) → (a && b) ≡ true → b ≡ true
and_right true b e = e
and_right false b e = cc

not_true : (a : Bool) → not a ≡ true → a ≡ true → ⊥
not_true true e f = cc
not_true false e f = cc

or_left : (a b : Bool) → a ≡ true → (a || b) ≡ true
or_left true b e = refl
or_left false b e = cc

or_right : (a b : Bool) → b ≡ true → (a || b) ≡ true
or_right true b e = refl
or_right false b e = e

same_bytes : (v w : List ℕ) → v ≡ w → bytes_eq v w ≡ true
same_bytes v w = (bytes_eq-Decides v w).1

among : (xs : List Arg) (ids : List (List ℕ)) (w : List ℕ) → AreNamed xs ids → (k : ℕ) (d : Arg) → k < length xs
    → (slice_index_or xs k d).id.now ≡ w → list_any (λ v. bytes_eq v w) ids ≡ true
among [] ids w h k d lt same = absurd (omega arith)
among (x ∷ xs) [] w h k d lt same = absurd h
among (x ∷ xs) (v ∷ ids) w h zero d lt same = or_left _ _ (same_bytes v w (sym h.0.is ∙ same))
among (x ∷ xs) (v ∷ ids) w h (suc k) d lt same = or_right (bytes_eq v w) _ (among xs ids w h.1 k d (omega arith) same)

distinct : (xs : List Arg) (ids : List (List ℕ)) → AreNamed xs ids → are_different ids ≡ true → HasDistinctIds xs
distinct [] ids h apart j k d e low lower same = absurd (omega arith)
distinct (x ∷ xs) [] h apart j k d e low lower same = absurd h
distinct (x ∷ xs) (w ∷ ids) h apart zero zero d e low lower same = refl
distinct (x ∷ xs) (w ∷ ids) h apart zero (suc k) d e low lower same =
    absurd (not_true _ (and_left _ _ apart) (among xs ids w h.1 k d (omega arith) (sym ((bytes_eq-Decides _ _).0 same) ∙ h.0.is)))
distinct (x ∷ xs) (w ∷ ids) h apart (suc j) zero d e low lower same =
    absurd (not_true _ (and_left _ _ apart) (among xs ids w h.1 j e (omega arith) ((bytes_eq-Decides _ _).0 same ∙ h.0.is)))
distinct (x ∷ xs) (w ∷ ids) h apart (suc j) (suc k) d e low lower same =
    ap suc (distinct xs ids h.1 (and_right _ _ apart) j k d e (omega arith) (omega arith) same)

is_no_auto : (a : Arg) (w : List ℕ) → a.id.now ≡ w → is_own w ≡ true → IsAuto a → ⊥
is_no_auto a w is own (inl h) = not_true _ own (or_right (bytes_eq w []) _ (or_left _ _ (same_bytes w (codes "help") (sym is ∙ h))))
is_no_auto a w is own (inr h) =
    not_true _ own (or_right (bytes_eq w []) _ (or_right (bytes_eq w (codes "help")) _ (same_bytes w (codes "version") (sym is ∙ h))))

fits_all : (xs : List Arg) (ids : List (List ℕ)) → AreNamed xs ids → list_all is_own ids ≡ true → All FitsChain xs
fits_all [] ids h own k d lt = absurd (omega arith)
fits_all (x ∷ xs) [] h own k d lt = absurd h
fits_all (x ∷ xs) (w ∷ ids) h own zero d lt = (
  h.0.plain,
  h.0.local,
  (λ empty. not_true _ (and_left _ _ own) (or_left _ _ (same_bytes w [] (sym h.0.is ∙ empty)))),
  is_no_auto x w h.0.is (and_left _ _ own),
)
fits_all (x ∷ xs) (w ∷ ids) h own (suc k) d lt = fits_all xs ids h.1 (and_right _ _ own) k d (omega arith)

-- ---- what one has

-- the required argument at place k has a value
pub chain_given : (start command : Command) (xs : List Arg) (ids : List (List ℕ)) (k : ℕ) (d : Arg) (m : ArgMatches) → IsChain start command xs ids → k < length xs
    → TakesValue (slice_index_or xs k d) → IsParsedFrom command m → is_some (first_value (found_of m) (slice_index_or xs k d).id.now) ≡ true
chain_given start command xs ids k d m chain lt value parsed =
    required_in_chain start command xs k d m chain.added chain.bare.args chain.bare.groups chain.bare.globals chain.bare.negates
    (fits_all xs ids chain.named chain.own) (distinct xs ids chain.named chain.different) lt value parsed

tail_places : (x y : Arg) (xs ys : List Arg) → SameRules x y
    → ((k : ℕ) (e g : Arg) → k < length xs → SameRules (slice_index_or xs k e) (slice_index_or ys k g))
    → (k : ℕ) (e g : Arg) → k < length (x ∷ xs) → SameRules (slice_index_or (x ∷ xs) k e) (slice_index_or (y ∷ ys) k g)
tail_places x y xs ys r rest zero e g lt = r
tail_places x y xs ys r rest (suc n) e g lt = rest n e g (omega arith)

all_tail : {X : Type 0} (P : X → Type 0) (x : X) (xs : List X) → All P (x ∷ xs) → All P xs
all_tail P x xs h = λ k d lt. h (suc k) d (omega arith)

-- the arguments that a chain adds, place by place, and a command of the same kind
chain_facts : (c d : Command) (xs : List Arg) → AddsInTurn AddsArg c xs d → All FitsChain xs → IsPlain c
    → (out-Command c).has_globals ≡ false → (out-Command c).subcommand_negates_reqs ≡ false
    → (ys : List Arg) × (args_of d ≡ args_of c ++ ys) × KeepsList xs ys × IsPlain d
    × ((out-Command d).has_globals ≡ false) × ((out-Command d).subcommand_negates_reqs ≡ false)
chain_facts c d [] h all plain globals negates =
    ([], rw h (sym (append-nil _)), (refl, (λ k e f lt. absurd (omega arith))), rw (← h) plain, rw (← h) globals, rw (← h) negates)
chain_facts c d (x ∷ xs) h all plain globals negates =
    let added = h.1 in
    let fit = all 0 x (omega arith) in
    let plain2 = added_plain c h.0 x added plain fit.0 in
    let globals2 = added.globals ∙ (ap (λ b. b || x.global) globals ∙ ap (λ b. false || b) fit.1) in
    let f = chain_facts h.0 d xs h.2 (all_tail FitsChain x xs all) plain2 globals2 (added.negates ∙ negates) in (
      added.arg ∷ f.0,
      f.1 ∙ (ap (λ l. l ++ f.0) added.args ∙ append_assoc (args_of c) (added.arg ∷ []) f.0),
      (ap suc f.2.0, tail_places x added.arg xs f.0 added.rules f.2.1),
      f.3,
      f.4,
      f.5,
    )

same_place : {X : Type 0} (xs : List X) (k : ℕ) (d e : X) → k < length xs → slice_index_or xs k d ≡ slice_index_or xs k e
same_place [] k d e lt = absurd (omega (arith, lt))
same_place (x ∷ xs) zero d e lt = refl
same_place (x ∷ xs) (suc k) d e lt = same_place xs k d e (omega (arith, lt))

-- a text that a getter reads of the argument at place k passed its parser, where it is read as it is written
pub chain_accepted : (start command : Command) (xs : List Arg) (ids : List (List ℕ)) (k : ℕ) (d : Arg) (q : ValueParser) (m : ArgMatches) (t : List ℕ) → IsChain start command xs ids
    → k < length xs → (slice_index_or xs k d).value_parser ≡ Some q → reading_of q ≡ AsWritten → IsParsedFrom command m
    → one_text (found_of m) (slice_index_or xs k d).id.now ≡ Some t → Accepts (slice_index_or (args_of command) k d).ignore_case q t
chain_accepted start command xs ids k d q m t chain lt parser written p found =
    let all = fits_all xs ids chain.named chain.own in
    let plain : IsPlain start = (subst (All IsPlainArg) (sym chain.bare.args) (All-nil IsPlainArg), chain.bare.groups) in
    let f = chain_facts start command xs chain.added all plain chain.bare.globals chain.bare.negates in
    let list : args_of command ≡ f.0 = f.1 ∙ ap (λ l. l ++ f.0) chain.bare.args in
    let a = slice_index_or xs k d in
    let b = slice_index_or (args_of command) k d in
    let elem : b ≡ slice_index_or f.0 k d = ap (λ l. slice_index_or l k d) list in
    let rules = f.2.1 k d d lt in
    let fit = all k d lt in
    let len : length (args_of command) ≡ length xs = ap length list ∙ f.2.0 in
    let within : k < length (args_of command) = omega arith in
    let same_now : b.id.now ≡ a.id.now = ap (λ x. x.id.now) elem ∙ ap (λ x. x.now) rules.id in
    let same_parser : b.value_parser ≡ Some q = ap (λ x. x.value_parser) elem ∙ rules.parser q parser in
    let only : (j : ℕ) (e : Arg) → j < length (args_of command) → bytes_eq (slice_index_or (args_of command) j e).id.now b.id.now ≡ true → j ≡ k =
    λ j e low same.
    let in_xs : j < length xs = omega arith in
    let there : (slice_index_or (args_of command) j e).id.now ≡ (slice_index_or xs j e).id.now =
    ap (λ l. (slice_index_or l j e).id.now) list ∙ ap (λ x. x.now) (f.2.1 j e e in_xs).id in
    distinct xs ids chain.named chain.different j k d e in_xs lt (rw (← there, ← same_now) same) in
    let alone : IsAlone command b q = record {
      place = k;
      within = within;
      there = same_place (args_of command) k b d within;
      unique = only;
      named = λ empty. fit.2 (sym same_now ∙ empty);
      own = λ auto. fit.3 (elim auto [ inl h ↦ inl (sym same_now ∙ h) | inr h ↦ inr (sym same_now ∙ h) ]);
      parser = same_parser;
    } in
    text_accepted command m p b q t alone written f.3 f.4 (subst (λ (w : List ℕ). one_text (found_of m) w ≡ Some t) (sym same_now) found)

-- a getter reads a text of it, which passed its parser
pub chain_read : (start command : Command) (xs : List Arg) (ids : List (List ℕ)) (k : ℕ) (d : Arg) (q : ValueParser) (m : ArgMatches) → IsChain start command xs ids
    → k < length xs → TakesValue (slice_index_or xs k d) → (slice_index_or xs k d).value_parser ≡ Some q → IsParsedFrom command m
    → (t : List ℕ) × (one_text (found_of m) (slice_index_or xs k d).id.now ≡ Some (read_as (reading_of q) t))
    × Accepts (slice_index_or xs k d).ignore_case q t
chain_read start command xs ids k d q m chain lt value parser p =
    let all = fits_all xs ids chain.named chain.own in
    let plain : IsPlain start = (subst (All IsPlainArg) (sym chain.bare.args) (All-nil IsPlainArg), chain.bare.groups) in
    let f = chain_facts start command xs chain.added all plain chain.bare.globals chain.bare.negates in
    let list : args_of command ≡ f.0 = f.1 ∙ ap (λ l. l ++ f.0) chain.bare.args in
    let a = slice_index_or xs k d in
    let b = slice_index_or (args_of command) k d in
    let elem : b ≡ slice_index_or f.0 k d = ap (λ l. slice_index_or l k d) list in
    let rules = f.2.1 k d d lt in
    let fit = all k d lt in
    let len : length (args_of command) ≡ length xs = ap length list ∙ f.2.0 in
    let within : k < length (args_of command) = omega arith in
    let same_now : b.id.now ≡ a.id.now = ap (λ x. x.id.now) elem ∙ ap (λ x. x.now) rules.id in
    let wanted : b.required ≡ true = ap (λ x. x.required) elem ∙ (rules.required ∙ value.0) in
    let is_set : b.action ≡ Some Set = ap (λ x. x.action) elem ∙ rules.action Set value.1 in
    let no_delim : b.val_delim ≡ None = ap (λ x. x.val_delim) elem ∙ (rules.val_delim ∙ value.2) in
    let least : 1 ≤ least_values b = subst (λ x. 1 ≤ least_values x) (sym elem) (rules.least value.1 value.3) in
    let same_parser : b.value_parser ≡ Some q = ap (λ x. x.value_parser) elem ∙ rules.parser q parser in
    let same_case : b.ignore_case ≡ a.ignore_case = ap (λ x. x.ignore_case) elem ∙ rules.ignore_case in
    let only : (j : ℕ) (e : Arg) → j < length (args_of command) → bytes_eq (slice_index_or (args_of command) j e).id.now b.id.now ≡ true → j ≡ k =
    λ j e low same.
    let in_xs : j < length xs = omega arith in
    let there : (slice_index_or (args_of command) j e).id.now ≡ (slice_index_or xs j e).id.now =
    ap (λ l. (slice_index_or l j e).id.now) list ∙ ap (λ x. x.now) (f.2.1 j e e in_xs).id in
    distinct xs ids chain.named chain.different j k d e in_xs lt (rw (← there, ← same_now) same) in
    let got = required_reads command m p f.3 f.4 f.5 k d within wanted is_set no_delim least only
    (λ empty. fit.2 (sym same_now ∙ empty))
    (λ auto. fit.3 (elim auto [ inl h ↦ inl (sym same_now ∙ h) | inr h ↦ inr (sym same_now ∙ h) ]))
    q same_parser in (
      got.0,
      subst (λ (w : List ℕ). one_text (found_of m) w ≡ Some (read_as (reading_of q) got.0)) same_now got.1,
      subst (λ (c : Bool). Accepts c q got.0) same_case got.2,
    )

-- one argument more, and its rule
pub adds : (old new : Command) (a : Arg) (app : App) (r : Rule) → AddsArg old a new → a.global ≡ false → app_of old ≡ app → rule_of a ≡ r → app_of new ≡ with_rule app r
adds old new a app r added local is rule = added.shape local ∙ ap₂ with_rule is rule

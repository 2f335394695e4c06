-- What a parse of a command of two arguments gives: the second is there, and the first passed its parser.
use Rattle.std.proofs.Common.{◌≡◌, ◌∙◌, ◌<◌, ℕ, Bool, true, false, List, [], ◌∷◌, length, Option, Some, None, refl, sym, ap, subst, inl, inr, arith}
use Rattle.std.specs.Prelude.{option_map, slice_get}
use Rattle.std.specs.Borrow.{Bor}
use Rattle.std.specs.List.{All, slice_index_or}
use Rattle.std.specs.Str.{bytes_eq}
use Rattle.std.proofs.lemmas.List.Elements.{All-get_or}
use Rattle.std.proofs.lemmas.Slice.Eq.{bytes_eq-Decides}
use Rattle.clap.specs.Words.{args_of, groups_of, found_of, matched_of, one_text, read_as, reading_of, IsParsedFrom, IsPlain, SameRules, Accepts, parser_of}
use Rattle.clap.specs.Facts.{Entry, EntryPasses, PassesArg, HasReading, parser_of_value}
use Rattle.clap.specs.Built.{IsAuto}
use Rattle.clap.specs.declared.builder.arg.Arg.{Arg}
use Rattle.clap.specs.declared.builder.command.Command.{Command}
use Rattle.clap.specs.declared.builder.command.Command.TheViews.{out-Command}
use Rattle.clap.specs.declared.builder.value_parser.ValueParser.{ValueParser}
use Rattle.clap.specs.declared.builder.value_parser.Reading.{Reading}
use Rattle.clap.specs.declared.builder.value_parser.Reading.TheVariants.{AsWritten}
use Rattle.clap.specs.declared.parser.matches.ArgMatches.{ArgMatches}
use Rattle.clap.specs.declared.parser.matches.MatchedArg.{MatchedArg}
use Rattle.clap.proofs.CallerLemmas.{entry_by_id, same_rules_by_id}

-- an argument of a caller's command, alone with its id
pub record IsAlone (c : Command) (a : Arg) (q : ValueParser) : Type 0 where
  pub place : ℕ
  pub within : place < length (args_of c)
  pub there : slice_index_or (args_of c) place a ≡ a
  pub unique : (j : ℕ) (e : Arg) → j < length (args_of c) → bytes_eq (slice_index_or (args_of c) j e).id.now a.id.now ≡ true → j ≡ place
  pub named : a.id.now ≡ [] → ⊥
  pub own : IsAuto a → ⊥
  pub parser : a.value_parser ≡ Some q

-- each argument of the built command with that id has the rules of the caller's
same_rules : (c : Command) (m : ArgMatches) (p : IsParsedFrom c m) (a : Arg) (q : ValueParser) → IsAlone c a q
    → (j : ℕ) (x : Arg) → j < length (args_of p.built) → slice_index_or (args_of p.built) j x ≡ x → bytes_eq x.id.now a.id.now ≡ true → SameRules a x
same_rules c m p a q one j x low high same =
    let placed = sym one.there in
    subst (λ (w : Arg). SameRules w x) one.there (same_rules_by_id c m p one.place a one.within
    (λ i e lt eq. one.unique i e lt (subst (λ (w : Arg). bytes_eq (slice_index_or (args_of c) i e).id.now w.id.now ≡ true) one.there eq))
    (λ auto. one.own (subst IsAuto one.there auto)) j x low high
    (subst (λ (w : Arg). bytes_eq x.id.now w.id.now ≡ true) placed same))

-- a value that passed an argument with that id passed the caller's parser
value_accepted : (c : Command) (m : ArgMatches) (p : IsParsedFrom c m) (a : Arg) (q : ValueParser) → IsAlone c a q
    → (v : List ℕ) → PassesArg p.built a.id.now v → Accepts a.ignore_case q v
value_accepted c m p a q one v pass =
    let s = same_rules c m p a q one pass.0 pass.1 pass.2 pass.3 pass.4.0 in
    let is_q : parser_of pass.1 ≡ q = ap parser_of_value (s.parser q one.parser) in
    subst (λ (b : Bool). Accepts b q v) s.ignore_case (subst (λ (w : ValueParser). Accepts pass.1.ignore_case w v) is_q pass.4.1)

-- values of that id are read as the caller's parser says
value_reading : (c : Command) (m : ArgMatches) (p : IsParsedFrom c m) (a : Arg) (q : ValueParser) → IsAlone c a q
    → (r : Reading) → HasReading p.built a.id.now r → r ≡ reading_of q
value_reading c m p a q one r any =
    let s = same_rules c m p a q one any.0 any.1 any.2 any.3 any.4.0 in
    sym any.4.1 ∙ ap reading_of (ap parser_of_value (s.parser q one.parser))

first_of_values : (P : Bor (List ℕ) → Type 0) (vs : List (Bor (List ℕ))) (t : List ℕ) → All P vs
    → option_map (λ s. read_as AsWritten s.now) (slice_get vs 0) ≡ Some t → (v : Bor (List ℕ)) × (v.now ≡ t) × P v
first_of_values P [] t h found = cc
first_of_values P (v ∷ vs) t h found = (v, (let same : Some v.now ≡ Some t = found in cc), All-get_or P (v ∷ vs) 0 v (omega arith) h)

-- what the entry of that id holds passed the parser
entry_accepted : (c : Command) (m : ArgMatches) (p : IsParsedFrom c m) (a : Arg) (q : ValueParser) (t : List ℕ) → IsAlone c a q → reading_of q ≡ AsWritten
    → groups_of p.built ≡ [] → (x : MatchedArg) (e : Entry) → e.1 ≡ x → e.0.now ≡ a.id.now → EntryPasses p.built e
    → option_map (λ s. read_as x.reading s.now) (slice_get x.vals.items 0) ≡ Some t → Accepts a.ignore_case q t
entry_accepted c m p a q t one written no_groups x e same_x key pass found =
    let no_group : e.1.is_group ≡ true → ⊥ = λ g. elim (pass.3 g) [
      | inl empty ↦ one.named (sym key ∙ empty)
      | inr lots ↦
          let bad : 0 < 0 = rw no_groups at lots in
          absurd (omega arith)
    ] in
    let all : All (λ v. PassesArg p.built a.id.now v.now) x.vals.items = elim pass.0 [
      | inl g ↦ absurd (no_group g)
      | inr vals ↦ subst (λ (w : List ℕ). All (λ v. PassesArg p.built w v.now) x.vals.items) key (rw same_x at vals)
    ] in
    let is : e.1.reading ≡ AsWritten = elim pass.4 [
      | inl g ↦ absurd (no_group g)
      | inr h ↦ value_reading c m p a q one e.1.reading (subst (λ (w : List ℕ). HasReading p.built w e.1.reading) key h) ∙ written
    ] in
    finish (first_of_values (λ v. PassesArg p.built a.id.now v.now) x.vals.items t all (as_written (ap (λ (y : MatchedArg). y.reading) (sym same_x) ∙ is) found))
  where
    as_written : x.reading ≡ AsWritten → option_map (λ s. read_as x.reading s.now) (slice_get x.vals.items 0) ≡ Some t
        → option_map (λ s. read_as AsWritten s.now) (slice_get x.vals.items 0) ≡ Some t
    as_written how given = rw how at given

    finish : ((v : Bor (List ℕ)) × (v.now ≡ t) × PassesArg p.built a.id.now v.now) → Accepts a.ignore_case q t
    finish first = subst (λ (w : List ℕ). Accepts a.ignore_case q w) first.1 (value_accepted c m p a q one first.0.now first.2)

-- a text that a getter reads of the argument passed its parser
pub text_accepted : (c : Command) (m : ArgMatches) (p : IsParsedFrom c m) (a : Arg) (q : ValueParser) (t : List ℕ) → IsAlone c a q → reading_of q ≡ AsWritten
    → IsPlain c → (out-Command c).has_globals ≡ false → one_text (found_of m) a.id.now ≡ Some t → Accepts a.ignore_case q t
text_accepted c m p a q t one written plain globals found = go (matched_of (found_of m) a.id.now) refl
  where
    go : (o : Option MatchedArg) → matched_of (found_of m) a.id.now ≡ o → Accepts a.ignore_case q t
    go None is =
        let bad : None ≡ Some t = rw is at found in
        cc
    go (Some x) is =
        let parsed = p.parsed (p.from.globals ∙ globals) in
        let got = entry_by_id (EntryPasses p.built) (found_of m).entries.items a.id.now x parsed.values is in
        entry_accepted c m p a q t one written (p.from.plain plain).1 x got.0 got.1 ((bytes_eq-Decides got.0.0.now a.id.now).0 got.2) got.3 (rw is at found)

use Rattle.std.proofs.Common.{rules, ◌≡◌, ◌-◌, true, false, Some, None, get_or, refl, sym, ap, subst, ◌∙◌}
use Rattle.site_ids.specs.Ids.{IsInstance}
use Rattle.node.specs.Tellings.{covered_from}
use Rattle.server_pace.specs.Courses.{is_open}
use Rattle.server_pace.specs.Questioning.{told_count}
use Rattle.server_pace.specs.declared.course.Course.{Course}
use Rattle.server_pace.proofs.NextTold.{if_none, one_course, not_due}
use Rattle.server_pace.proofs.questions.Questions.next_to.Goals as goal

-- past the last instance
pub returns-in_err-first-clause-none : goal.returns-in_err-first-clause-none
returns-in_err-first-clause-none g c =
    if_none c.from_residual-in_err-first.result _
    (λ s h d due.
    let there : get_or c.args.self.now.courses (c.args.to - 1) None ≡ Some c.in_ok-course.course = search rules in
    c.in_err-first.ensures (subst IsInstance (ap (λ (x : Course). x.next) (one_course _ d c.in_ok-course.course due.is_course there)) due.range))

pub returns-then-not-is_due-clause-none : goal.returns-then-not-is_due-clause-none
returns-then-not-is_due-clause-none g c = λ s h d due.
    let there : get_or c.args.self.now.courses (c.args.to - 1) None ≡ Some c.in_ok-course.course = search rules in
    not_due _ _ s _ c.in_ok-course.course c.telling_on.result (c.telling_on.ensures s h)
    (λ tells. let is : true ≡ false = search (rules, c.is_due.ensures.1 tells, c.if-not-is_due.true) in absurd (cc))
    d (one_course _ c.in_ok-course.course d there due.is_course) due

-- it may not set out
pub returns-then-not-is_open-clause-none : goal.returns-then-not-is_open-clause-none
returns-then-not-is_open-clause-none g c = λ s h d due.
    let course = c.in_ok-course.course in
    let there : get_or c.args.self.now.courses (c.args.to - 1) None ≡ Some course = search rules in
    let same : d ≡ course = one_course _ d course due.is_course there in
    let may : is_open course (covered_from s course.next) ≡ true = subst (λ (e : Course). is_open e (covered_from s e.next) ≡ true) same due.may_set_out in
    let count : c.covers-count.result ≡ covered_from s course.next = c.covers-count.ensures.covered s h ∙ ap (λ i. covered_from s i) c.in_ok-first.ensures.0 in
    let closed : is_open course c.covers-count.result ≡ false = sym c.is_open.ensures ∙ c.if-not-is_open.true in
    let clash : true ≡ false = sym may ∙ ap (λ n. is_open course n) (sym count) ∙ closed in
    absurd (cc)

pub returns-clause-some : goal.returns-clause-some
returns-clause-some g c = λ s h.
    let course = c.in_ok-course.course in
    let there : get_or c.args.self.now.courses (c.args.to - 1) None ≡ Some course = search rules in
    let count : c.covers-count.result ≡ covered_from s course.next = c.covers-count.ensures.covered s h ∙ ap (λ i. covered_from s i) c.in_ok-first.ensures.0 in
    let may : is_open course (covered_from s course.next) ≡ true = ap (λ n. is_open course n) (sym count) ∙ sym c.is_open.ensures ∙ c.if-not-is_open.false in
    let many : c.told_count.result ≡ told_count c.args.teller.now.known course.next (covered_from s course.next) = c.told_count.ensures ∙ ap (λ n. told_count c.args.teller.now.known course.next n) count in
    record {
      to = refl;
      is_node = c.requires;
      due = record {
        is_course = there;
        range = c.in_ok-first.ensures.1;
        telling = c.telling_on.result;
        stands = c.telling_on.ensures s h;
        due = c.is_due.ensures.0 c.if-not-is_due.false;
        may_set_out = may;
      };
      first = c.in_ok-first.ensures.0;
      count = many;
    }

use Rattle.std.proofs.Common.{inl, inr, refl}
use Rattle.server_pace.proofs.questions.Questions.next.Goals as goal

-- nobody is told
pub returns-in_err-next : goal.returns-in_err-next
returns-in_err-next g c = λ s h. record {
  mid = c.take_in.new.self;
  takes = c.take_in.ensures;
  tells = inr (c.in_err-next.ensures.none s h, c.from_residual.ensures, refl);
}

pub returns : goal.returns
returns g c = λ s h. record {
  mid = c.take_in.new.self;
  takes = c.take_in.ensures;
  tells = inl (c.in_ok-next.next, c.in_ok-next.ensures.some s h, refl, c.tell.ensures);
}

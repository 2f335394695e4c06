use Rattle.std.proofs.Common.{◌∙◌, ◌||◌, is_some, ap, ap₂}
use Rattle.site_ids.specs.declared.TheConstants.{MAX_INSTANCE}
use Rattle.server_inspect.proofs.Counted.{count_same, last_same}
use Rattle.server_inspect.proofs.view.View.of_record.Goals as goal

pub returns-clause-view : goal.returns-clause-view
returns-clause-view g c = λ entries kept. record {
  votes = c.count-counts.ensures.votes ∙ count_same _ _ MAX_INSTANCE (λ i. ap is_some (kept.slots i).vote);
  learned = c.count-counts.ensures.learned ∙ count_same _ _ MAX_INSTANCE (λ i. ap is_some (kept.learned i));
  last = c.count-counts.ensures.last ∙ last_same _ _ MAX_INSTANCE (λ i. ap₂ (λ a b. a || b) (ap is_some (kept.slots i).vote) (ap is_some (kept.learned i)));
  floor = c.floor.ensures ∙ kept.floor;
  reach = c.reach.ensures ∙ kept.reach;
}

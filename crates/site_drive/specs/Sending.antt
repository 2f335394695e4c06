-- How failed calls of a link are counted.
use Rattle.std.specs.Prelude.{ℕ}
use Rattle.site_drive.specs.Links.{RoseBy}

-- the own count rose by as many calls as the link's
pub record Counted (mine mine_after link link_after : ℕ) : Type 0 where
  pub calls : ℕ
  pub here : RoseBy calls mine mine_after
  pub there : RoseBy calls link link_after

-- What the plain hub keeps.
use Rattle.std.specs.Prelude.{◌≡◌, ◌+◌, ◌≤◌, map, length, All}
use Rattle.std.specs.Vec.{vec_capacity}
use Rattle.plain_hub.specs.declared.hub.PlainHub.TheInside.{Inside}
use Rattle.plain_hub.specs.Hub.{State, state_of, Legal, left_below, to_come}
use Rattle.plain_hub.specs.Items.{short}
use Rattle.plain_hub.specs.Proper.{LiesIn, Proper, Promised}

-- the fields are those of this hub
pub record Shows (h : Inside) (s : State) : Type 0 where
  pub jobs : h.jobs.items ≡ s.jobs
  pub items : map short h.items.items ≡ s.items
  pub ended : h.ended ≡ s.ended
  pub trouble : h.trouble ≡ s.trouble
  pub stopped : h.stopped ≡ s.stopped

-- the history is legal, and the fields are what the hub of one thread has after it
pub record Kept (h : Inside) : Type 0 where
  pub shows : Shows h (state_of h.history.items)
  pub legal : Legal h.history.items
  pub proper : Proper h.base h.history.items
  -- each job lies in the base, and each item is as promised
  pub lie : All (LiesIn h.base) h.jobs.items
  pub promised : All (Promised h.base h.history.items) h.items.items
  -- there is room for the stop and for the ends, of which there are 17 at most
  pub room : length h.history.items + to_come h.history.items ≤ vec_capacity h.history
  pub ends : h.ended + left_below 17 h.history.items ≡ 17

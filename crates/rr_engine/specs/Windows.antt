-- How a recording's events have the inputs, window by window, whatever gives them.
use Rattle.std.specs.Prelude.{◌≡◌, Bool, true, false, List, [], ◌∷◌, ◌⊎◌, is_some}
use Rattle.std.specs.declared.option.Option.{Option}
use Rattle.event_log.specs.declared.event.Event.{Event}
use Rattle.event_log.specs.declared.event.Event.TheVariants as event
use Rattle.rr_engine.specs.declared.inputs.Trouble.{Trouble}
use Rattle.rr_engine.specs.Feed.{Feed, Receives}

-- what the last window still has to take: its inputs weren't received yet; or these events of them
-- are left, with trouble behind them or not
pub data Remainder : Type 0 where
  Unreceived : Remainder
  Left : List Event → Bool → Remainder

-- nothing is left, and there was no trouble
abbrev pub nothing_left : Remainder
nothing_left = Left [] false

-- over whatever gives events from a place to a place, and then trouble
module _ {S : Type 0} (Gives : S → S → List Event → Option Trouble → Type 0) where
  -- the window has these events to take, with trouble behind them or not
  abbrev pub LeavesBy : Remainder → S → List Event → Bool → S → Type 0
  LeavesBy Unreceived s xs troubled t =
      (trouble : Option Trouble) × (is_some trouble ≡ troubled) × Gives s t xs trouble
  LeavesBy (Left ys behind) s xs troubled t = (xs ≡ ys) × (troubled ≡ behind) × (t ≡ s)

  -- the window takes none of what it received, if it received anything
  abbrev pub DropsBy : Remainder → S → S → Type 0
  DropsBy r s t =
      (t ≡ s) ⊎ ((xs : List Event) × (troubled : Bool) × LeavesBy r s xs troubled t)

  -- Each CHECKPOINT opens a window, which receives inputs once; they are its first events, in order.
  -- No other event comes before they are all there, nor behind trouble, but for an END that stops
  -- the window. At last the last window may still have something to take.
  abbrev pub HearsBy : Remainder → S → List Event → Remainder → S → Type 0
  HearsBy r s [] Unreceived t = (r ≡ Unreceived) × (t ≡ s)
  HearsBy r s [] (Left xs troubled) t = LeavesBy r s xs troubled t
  HearsBy r s (event.CharRead bytes ∷ es) q t =
      (more : List Event) × (troubled : Bool) × (m : S)
      × LeavesBy r s (event.CharRead bytes ∷ more) troubled m × HearsBy (Left more troubled) m es q t
  HearsBy r s (event.Block id ok ∷ es) q t =
      (more : List Event) × (troubled : Bool) × (m : S)
      × LeavesBy r s (event.Block id ok ∷ more) troubled m × HearsBy (Left more troubled) m es q t
  HearsBy r s (event.Net packet ∷ es) q t =
      (more : List Event) × (troubled : Bool) × (m : S)
      × LeavesBy r s (event.Net packet ∷ more) troubled m × HearsBy (Left more troubled) m es q t
  HearsBy r s (event.Checkpoint idle ∷ es) q t =
      (m : S) × LeavesBy r s [] false m × HearsBy Unreceived m es q t
  HearsBy r s (event.End reason code ∷ es) q t =
      ((m : S) × LeavesBy r s [] false m × HearsBy nothing_left m es q t)
      ⊎ ((m : S) × DropsBy r s m × HearsBy (Left [] true) m es q t)
  HearsBy r s (e ∷ es) q t = (m : S) × LeavesBy r s [] false m × HearsBy nothing_left m es q t

-- the same of a recording's feed
abbrev pub Leaves : Remainder → Feed → List Event → Bool → Feed → Type 0
Leaves r s xs troubled t = LeavesBy Receives r s xs troubled t

abbrev pub Drops : Remainder → Feed → Feed → Type 0
Drops r s t = DropsBy Receives r s t

abbrev pub Hears : Remainder → Feed → List Event → Remainder → Feed → Type 0
Hears r s events q t = HearsBy Receives r s events q t

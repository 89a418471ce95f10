-- The inputs over parts of a recording.
use Rattle.std.proofs.Common.{◌≡◌, ℕ, Bool, true, false, List, [], ◌∷◌, ◌++◌, refl, sym, ◌∙◌, subst, inl, inr}
use Rattle.std.specs.Prelude.{is_some}
use Rattle.std.specs.declared.option.Option.{Option}
use Rattle.event_log.specs.declared.event.Event.{Event}
use Rattle.event_log.specs.declared.event.Event.TheVariants as event
use Rattle.outside.specs.Causes.{Rose}
use Rattle.rr_engine.specs.declared.inputs.Trouble.{Trouble}
use Rattle.rr_engine.specs.Feed.{Feed, Source, Receives, Unfailed, Failed}
use Rattle.rr_engine.specs.Windows.{Remainder, Unreceived, Left, nothing_left, Hears, LeavesBy, DropsBy, HearsBy}

not-left : (xs : List Event) (b : Bool) → Left xs b ≡ Unreceived → ⊥
not-left xs b e = cc

module _ {S : Type 0} (Gives : S → S → List Event → Option Trouble → Type 0) where
  -- what is left to a window is left to it from where its inputs weren't received yet
  meets-more : (d : Remainder) (s : S) (xs : List Event) (b : Bool) (t : S) (ys : List Event) (c : Bool) (u : S)
      → LeavesBy Gives d s xs b t → LeavesBy Gives (Left xs b) t ys c u → LeavesBy Gives d s ys c u
  meets-more d s xs b t ys c u m (xs_is, b_is, t_is) =
      subst (λ (z : List Event). LeavesBy Gives d s z c u) (sym xs_is)
      (subst (λ (z : Bool). LeavesBy Gives d s xs z u) (sym b_is) (subst (λ (z : S). LeavesBy Gives d s xs b z) (sym t_is) m))

  drops-more : (d : Remainder) (s : S) (xs : List Event) (b : Bool) (t : S) (n : S) → LeavesBy Gives d s xs b t
      → DropsBy Gives (Left xs b) t n → DropsBy Gives d s n
  drops-more d s xs b t n m (inl same) = inr (xs, b, subst (λ (z : S). LeavesBy Gives d s xs b z) (sym same) m)
  drops-more d s xs b t n m (inr (ys, c, more)) = inr (ys, c, meets-more d s xs b t ys c n m more)

  met : (d : Remainder) (s : S) (xs : List Event) (b : Bool) (t : S) (fs : List Event) (d' : Remainder) (u : S)
      → LeavesBy Gives d s xs b t → HearsBy Gives (Left xs b) t fs d' u → HearsBy Gives d s fs d' u
  met d s xs b t [] Unreceived u m h = absurd (not-left xs b h.0)
  met d s xs b t [] (Left ys c) u m h = meets-more d s xs b t ys c u m h
  met d s xs b t (event.CharRead bytes ∷ fs) d' u m (more, c, n, first, rest) =
      (more, c, n, meets-more d s xs b t (event.CharRead bytes ∷ more) c n m first, rest)
  met d s xs b t (event.Block id ok ∷ fs) d' u m (more, c, n, first, rest) =
      (more, c, n, meets-more d s xs b t (event.Block id ok ∷ more) c n m first, rest)
  met d s xs b t (event.Net packet ∷ fs) d' u m (more, c, n, first, rest) =
      (more, c, n, meets-more d s xs b t (event.Net packet ∷ more) c n m first, rest)
  met d s xs b t (event.Checkpoint idle ∷ fs) d' u m (n, first, rest) =
      (n, meets-more d s xs b t [] false n m first, rest)
  met d s xs b t (event.End reason code ∷ fs) d' u m (inl (n, first, rest)) =
      inl (n, meets-more d s xs b t [] false n m first, rest)
  met d s xs b t (event.End reason code ∷ fs) d' u m (inr (n, drops, rest)) =
      inr (n, drops-more d s xs b t n m drops, rest)
  met d s xs b t (event.Instruction count ∷ fs) d' u m (n, first, rest) =
      (n, meets-more d s xs b t [] false n m first, rest)
  met d s xs b t (event.Interrupt ∷ fs) d' u m (n, first, rest) =
      (n, meets-more d s xs b t [] false n m first, rest)
  met d s xs b t (event.Exception ∷ fs) d' u m (n, first, rest) =
      (n, meets-more d s xs b t [] false n m first, rest)
  met d s xs b t (event.Clock value ∷ fs) d' u m (n, first, rest) =
      (n, meets-more d s xs b t [] false n m first, rest)

  hears-nothing : (d : Remainder) (s : S) (d' : Remainder) (t : S) (fs : List Event) (d'' : Remainder) (u : S)
      → HearsBy Gives d s [] d' t → HearsBy Gives d' t fs d'' u → HearsBy Gives d s fs d'' u
  hears-nothing d s Unreceived t fs d'' u (same, stays) h =
      subst (λ (z : Remainder). HearsBy Gives z s fs d'' u) (sym same) (subst (λ (z : S). HearsBy Gives Unreceived z fs d'' u) stays h)
  hears-nothing d s (Left xs b) t fs d'' u m h = met d s xs b t fs d'' u m h

  pub by-then : (d : Remainder) (s : S) (es : List Event) (d' : Remainder) (t : S) (fs : List Event) (d'' : Remainder) (u : S)
      → HearsBy Gives d s es d' t → HearsBy Gives d' t fs d'' u → HearsBy Gives d s (es ++ fs) d'' u
  by-then d s [] d' t fs d'' u a b = hears-nothing d s d' t fs d'' u a b
  by-then d s (event.CharRead bytes ∷ es) d' t fs d'' u (more, c, m, first, rest) b =
      (more, c, m, first, by-then (Left more c) m es d' t fs d'' u rest b)
  by-then d s (event.Block id ok ∷ es) d' t fs d'' u (more, c, m, first, rest) b =
      (more, c, m, first, by-then (Left more c) m es d' t fs d'' u rest b)
  by-then d s (event.Net packet ∷ es) d' t fs d'' u (more, c, m, first, rest) b =
      (more, c, m, first, by-then (Left more c) m es d' t fs d'' u rest b)
  by-then d s (event.Checkpoint idle ∷ es) d' t fs d'' u (m, first, rest) b =
      (m, first, by-then Unreceived m es d' t fs d'' u rest b)
  by-then d s (event.End reason code ∷ es) d' t fs d'' u (inl (m, first, rest)) b =
      inl (m, first, by-then nothing_left m es d' t fs d'' u rest b)
  by-then d s (event.End reason code ∷ es) d' t fs d'' u (inr (m, first, rest)) b =
      inr (m, first, by-then (Left [] true) m es d' t fs d'' u rest b)
  by-then d s (event.Instruction count ∷ es) d' t fs d'' u (m, first, rest) b =
      (m, first, by-then nothing_left m es d' t fs d'' u rest b)
  by-then d s (event.Interrupt ∷ es) d' t fs d'' u (m, first, rest) b =
      (m, first, by-then nothing_left m es d' t fs d'' u rest b)
  by-then d s (event.Exception ∷ es) d' t fs d'' u (m, first, rest) b =
      (m, first, by-then nothing_left m es d' t fs d'' u rest b)
  by-then d s (event.Clock value ∷ es) d' t fs d'' u (m, first, rest) b =
      (m, first, by-then nothing_left m es d' t fs d'' u rest b)

  -- nothing came
  pub by-none : (d : Remainder) (s : S) → HearsBy Gives d s [] d s
  by-none Unreceived s = (refl, refl)
  by-none (Left xs b) s = (refl, refl, refl)

  -- a window's inputs were received
  pub by-received : (s t : S) (xs : List Event) (trouble : Option Trouble) → Gives s t xs trouble
      → HearsBy Gives Unreceived s [] (Left xs (is_some trouble)) t
  by-received s t xs trouble r = (trouble, refl, r)

pub hears-then : (d : Remainder) (s : Feed) (es : List Event) (d' : Remainder) (t : Feed) (fs : List Event) (d'' : Remainder) (u : Feed)
    → Hears d s es d' t → Hears d' t fs d'' u → Hears d s (es ++ fs) d'' u
hears-then d s es d' t fs d'' u a b = by-then Receives d s es d' t fs d'' u a b

pub hears-none : (d : Remainder) (s : Feed) → Hears d s [] d s
hears-none d s = by-none Receives d s

pub hears-received : (s t : Feed) (xs : List Event) (trouble : Option Trouble) → Receives s t xs trouble
    → Hears Unreceived s [] (Left xs (is_some trouble)) t
hears-received s t xs trouble r = by-received Receives s t xs trouble r

-- ---- faults

pub unfailed-same : (s : Feed) → Unfailed s s
unfailed-same (Source i) = refl

pub unfailed-then : (s t u : Feed) → Unfailed s t → Unfailed t u → Unfailed s u
unfailed-then (Source i) (Source j) (Source k) p q = q ∙ p

pub failed-after : (s t u : Feed) → Unfailed s t → Failed t u → Failed s u
failed-after (Source i) (Source j) (Source k) p q = subst (λ (z : ℕ). Rose z k.faults) p q

-- the feed stayed as it was
pub same-unfailed : (s t : Feed) → t ≡ s → Unfailed s t
same-unfailed s t same = subst (Unfailed s) (sym same) (unfailed-same s)

-- The whole invariant, and that every move keeps it.
use Rattle.std.specs.Prelude.{ℕ, ◌<◌, ◌≡◌, Bool, true, false, ◌==◌}
use Rattle.onecopy.specs.Words.{aborted, Cmp, cmp, same, other}
use Rattle.onecopy.specs.Views.{View, Move}
use Rattle.onecopy.specs.Phase as phase
use Rattle.onecopy.specs.Phases.{Phases, phases_kept, Own, own-quiet, own-kept}
use Rattle.onecopy.specs.Kinds.{kind}
use Rattle.onecopy.specs.Apart.{ApartOf, apart_kept}
use Rattle.onecopy.specs.Logged.{LoggedOf, logged_kept}

pub record Good (s : View) : Type 0 where
  pub phases : Phases s
  pub own : Own s
  pub apart : ApartOf s
  pub logged : LoggedOf s

pub moved : {s s' : View} → Move s s' → Good s → Good s'
moved {s} {s'} m g = record {
  phases = phases_kept s s' m g.phases;
  own = own-kept s s' m g.own;
  apart = apart_kept s s' g.phases (kind s s' g.phases m) g.apart;
  logged = logged_kept s s' g.phases g.apart (kind s s' g.phases m) g.logged;
}

-- no commit and no abort lies at a site about one that is aborted there
pub quiet-there : (s : View) → Good s → (j t : ℕ) → j < s.sites → s.status j t ≡ aborted
    → (s.net.commit j t ≡ false) × (s.net.abort j t ≡ false)
quiet-there s g j t b e = go (j == s.home t) (cmp j (s.home t))
  where
    go : (d : Bool) → Cmp j (s.home t) d → (s.net.commit j t ≡ false) × (s.net.abort j t ≡ false)
    go true (same q) = rw q (own-quiet (g.own t))
    go false (other q) = phase.aborted-quiet (rw e at (g.phases t j b q))

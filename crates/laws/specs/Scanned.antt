-- 01, "The scan": what it leaves of a state.
use Rattle.std.specs.Prelude.{ℕ, ◌<◌, ◌≡◌, refl, false, List, slice_index_or}
use Rattle.std.proofs.Math.Path.{ap}
use Rattle.std.proofs.Common.{◌∙◌, arith}
use Rattle.std.proofs.Math.ListN.{length, length-set}
use Rattle.std.proofs.Math.Seq.{get_or-set_same, get_or-set_other}
use Rattle.protocol.specs.State.{max_sites, no_row, no_place, empty_channel, row_at, place_at, with_row, with_place, with_queue, with_channel}
use Rattle.protocol.specs.Channel.{delivered, multicast}
use Rattle.protocol.specs.Scan.{scan_all, scan_from, scan_leaves, scan}
use Rattle.protocol.specs.declared.Message.{Message}
use Rattle.protocol.specs.declared.Message.TheVariants.{Ready, Abort}
use Rattle.protocol.specs.declared.Place.{Place}
use Rattle.protocol.specs.declared.Scan.{Scan}
use Rattle.protocol.specs.declared.State.{State}
use Rattle.laws.specs.Lists.{length-each, get_or-each}
use Rattle.laws.specs.Shape.{Shaped}

-- the scan of the queue of site i, at its end
abbrev pub scanned : State → ℕ → Scan
scanned s i = scan_all s.count s.txns i (scan_from s i)

-- what a site has besides its channel
abbrev pub beside_channel : Place → Place
beside_channel p = with_channel p empty_channel

-- a sending changes channels only
module _ (m : Message) (to : ℕ → ℕ) (ps : List Place) where
  sent_length : length (delivered m to ps) ≡ length ps
  unfolding delivered
  sent_length = length-each _ ps

  sent_beside : (j : ℕ) → j < length ps → beside_channel (slice_index_or (delivered m to ps) j no_place) ≡ beside_channel (slice_index_or ps j no_place)
  unfolding delivered
  sent_beside j l = ap beside_channel (get_or-each _ ps j no_place l)

-- a scan leaves the table of transactions alone
pub scan-table : (s : State) (i : ℕ)
    → ((scan s i).state.sites ≡ s.sites) × ((scan s i).state.count ≡ s.count) × ((scan s i).state.txns ≡ s.txns)
unfolding scan scan_leaves
scan-table s i = (refl, refl, refl)

module _ (s : State) (i : ℕ) (shaped : Shaped s) (site : i < max_sites) where
  -- the statuses at site i are those of the scan
  pub scan_row : row_at (scan s i).state i ≡ (scanned s i).row
  unfolding scan scan_leaves
  scan_row = get_or-set_same s.rows i (scanned s i).row no_row (omega arith)

  -- other sites keep theirs
  pub scan_row_other : (j : ℕ) → (j ≡ i → ⊥) → row_at (scan s i).state j ≡ row_at s j
  unfolding scan scan_leaves
  scan_row_other j n = get_or-set_other s.rows i j (scanned s i).row no_row n

  -- site i with "those that wait", and *remove* false
  abbrev queued : Place
  queued = with_queue (place_at s i) (scanned s i).waiting false

  -- which is all that changes beside the channels
  beside : (j : ℕ) → j < max_sites
      → beside_channel (place_at (scan s i).state j) ≡ beside_channel (place_at (with_place s i queued) j)
  unfolding scan scan_leaves
  beside j l =
      let settled : State = with_place (with_row s i (scanned s i).row) i queued in
      let asked : State = multicast Abort i (scanned s i).aborts settled in
      let size : j < length settled.places = simp length-set (omega arith) in
      sent_beside (Ready i) _ asked.places j (simp sent_length size) ∙ sent_beside Abort _ settled.places j size

  -- site i keeps its log and its versions
  pub scan_place : beside_channel (place_at (scan s i).state i) ≡ beside_channel (with_queue (place_at s i) (scanned s i).waiting false)
  scan_place = beside i site ∙ ap beside_channel (get_or-set_same s.places i queued no_place (omega arith))

  -- other sites keep all but their channels
  pub scan_place_other : (j : ℕ) → j < max_sites → (j ≡ i → ⊥)
      → beside_channel (place_at (scan s i).state j) ≡ beside_channel (place_at s j)
  scan_place_other j l n = beside j l ∙ ap beside_channel (get_or-set_other s.places i j queued no_place n)

  -- "Those that wait are the queue afterwards"
  pub scan_queue : (place_at (scan s i).state i).queue ≡ (scanned s i).waiting
  scan_queue = ap (λ p. p.queue) scan_place

  -- "*remove* is false"
  pub scan_remove : (place_at (scan s i).state i).remove ≡ false
  scan_remove = ap (λ p. p.remove) scan_place

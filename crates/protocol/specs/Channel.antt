-- 01, "In the channel a message is one of four kinds .. each is about one transaction. The channel is a set without
-- order": whether a message lies there, taking one, and sending.
use Rattle.std.specs.Prelude.{ℕ, Bool, cond, ◌&&◌, List, set, ◌==◌}
use Rattle.sets.specs.Set.{has, none, with, without, union, those, all_but}
use Rattle.protocol.specs.Lists.{each}
use Rattle.protocol.specs.State.{max_txns, ready_in, txn_in, with_places, with_channel}
use Rattle.protocol.specs.declared.Message.{Message}
use Rattle.protocol.specs.declared.Message.TheVariants.{Remote, Ready, Commit, Abort}
use Rattle.protocol.specs.declared.Channel.{Channel}
use Rattle.protocol.specs.declared.Place.{Place}
use Rattle.protocol.specs.declared.Txn.{Txn}
use Rattle.protocol.specs.declared.State.{State}

-- the message about t lies in the channel; Figure 2: m ∈ channel
unfoldable pub lies : Message → ℕ → Channel → Bool
lies Remote t c = has c.remote t
lies (Ready k) t c = has (ready_in c t) k
lies Commit t c = has c.commit t
lies Abort t c = has c.abort t

-- the channel without the message about t
unfoldable pub taken : Message → ℕ → Channel → Channel
taken Remote t c = record { remote = without c.remote t; ready = c.ready; commit = c.commit; abort = c.abort }
taken (Ready k) t c =
    record { remote = c.remote; ready = set c.ready t (without (ready_in c t) k); commit = c.commit; abort = c.abort }
taken Commit t c = record { remote = c.remote; ready = c.ready; commit = without c.commit t; abort = c.abort }
taken Abort t c = record { remote = c.remote; ready = c.ready; commit = c.commit; abort = without c.abort t }

-- "message taken": the site without it; Figure 2: receive(m)
abbrev pub received : Message → ℕ → Place → Place
received m t p = with_channel p (taken m t p.channel)

-- a ready from site k about each transaction of the set ts
unfoldable pub ready_with : List ℕ → ℕ → ℕ → List ℕ
ready_with ready ts k = each (λ t from. cond (has ts t) (with from k) from) ready

-- the channel with the message about each transaction of the set ts
unfoldable pub put : Message → ℕ → Channel → Channel
put Remote ts c = record { remote = union c.remote ts; ready = c.ready; commit = c.commit; abort = c.abort }
put (Ready k) ts c = record {
  remote = c.remote;
  ready = ready_with c.ready ts k;
  commit = c.commit;
  abort = c.abort;
}
put Commit ts c = record { remote = c.remote; ready = c.ready; commit = union c.commit ts; abort = c.abort }
put Abort ts c = record { remote = c.remote; ready = c.ready; commit = c.commit; abort = union c.abort ts }

-- the message m put into the channel of each site j about each transaction of the set `to j`
unfoldable pub delivered : Message → (ℕ → ℕ) → List Place → List Place
delivered m to ps = each (λ j p. with_channel p (put m (to j) p.channel)) ps

-- those of ts that have their home at j
unfoldable pub homed_at : List Txn → ℕ → ℕ → ℕ
homed_at xs ts j = those max_txns (λ t. has ts t && (txn_in xs t).home == j)

-- all sites but i; Figure 2: availableNodes \ {i}. "Messages sent are counted by the sites in the set they go to": a
-- multicast sends `size (others s i)` messages.
abbrev pub others : State → ℕ → ℕ
others s i = all_but s.sites i

-- Figure 2: sendRMulticast, from site i to all other sites, about each transaction of ts
abbrev pub multicast : Message → ℕ → ℕ → State → State
multicast m i ts s = with_places s (delivered m (λ j. cond (has (others s i) j) ts none) s.places)

-- Figure 2: sendRUnicast(ready) from site i, about each transaction of ts to its own home
abbrev pub ready_home : ℕ → ℕ → State → State
ready_home i ts s = with_places s (delivered (Ready i) (homed_at s.txns ts) s.places)
